-- What the sweeps' clash says of a clause, whether one passes, and how the table comes back.
-- Assumes nothing.
use Prim.Native.Nat.{ℕ, ◌+◌, ◌*◌, ◌≤◌, ◌<◌}
use mathlib.Core.Path.{◌≡◌, refl, sym, ◌∙◌}
use mathlib.Core.Logic.{◌↔◌, ◌⊎◌, inl, inr}
use mathlib.Core.Bool.{true, false, true≢false}
use mathlib.Core.List.{List, ◌++◌, map}
use native.Mathlib.Omega.{arith}
use lib.ListN.{length}
use Rattle.paper.specs.Atoms.{complement, ◌∈◌, Clause, Formula, Witness}
use Rattle.paper.specs.Files.{File}
use Rattle.paper.specs.Conditions.{image, RUP, Trivialises, under, Passes, trivial, opposed, follows}
use Rattle.paper.specs.Valid.{Codes}
use Rattle.lookup.specs.Live.{live}
use Rattle.table.specs.Table.{image_of, clear_values}
use Rattle.table.proofs.Kept.{kept_trans, cleared}
use Rattle.loading.specs.declared.Assumed.TheVariants as assumed_cases
use Rattle.loading.specs.Loading.{Storable, assumed, imaged, Inward, Images, Decides}
use Rattle.loading.proofs.Trivial.{codes_storable}
use Rattle.loading.proofs.Opposed.{Within, Opposes, clause_opposed, imaged_within, images_pass, images_opposed, images_not_opposed, images_not_trivial, opposes_loaded}
use Rattle.sweep.specs.declared.Propagation.{Propagation}
use Rattle.sweep.specs.Swept.{state_of}
use Rattle.propagation.specs.Propagated.{begun, Propagable, Propagated}
use Rattle.propagation.proofs.Laws.{propagable, propagated_clash, propagated_beyond}
use Rattle.conditions.specs.Asked.{Asked}

module _ {f p : File} {ws : List ℕ} {C : Clause} {vars : ℕ} {t : List ℕ} (asked : Asked f p ws C vars t) where
  abbrev F : Formula
  F = live f p ws

  long : vars * 2 < length t
  long =
      let h = asked.ready.small in
      let k = asked.ready.long in
      omega arith

  -- what the callees ask
  pub clause_fits : (8192 ≤ length t) × Storable C
  clause_fits = (asked.ready.long, codes_storable vars C asked.ready.small asked.codes)

  pub clause_state : {u : List ℕ} → u ≡ assumed t C → Opposes vars t u C
  clause_state e = rw e (clause_opposed vars t long C asked.codes asked.apart asked.ready.unset)

  -- a table that differs from t in values of the variables 1 to vars alone, and what propagation makes of it
  module _ {u : List ℕ} (w : Within vars t u) where
    pub within_propagable : Propagable f p ws u
    within_propagable =
        propagable vars f p ws u asked.ready.small asked.valid asked.numbers (omega (arith, w.kept.long, asked.ready.long))

    pub propagated_cleared : {u' : List ℕ} {r : Propagation} → Propagated f p ws u u' r → clear_values vars u' ≡ t
    propagated_cleared x =
        cleared vars (kept_trans w.kept x.kept) asked.ready.unset
        (λ v h. propagated_beyond x vars asked.valid.codes v h ∙ w.beyond v h)

  -- the literals of B are false: propagation clashes exactly where B is RUP
  pub clash_decides : {u : List ℕ} {B : Clause} → Opposes vars t u B → {u' : List ℕ} {r : Propagation} → Propagated f p ws u u' r → Decides r.clash (RUP F B)
  clash_decides {u} {B} o {r} x = record { yes = iff.0; no = λ e c. true≢false (sym (iff.1 c) ∙ e) }
    where
      iff : (r.clash ≡ true) ↔ RUP F B
      iff =
          propagated_clash x vars asked.ready.small asked.valid (map complement B)
          (opposes_loaded vars 4095 t u B asked.ready.small o F (state_of u begun) refl refl)

  -- the clause D by its images, after C
  module _ (inward : Inward vars t) {D : Clause} (codes_d : Codes vars D) {u : List ℕ} (o : Opposes vars t u C) where
    pub images_fit : (8192 ≤ length u) × Storable D
    images_fit = (omega (arith, o.within.kept.long, asked.ready.long), codes_storable vars D asked.ready.small codes_d)

    pub images_leave : {u' : List ℕ} → u' ≡ (imaged u D).table → Within vars t u'
    images_leave e = rw e (imaged_within vars t long inward D codes_d u o.within)

    module _ (s : Witness) (images : Images t s) where
      near : (l : ℕ) → 2 ≤ l → l ≤ 2 * vars + 1 → image_of t l ≡ image s l
      near l h k =
          let small = asked.ready.small in
          images l h (omega arith)

      pub passes_by_images : assumed_cases.Passes ≡ (imaged u D).answer → Decides true (Passes F C s D)
      passes_by_images e = record { yes = λ _. go (images_pass vars t long s near inward D codes_d C u o (sym e)); no = λ q. absurd (true≢false q) }
        where
          go : (Trivialises s D) ⊎ ((l : ℕ) × (l ∈ under s D) × (complement l ∈ C)) → Passes F C s D
          go (inl q) = trivial q
          go (inr q) = opposed q.1 q.2

      pub passes_by_clash : assumed_cases.Open ≡ (imaged u D).answer → {u' : List ℕ} → u' ≡ (imaged u D).table
          → {u'' : List ℕ} {r : Propagation} → Propagated f p ws u' u'' r → Decides r.clash (Passes F C s D)
      passes_by_clash e e' {r} x = record { yes = λ q. follows (d.yes q); no = λ q z. go q z }
        where
          d : Decides r.clash (RUP F (C ++ under s D))
          d = clash_decides (rw e' (images_opposed vars t long s near inward D codes_d C u o (sym e))) x

          go : r.clash ≡ false → Passes F C s D → ⊥
          go q (trivial z) = images_not_trivial vars t long s near inward D codes_d C u o (sym e) z
          go q (opposed {l} m n) = images_not_opposed vars t long s near inward D codes_d C u o (sym e) l m n
          go q (follows z) = d.no q z

-- what the calls of `is_rup` and `passes` ask, from what is asked of them
pub ruleset asked_gives = (clause_fits, clause_state, within_propagable, images_fit, images_leave)
