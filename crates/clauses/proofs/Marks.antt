-- Marks in the table of the variables: the loop that sets them until it meets a variable that has one, and how they are cleared.
-- Assumes nothing.
use Prim.Native.Nat.{ℕ, suc, ◌+◌, ◌*◌, ◌/◌, ◌≤◌, ◌<◌}
use mathlib.Core.Path.{◌≡◌, refl, sym, ap, ◌∙◌}
use mathlib.Core.Logic.{◌≢◌}
use mathlib.Core.Bool.{Bool, true, false}
use mathlib.Core.List.Memᴰ
use mathlib.Core.List.{List, [], ◌∷◌}
use native.Mathlib.Omega.{arith}
use native.Mathlib.Decide.{ℕ_discrete}
use lib.ListN.{length, take}
use lib.Seq.{take_all}
use Rattle.std.proofs.Common.{Some, None}
use Rattle.paper.specs.declared.Reason.{Reason}
use Rattle.paper.specs.Atoms.{◌∈◌, Clause}
use Rattle.paper.specs.Files.{bad, codes}
use Rattle.paper.specs.Conditions.{is_in}
use Rattle.paper.specs.Refusals.{no_two}
use Rattle.paper.proofs.Lists.{eqb_same, eqb_other}
use Rattle.paper.proofs.Scan.{step_now, step_later}
use Rattle.table.specs.Table.{Zero, value_at, set_value}
use Rattle.table.proofs.Laws.{value_same, value_other}
use Rattle.table.proofs.Kept.{zero_value}
use Rattle.loading.specs.Loading.{Storable, Among, unset_clause}
use Rattle.loading.proofs.Undone.{among_start, among_put, clause_undone}
use Rattle.clauses.specs.Check.{variables, marked, Looked}

-- 1. Marks set and cleared again leave the table as it was.
among_marked : (t₀ names vs t : List ℕ) → ((v : ℕ) → v ∈ vs → v ∈ names) → Among t₀ t names → Among t₀ (marked t vs) names
unfolding marked
among_marked t₀ names [] t in' a = a
among_marked t₀ names (v ∷ vs) t in' a =
    among_marked t₀ names vs (set_value t v 1) (λ w m. in' w (Memᴰ.tail m)) (among_put t₀ t names v 1 (omega arith) (in' v (Memᴰ.head refl)) a)

pub marks_cleared : (t : List ℕ) (C : Clause) → Zero t → unset_clause (marked t (variables C)) C ≡ t
marks_cleared t C z =
    let start = among_start t (zero_value t z) (variables C) in
    clause_undone t (zero_value t z) C _ (among_marked t (variables C) (variables C) t (λ v m. m) start)

-- 2. The loop that sets the marks. A variable has a mark where it was seen.
unfoldable pub mark : Bool → ℕ
mark true = 1
mark false = 0

mark_none : (b : Bool) (x : ℕ) → x ≡ mark b → x ≡ 0 → b ≡ false
unfolding mark
mark_none true x e z = absurd (omega arith)
mark_none false x e z = refl

mark_some : (b : Bool) (x : ℕ) → x ≡ mark b → x ≢ 0 → b ≡ true
unfolding mark
mark_some true x e ne = refl
mark_some false x e ne = absurd (ne e)

-- one variable more is marked
mark_more : (t seen : List ℕ) (v : ℕ) → v * 2 < length t → ((w : ℕ) → value_at t w ≡ mark (is_in w seen)) → (w : ℕ)
    → value_at (set_value t v 1) w ≡ mark (is_in w (v ∷ seen))
unfolding is_in mark
mark_more t seen v h marks w = go (ℕ_discrete w v)
  where
    go : Dec (w ≡ v) → value_at (set_value t v 1) w ≡ mark (is_in w (v ∷ seen))
    go (yes e) = rw (eqb_same w v e, e) (value_same t v 1 h (omega arith))
    go (no ne) = rw (eqb_other w v ne) (value_other t v 1 w ne ∙ marks w)

-- one variable in front, seen already or not
module _ (why : Reason) (seen : List ℕ) (p v : ℕ) (vs : List ℕ) where
  no_two_found : is_in v seen ≡ true → no_two why seen 2 p (v ∷ vs) ≡ bad why p
  unfolding no_two
  no_two_found e = rw (e, no_two)

  no_two_next : is_in v seen ≡ false → no_two why seen 2 p (v ∷ vs) ≡ no_two why (v ∷ seen) 2 (p + 2) vs
  unfolding no_two
  no_two_next e = rw (e, no_two)

-- t₀ is the table at entry, t that after k codes of the payload bs, with the bytes left to come
pub record Marking (bs t₀ t : List ℕ) (k : ℕ) (left : List ℕ) : Type 0 where
  pub small : Storable (codes left)
  pub counted : k + length (codes left) ≡ length (codes bs)
  pub seen : List ℕ
  pub marks : (v : ℕ) → value_at t v ≡ mark (is_in v seen)
  pub among : Among t₀ t (variables (codes bs))
  pub inside : (v : ℕ) → v ∈ variables (codes left) → v ∈ variables (codes bs)
  pub rest : (why : Reason) (p : ℕ) → no_two why seen 2 (p + 2 * k) (variables (codes left)) ≡ no_two why [] 2 p (variables (codes bs))
  -- up to any code that is still to come the marks are those of the codes
  pub table : (n : ℕ) → marked t (variables (take n (codes left))) ≡ marked t₀ (variables (take (k + n) (codes bs)))

pub marking_start : (bs t : List ℕ) → Storable (codes bs) → Zero t → Marking bs t t 0 bs
unfolding is_in mark
marking_start bs t s z = record {
  small = s;
  counted = omega arith;
  seen = [];
  marks = λ v. zero_value t z v;
  among = among_start t (zero_value t z) (variables (codes bs));
  inside = λ v n. n;
  rest = λ why p. let same : p + 2 * 0 ≡ p = omega arith in rw same;
  table = λ n. let same : 0 + n ≡ n = omega arith in rw same;
}

module _ {bs t₀ t : List ℕ} {k : ℕ} {left : List ℕ} (m : Marking bs t₀ t k left) where
  -- the marks so far
  so_far : t ≡ marked t₀ (variables (take k (codes bs)))
  unfolding marked
  so_far = let same : k + 0 ≡ k = omega arith in rw same at (m.table 0)

  module _ (l : ℕ) (later : List ℕ) (e : codes left ≡ l ∷ codes later) where
    -- what is said from this code on
    here : (why : Reason) (p : ℕ) → no_two why m.seen 2 (p + 2 * k) (l / 2 ∷ variables (codes later)) ≡ no_two why [] 2 p (variables (codes bs))
    here why p = sym (ap (λ C. no_two why m.seen 2 (p + 2 * k) (variables C)) e) ∙ m.rest why p

    -- its variable is one of the payload's
    pub its_variable : l / 2 ∈ variables (codes bs)
    its_variable = rw e at m.inside (l / 2) (Memᴰ.head refl)

    pub marking_found : value_at t (l / 2) ≢ 0 → Looked bs t₀ t (Some k)
    marking_found ne = record {
      said = λ why p. sym (here why p) ∙ no_two_found why m.seen (p + 2 * k) (l / 2) _ (mark_some (is_in (l / 2) m.seen) _ (m.marks (l / 2)) ne);
      within = omega (arith, m.counted, ap length e);
      table = so_far;
      marks = m.among;
    }

    pub marking_turn : 8192 ≤ length t → value_at t (l / 2) ≡ 0 → (u : List ℕ) → u ≡ set_value t (l / 2) 1 → Marking bs t₀ u (k + 1) later
    unfolding marked
    marking_turn r z u q = rw q record {
      small = step_later l e m.small;
      counted = omega (arith, m.counted, ap length e);
      seen = l / 2 ∷ m.seen;
      marks = mark_more t m.seen (l / 2) (let n = step_now l e m.small in omega arith) m.marks;
      among = among_put t₀ t (variables (codes bs)) (l / 2) 1 (omega arith) its_variable m.among;
      inside = λ v n. rw e at m.inside v (Memᴰ.tail n);
      rest = λ why p.
          let place : p + 2 * (k + 1) ≡ p + 2 * k + 2 = omega arith in
          rw place (sym (no_two_next why m.seen (p + 2 * k) (l / 2) _ (mark_none (is_in (l / 2) m.seen) _ (m.marks (l / 2)) z)) ∙ here why p);
      table = λ n.
          let one_more : k + 1 + n ≡ k + suc n = omega arith in
          rw one_more (sym (ap (λ C. marked t (variables (take (suc n) C))) e) ∙ m.table (suc n));
    }

  pub marking_end : codes left ≡ [] → Looked bs t₀ t None
  unfolding no_two
  marking_end e = record {
    said = λ why p. sym (m.rest why p) ∙ ap (λ C. no_two why m.seen 2 (p + 2 * k) (variables C)) e;
    within = tt;
    table = rw (take_all k (codes bs) (omega (arith, m.counted, ap length e))) at so_far;
    marks = m.among;
  }
