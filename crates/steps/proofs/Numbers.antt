-- The loops over a list of clause numbers, by the number of the turn and those that are left; the clause table cleared of a list of
-- numbers.
-- Assumes nothing.
use Prim.Native.Nat.{ℕ, suc, ◌+◌, ◌≤◌, ◌<◌}
use mathlib.Core.Path.{◌≡◌, refl, sym, ap, ◌∙◌}
use mathlib.Core.Bool.{Bool, true, false, ◌&&◌}
use mathlib.Core.List.Memᴰ
use mathlib.Core.List.{List, [], ◌∷◌, ◌++◌}
use native.Mathlib.Omega.{arith}
use native.Mathlib.Decide.{dec_lt}
use lib.Dec.{ltb}
use lib.ListN.{length, get_or, set, get_or-eq_default}
use Rattle.paper.specs.declared.Reason.{Reason}
use Rattle.paper.specs.declared.Reason.TheVariants.{NumberNotLive}
use Rattle.paper.specs.declared.Extent.{Extent}
use Rattle.paper.specs.Atoms.{◌∈◌, Formula}
use Rattle.paper.specs.Files.{File, ok, bad, ◌>>◌, need, payload, field, even, codes}
use Rattle.paper.specs.Conditions.{is_in, without, after}
use Rattle.paper.specs.Refusals.{is_live, check_numbers}
use Rattle.paper.proofs.Lists.{leb_yes, leb_within, leb_beyond}
use Rattle.paper.specs.Valid.{Listed}
use Rattle.lookup.specs.Clause.{proof_word, Entered, cleared, ClauseTable}
use Rattle.lookup.specs.Live.{live}
use Rattle.lookup.proofs.Clause.{proof_stands}
use Rattle.lookup.proofs.Live.{is_live_word, live_cleared, without_more, proof_entered}
use Rattle.lookup.proofs.Table.{table_entered, table_cleared, cleared_length}
use Rattle.steps.specs.Steps.{removed, Below}

-- 1. The check: one law for each way that a turn of its loop goes, where a number and those behind it are left.
not_both : (a b : Bool) → b ≡ false → (a && b) ≡ false
not_both true b e = e
not_both false b e = refl

module _ (F : Formula) (last p n : ℕ) {here rest : List ℕ} (step : here ≡ n ∷ rest) where
  number_refused : (is_live n F && ltb last n) ≡ false → check_numbers F last p here ≡ bad NumberNotLive p
  unfolding check_numbers need ◌>>◌
  number_refused q = rw (step, q)

  number_passed : (is_live n F && ltb last n) ≡ true → check_numbers F last p here ≡ check_numbers F n (p + 2) rest
  unfolding check_numbers need ◌>>◌
  number_passed q = rw (step, q)

-- by the tests of the code
module _ (ws : List ℕ) (last at n : ℕ) {here rest : List ℕ} (step : here ≡ n ∷ rest) (f p : File) where
  pub not_above : n ≤ last → check_numbers (live f p ws) last at here ≡ bad NumberNotLive at
  not_above k =
      number_refused (live f p ws) last at n step (not_both (is_live n (live f p ws)) (ltb last n) (leb_beyond (suc last) n (omega arith)))

  pub not_live : get_or ws n 0 < 1048576 → check_numbers (live f p ws) last at here ≡ bad NumberNotLive at
  not_live z = number_refused (live f p ws) last at n step (rw (is_live_word f p ws n, leb_beyond 1048576 (get_or ws n 0) z))

  pub too_high : length ws ≤ n → check_numbers (live f p ws) last at here ≡ bad NumberNotLive at
  too_high k = let z = get_or-eq_default ws 0 k in not_live (omega arith)

  pub number_fine : last < n → Entered (get_or ws n 0) → check_numbers (live f p ws) last at here ≡ check_numbers (live f p ws) n (at + 2) rest
  number_fine k ne =
      number_passed (live f p ws) last at n step
      (rw (is_live_word f p ws n, leb_within 1048576 (get_or ws n 0) ne, leb_within (suc last) n (omega arith)))

-- 2. The table cleared.
without_none : (F : Formula) → without [] F ≡ F
unfolding without is_in
without_none [] = refl
without_none (D ∷ F) = ap (λ (G : Formula). D ∷ G) (without_none F)

pub removed_length : (ns ws : List ℕ) → length (removed ws ns) ≡ length ws
unfolding removed
removed_length [] ws = refl
removed_length (n ∷ ns) ws = cleared_length (removed ws ns) n ∙ removed_length ns ws

-- what holds of all the listed numbers holds of the first, and of the others
below_first : {k n : ℕ} {ns : List ℕ} → Below k (n ∷ ns) → n < k
below_first {k} {n} {ns} b = b n (Memᴰ.head refl)

below_rest : {k n : ℕ} {ns : List ℕ} → Below k (n ∷ ns) → Below k ns
below_rest b m q = b m (Memᴰ.tail q)

live_removed : (f p : File) (ns ws : List ℕ) → Below 65536 ns → live f p (removed ws ns) ≡ without ns (live f p ws)
unfolding removed
live_removed f p [] ws b = sym (without_none (live f p ws))
live_removed f p (n ∷ ns) ws b =
    live_cleared f p (removed ws ns) n (below_first b)
    ∙ ap (without (n ∷ [])) (live_removed f p ns ws (below_rest b))
    ∙ without_more n ns (live f p ws)

table_removed : {f p : File} {next : ℕ} (ns ws : List ℕ) → ClauseTable f p next ws → next < 1048576 → next ≤ length ws → Below next ns
    → ClauseTable f p next (removed ws ns)
unfolding removed
table_removed [] ws t last long b = t
table_removed {f} {p} {next} (n ∷ ns) ws t last long b =
    let below : n < next = below_first b in
    table_cleared (table_removed ns ws t last long (below_rest b)) n (omega (arith, removed_length ns ws)) below last

-- the loop goes from the last number to the first
pub removed_last : (ws : List ℕ) (n : ℕ) (ns : List ℕ) → removed ws (ns ++ n ∷ []) ≡ removed (cleared ws n) ns
unfolding removed
removed_last ws n [] = refl
removed_last ws n (m ∷ ns) = ap (λ (us : List ℕ). cleared us m) (removed_last ws n ns)

pub below_last : {k n : ℕ} (ns : List ℕ) → Below k (ns ++ n ∷ []) → n < k
below_last {k} {n} ns b = b n (Memᴰ.append_right ns (Memᴰ.head refl))

pub below_front : {k : ℕ} (n : ℕ) (ns : List ℕ) → Below k (ns ++ n ∷ []) → Below k ns
below_front n ns b m q = b m (Memᴰ.append_left (n ∷ []) q)

-- the numbers of live clauses are in use
listed_live : (F : Formula) (last : ℕ) (ns : List ℕ) → Listed F last ns → (n : ℕ) → n ∈ ns → is_live n F ≡ true
listed_live F last [] l n q = elim q [ ]
listed_live F last (m ∷ ns) l n (Memᴰ.head e) = rw e l.0
listed_live F last (m ∷ ns) l n (Memᴰ.tail q) = listed_live F m ns l.2 n q

pub listed_used : {f p : File} {next : ℕ} {ws : List ℕ} → ClauseTable f p next ws → (ns : List ℕ) → Listed (live f p ws) 0 ns → Below next ns
listed_used {f} {p} {next} {ws} t ns l n q = go (dec_lt n next)
  where
    in_use : Entered (get_or ws n 0)
    in_use = leb_yes 1048576 (get_or ws n 0) (sym (is_live_word f p ws n) ∙ listed_live (live f p ws) 0 ns l n q)

    go : Dec (n < next) → n < next
    go (yes h) = h
    go (no h) = let z = t.unused n (omega arith) in absurd (omega (arith, in_use))

-- 3. The table after a step: "After a step RUP, SR or WSR, C is live and the MODULO clauses aren't."
module _ {f p : File} {next : ℕ} {ws : List ℕ} (t : ClauseTable f p next ws) (last : next ≤ 16384) (long : next ≤ length ws) (ns : List ℕ) (b : Below next ns) where
  below_wide : Below 65536 ns
  below_wide n q = let h = b n q in omega arith

  pub after_removing : (live f p (removed ws ns) ≡ without ns (live f p ws)) × ClauseTable f p next (removed ws ns)
  after_removing = (live_removed f p ns ws below_wide, table_removed ns ws t (omega arith) long b)

  module _ (why : Reason) (tag at : ℕ) (e : Extent) (small : at < 1048576) (room : next < length ws) (q : field why tag even p at ≡ ok e) where
    abbrev now : List ℕ
    now = set (removed ws ns) next (proof_word at)

    pub after_adding : (live f p now ≡ after ns next (codes (payload p e)) (live f p ws)) × ClauseTable f p (next + 1) now
    unfolding after
    after_adding =
        let u = after_removing.1 in
        let h : next < length (removed ws ns) = omega (arith, removed_length ns ws) in (
          proof_entered why tag f p at e small (removed ws ns) next u.unused h q
              ∙ ap (λ (G : Formula). G ++ ((next, codes (payload p e)) ∷ [])) after_removing.0,
          table_entered u h (proof_word at) (omega arith) (proof_stands why tag f p at e small q),
        )
