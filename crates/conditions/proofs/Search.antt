-- The search by rising number: MODULO read along with the numbers, and what holds of the numbers passed.
-- Assumes nothing.
use Prim.Native.Nat.{ℕ, suc, ◌+◌, ◌≤◌, ◌<◌}
use mathlib.Core.Path.{◌≡◌, refl, sym, ap, ◌∙◌, subst}
use mathlib.Core.Bool.{Bool, true, false, false≢true, true≢false}
use mathlib.Core.List.Memᴰ
use mathlib.Core.List.{List, [], ◌∷◌}
use mathlib.Core.Logic.{◌≢◌}
use native.Mathlib.Omega.{arith}
use native.Mathlib.Decide.{dec_lt}
use native.Mathlib.Numerals.{add-one}
use borrow.Author.Count.{below_none, below_more}
use lib.ListN.{length, get_or}
use Rattle.std.specs.Prelude.{Option, Some, None, MatchOption, IfSome, IsTrue, is_some, eqb}
use Rattle.std.specs.Iterator.{YieldsFirst}
use Rattle.std.specs.declared.iter.Ahead.{Ahead}
use Rattle.std.specs.Iterator.Adapters.{PeekedOrNext}
use Rattle.paper.specs.Atoms.{◌∈◌, Clause, Formula, Live, Witness}
use Rattle.paper.specs.Files.{File, codes}
use Rattle.paper.specs.Conditions.{Passes}
use Rattle.paper.proofs.Lists.{eqb_yes, eqb_no}
use Rattle.paper.specs.Valid.{Codes, Listed}
use Rattle.codes.specs.declared.Codes as iterator
use Rattle.lookup.specs.Clause.{Entered, clause_bytes}
use Rattle.lookup.specs.Live.{live}
use Rattle.lookup.proofs.Live.{live_in, live_out}
use Rattle.loading.specs.Loading.{Inward, Images, Decides}
use Rattle.conditions.specs.Asked.{Asked, Finds}

-- 1. What is left of the list, where the next number may have been looked at: q is the answer that was, and the source has ns left.
abbrev ahead : Option (Option ℕ) → List ℕ → List ℕ
ahead None ns = ns
ahead (Some None) ns = []
ahead (Some (Some x)) ns = x ∷ ns

abbrev rest : iterator.Codes → List ℕ
rest s = codes s.bytes.now

abbrev pub numbers_left : Ahead iterator.Codes ℕ → List ℕ
numbers_left s = ahead s.peeked (rest s.iter)

-- the number n is not the next one
abbrev pub NotNext : ℕ → List ℕ → Type 0
NotNext n left = (ns : List ℕ) → left ≡ n ∷ ns → ⊥

-- o is what was looked at, or else what the source a gives, with b left
looked : (q : Option (Option ℕ)) (o : Option ℕ) (a b : iterator.Codes) → MatchOption q (YieldsFirst rest a o b) (λ r. (o ≡ r) × (b ≡ a))
    → ahead q (rest a) ≡ ahead (Some o) (rest b)
looked None None a b h = h.0
looked None (Some x) a b h = h
looked (Some r) o a b h = rw (h.0, h.1)

-- what the look for n at the front of s says, with s' left: n came, or something else stands there, if anything
abbrev Looks : Ahead iterator.Codes ℕ → ℕ → Option ℕ → Ahead iterator.Codes ℕ → Type 0
Looks s n r s' = (o : Option ℕ) × PeekedOrNext (YieldsFirst rest) s o s'
    × MatchOption r ((s'.peeked ≡ Some o) × IfSome o (λ x. eqb x n ≡ false)) (λ x. (o ≡ Some x) × (s'.peeked ≡ None) × IsTrue (eqb x n))

module _ (s : Ahead iterator.Codes ℕ) (n : ℕ) where
  pub next_named : (r : Option ℕ) (s' : Ahead iterator.Codes ℕ) → Looks s n r s' → is_some r ≡ true → numbers_left s ≡ n ∷ numbers_left s'
  next_named None s' m e = absurd (false≢true e)
  next_named (Some x) s' m e = looked s.peeked m.0 s.iter s'.iter m.1 ∙ rw (m.2.0, m.2.1, eqb_yes x n m.2.2)

  pub next_other : (r : Option ℕ) (s' : Ahead iterator.Codes ℕ) → Looks s n r s' → is_some r ≡ false → (numbers_left s' ≡ numbers_left s) × NotNext n (numbers_left s)
  next_other None s' m e =
      let l = looked s.peeked m.0 s.iter s'.iter m.1 in
      (rw m.2.0 (sym l), rw l (go m.0 m.2.1))
    where
      go : (o : Option ℕ) → IfSome o (λ x. eqb x n ≡ false) → NotNext n (ahead (Some o) (rest s'.iter))
      go None f ns e = cc
      go (Some x) f ns e = eqb_no x n f cc
  next_other (Some x) s' m e = absurd (true≢false e)

-- numbers that rise, from n on
abbrev Above : ℕ → List ℕ → Type 0
Above n [] = Unit {0}
Above n (x ∷ ns) = (n ≤ x) × Above (suc x) ns

above_less : (ns : List ℕ) (n m : ℕ) → n ≤ m → Above m ns → Above n ns
above_less [] n m h a = tt
above_less (x ∷ ns) n m h a = let k = a.0 in (omega arith, a.1)

above_out : (ns : List ℕ) (n k : ℕ) → Above n ns → k ∈ ns → n ≤ k
above_out [] n k a m = elim m [ ]
above_out (x ∷ ns) n k a (Memᴰ.head e) = let h = a.0 in omega arith
above_out (x ∷ ns) n k a (Memᴰ.tail m) = let h = a.0 in let r = above_out ns (suc x) k a.1 m in omega arith

listed_above : (F : Formula) (ns : List ℕ) (last : ℕ) → Listed F last ns → Above (suc last) ns
listed_above F [] last l = tt
listed_above F (x ∷ ns) last l = let h = l.1 in (omega arith, listed_above F ns x l.2)

not_next_out : (ns : List ℕ) (n : ℕ) → Above n ns → NotNext n ns → ¬ (n ∈ ns)
not_next_out [] n a f m = elim m [ ]
not_next_out (x ∷ ns) n a f (Memᴰ.head e) = f ns (ap (λ (y : ℕ). y ∷ ns) (sym e))
not_next_out (x ∷ ns) n a f (Memᴰ.tail m) = let h = a.0 in let r = above_out ns (suc x) n a.1 m in omega arith

not_next_above : (ns : List ℕ) (n : ℕ) → Above n ns → NotNext n ns → Above (n + 1) ns
not_next_above [] n a f = tt
not_next_above (x ∷ ns) n a f = let h = a.0 in let ne : x ≢ n = (λ e. f ns (ap (λ (y : ℕ). y ∷ ns) e)) in (omega arith, a.1)

-- What is left of the list modulo are its numbers from n on, and they rise.
pub record Place (modulo left : List ℕ) (n : ℕ) : Type 0 where
  pub above : Above n left
  pub rest : (k : ℕ) → n ≤ k → k ∈ modulo → k ∈ left
  pub part : (k : ℕ) → k ∈ left → k ∈ modulo

pub place_start : (F : Formula) (modulo : List ℕ) → Listed F 0 modulo → Place modulo modulo 0
place_start F modulo l =
    record { above = above_less modulo 0 1 (omega arith) (listed_above F modulo 0 l); rest = λ k h m. m; part = λ k m. m }

module _ {modulo left : List ℕ} {n : ℕ} (place : Place modulo left n) where
  pub place_unnamed : NotNext n left → (¬ (n ∈ modulo)) × Place modulo left (n + 1)
  place_unnamed other = (
    λ m. not_next_out left n place.above other (place.rest n (omega arith) m),
    record { above = not_next_above left n place.above other; rest = λ k h m. place.rest k (omega arith) m; part = place.part },
  )

  pub place_named : {more : List ℕ} → left ≡ n ∷ more → (n ∈ modulo) × Place modulo more (n + 1)
  place_named {more} step = (
    place.part n (rw step (Memᴰ.head refl)),
    record {
      above = rw add-one (subst (Above n) step place.above).1;
      rest = λ k h m. later k h (subst (λ (ns : List ℕ). k ∈ ns) step (place.rest k (omega arith) m));
      part = λ k m. place.part k (rw step (Memᴰ.tail m));
    },
  )
    where
      later : (k : ℕ) → n + 1 ≤ k → k ∈ n ∷ more → k ∈ more
      later k l (Memᴰ.head e) = absurd (omega arith)
      later k l (Memᴰ.tail m) = m

-- 2. The numbers passed.
module _ (F : Formula) (C : Clause) (modulo t : List ℕ) where
  -- the clause of number k passes, unless it is named
  abbrev pub Passing : ℕ → Type 0
  Passing k = (s : Witness) → Images t s → (D : Clause) → Live F k D → ¬ (k ∈ modulo) → Passes F C s D

  -- and so does every clause below n
  abbrev pub Passed : ℕ → Type 0
  Passed n = (k : ℕ) → k < n → Passing k

-- the clause of number n, by the bytes that its word stands for
pub number_live : (f p : File) (ws : List ℕ) {n : ℕ} {d : List ℕ} → n < length ws → Entered (get_or ws n 0) → d ≡ clause_bytes f p (get_or ws n 0)
    → Live (live f p ws) n (codes d)
number_live f p ws h ne e = live_in f p ws (record { within = h; entered = ne; clause = ap codes e })

-- what the loop keeps: t is the table at entry, u the table now, and `left` is left of the list modulo
pub record Searching (f p : File) (ws : List ℕ) (C : Clause) (modulo t u : List ℕ) (n : ℕ) (left : List ℕ) : Type 0 where
  pub place : Place modulo left n
  pub passed : Passed (live f p ws) C modulo t n
  pub same : u ≡ t

pub searching_start : {f p : File} {ws : List ℕ} {C : Clause} {modulo t : List ℕ} → Listed (live f p ws) 0 modulo → Searching f p ws C modulo t t 0 modulo
searching_start l = record { place = place_start _ _ l; passed = below_none _; same = refl }

module _ {f p : File} {ws : List ℕ} {C : Clause} {modulo t u : List ℕ} {n : ℕ} {left : List ℕ} (k : Searching f p ws C modulo t u n left) where
  abbrev F : Formula
  F = live f p ws

  pub searching_end : length ws ≤ n → (s : Witness) → Images t s → Finds F C s modulo None
  searching_end h s images m D q out = let w = live_out f p ws q in k.passed m (omega (arith, w.within)) s images D q out

  pub turn_named : {more : List ℕ} → left ≡ n ∷ more → Searching f p ws C modulo t u (n + 1) more
  turn_named step =
      let now = place_named k.place step in
      record { place = now.1; passed = below_more (Passing F C modulo t) _ k.passed (λ s images D q out. absurd (out now.0)); same = k.same }

  module _ {more : List ℕ} (other : (more ≡ left) × NotNext n left) where
    next_place : (¬ (n ∈ modulo)) × Place modulo more (n + 1)
    next_place = rw other.0 (place_unnamed k.place other.1)

    pub turn_dead : get_or ws n 0 < 1048576 → Searching f p ws C modulo t u (n + 1) more
    turn_dead z =
        record {
          place = next_place.1;
          passed = below_more (Passing F C modulo t) _ k.passed (λ s images D q out. let w = (live_out f p ws q).entered in absurd (omega arith));
          same = k.same;
        }

    -- the answer to whether the clause of number n passes
    module _ (h : n < length ws) (ne : Entered (get_or ws n 0)) {d : List ℕ} (e : d ≡ clause_bytes f p (get_or ws n 0)) {r : Bool}
        (answer : (s : Witness) → Images u s → Decides r (Passes F C s (codes d))) where
      said : (s : Witness) → Images t s → Decides r (Passes F C s (codes d))
      said s images = answer s (subst (λ (x : List ℕ). Images x s) (sym k.same) images)

      pub turn_passes : r ≡ true → {u' : List ℕ} → u' ≡ u → Searching f p ws C modulo t u' (n + 1) more
      turn_passes q e' =
          record {
            place = next_place.1;
            passed = below_more (Passing F C modulo t) _ k.passed
                (λ s images D w out. subst (λ (E : Clause). Passes F C s E) (ap codes e ∙ sym (live_out f p ws w).clause) ((said s images).yes q));
            same = e' ∙ k.same;
          }

      pub turn_fails : r ≡ false → (s : Witness) → Images t s → Finds F C s modulo (Some n)
      turn_fails q s images =
          record {
            clause = codes d;
            live = number_live f p ws h ne e;
            unnamed = next_place.0;
            fails = (said s images).no q;
            least = λ m E w out fails. go m E w out fails (dec_lt m n);
          }
        where
          go : (m : ℕ) (E : Clause) → Live F m E → ¬ (m ∈ modulo) → ¬ (Passes F C s E) → Dec (m < n) → n ≤ m
          go m E w out fails (yes l) = absurd (fails (k.passed m l s images E w out))
          go m E w out fails (no l) = omega arith

  -- what the test of the clause of number n asks
  pub number_asked : {vars : ℕ} → Asked f p ws C vars t → Inward vars t → n < length ws → Entered (get_or ws n 0) → {d : List ℕ}
      → d ≡ clause_bytes f p (get_or ws n 0) → Asked f p ws C vars u × (Inward vars u × Codes vars (codes d))
  number_asked {vars} asked inward h ne {d} e = rw k.same (asked, (inward, asked.valid.codes n (codes d) (number_live f p ws h ne e)))
