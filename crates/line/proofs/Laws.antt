-- The bytes of a line, stored one after the other.
use Prim.Native.Nat.{ℕ, zero, suc, ◌+◌, ◌-◌, ◌/◌, ◌%◌, ◌≤◌, ◌<◌}
use native.Mathlib.Nat.{add-zero}
use native.Mathlib.Omega.{arith}
use mathlib.Core.Path.{◌≡◌, refl, sym, ap, ◌∙◌}
use mathlib.Core.List.{List, [], ◌∷◌, ◌++◌}
use lib.ListN.{length, set, drop, replicate, length-append, length-replicate}
use lib.Seq.{sets, sets-eq, length-sets}
use borrow.Author.Tests.{lt-ltb, le-ltb}
use Rattle.line.specs.Put.{Put, Holds}
use Rattle.paper.specs.declared.Verdict.{Verdict}
use Rattle.paper.specs.declared.Numbers.{Numbers}
use Rattle.paper.specs.Answers.{verdict_numbers}
use Rattle.paper.specs.Line.{digits, word, line}

-- a text stored from a place on, and a second one right behind it
pub sets_append : (l : List ℕ) (i : ℕ) (a b : List ℕ) → sets l i (a ++ b) ≡ sets (sets l i a) (i + length a) b
sets_append l i [] b = rw add-zero
sets_append l i (x ∷ a) b = let e : suc i + length a ≡ i + suc (length a) = omega arith in rw e at (sets_append (set l i x) (suc i) a b)

-- a number below ten is its one digit
pub digits_one : (k n : ℕ) → (k ≡ 0 → ⊥) → n < 10 → digits k n ≡ (48 + n) ∷ []
unfolding digits
digits_one zero n k h = absurd (k refl)
digits_one (suc k) n _ h = simp (lt-ltb _ _ h, digits)

-- any other has the digits of its tenth, and one more
pub digits_more : (k n : ℕ) → (k ≡ 0 → ⊥) → 10 ≤ n → digits k n ≡ digits (k - 1) (n / 10) ++ ((48 + n % 10) ∷ [])
unfolding digits
digits_more zero n k h = absurd (k refl)
digits_more (suc k) n _ h = let e : suc k - 1 ≡ k = omega arith in rw e (simp (le-ltb _ _ h, digits))

-- a text is what it is equal to
pub put_same : (old out : List ℕ) (at r : ℕ) {a b : List ℕ} → a ≡ b → Put old at b out r → Put old at a out r
put_same old out at r e p = rw e p

-- one text put, and a second one right behind it
pub put_after : (old mid out a b : List ℕ) (at r q : ℕ) → Put old at a mid r → Put mid r b out q → Put old at (a ++ b) out q
put_after old mid out a b at r q (e, f) (g, h) =
    (simp length-append (omega arith), rw (sets_append, ← f, ← e) h)

-- the word, the three numbers, and the end of the line
pub put_line : (old a b c d : List ℕ) (p q r s : ℕ) (v : Verdict) (n : Numbers) → n ≡ verdict_numbers v → Put old 0 (word v) a p
    → Put a p (32 ∷ digits 20 n.reason) b q → Put b q (32 ∷ digits 20 n.step) c r → Put c r (32 ∷ digits 20 n.place) d s
    → Put old 0 (line v) (set d s 10) (s + 1)
unfolding line
put_line old a b c d p q r s v n e k l m o =
    let x : List ℕ = word v in
    let y : List ℕ = 32 ∷ digits 20 (verdict_numbers v).reason in
    let z : List ℕ = 32 ∷ digits 20 (verdict_numbers v).step in
    let w : List ℕ = 32 ∷ digits 20 (verdict_numbers v).place in
    let l1 : Put a p y b q = rw e at l in
    let m1 : Put b q z c r = rw e at m in
    let o1 : Put c r w d s = rw e at o in
    let k1 : Put old 0 (x ++ y) b q = put_after old a b x y 0 p q k l1 in
    let k2 : Put old 0 (x ++ y ++ z) c r = put_after old b c (x ++ y) z 0 q r k1 m1 in
    let k3 : Put old 0 (x ++ y ++ z ++ w) d s = put_after old c d (x ++ y ++ z) w 0 r s k2 o1 in
    put_after old d (set d s 10) (x ++ y ++ z ++ w) (10 ∷ []) 0 s (s + 1) k3 (refl, refl)

-- a text put at the start stands there, and the rest is as it was
pub put_first : (old out text : List ℕ) (r : ℕ) → r ≤ length old → Put old 0 text out r → (r ≡ length text) × (out ≡ text ++ drop r old)
put_first old out text r h (e, f) = let g : 0 + length text ≤ length old = omega arith in (omega arith, f ∙ sets-eq text old 0 g ∙ rw (← e))

pub drop_replicate : (n k : ℕ) → drop {A = ℕ} k (replicate n 0) ≡ replicate (n - k) 0
drop_replicate n zero = let e : n - 0 ≡ n = omega arith in rw e
drop_replicate zero (suc k) = let e : 0 - suc k ≡ 0 = omega arith in rw e
drop_replicate (suc n) (suc k) = let e : suc n - suc k ≡ n - k = omega arith in rw e (drop_replicate n k)

-- the line in a buffer of zeros, as it is promised
pub line_stands : (a b c d : List ℕ) (p q r s : ℕ) (v : Verdict) (n : Numbers) → s + 1 ≤ 80 → n ≡ verdict_numbers v
    → Put (replicate 80 0) 0 (word v) a p → Put a p (32 ∷ digits 20 n.reason) b q → Put b q (32 ∷ digits 20 n.step) c r
    → Put c r (32 ∷ digits 20 n.place) d s → Holds (record { bytes = set d s 10; size = s + 1 }) (line v)
line_stands a b c d p q r s v n few e k l m o =
    let old : List ℕ = replicate 80 0 in
    let size : length old ≡ 80 = length-replicate {A = ℕ} 80 0 in
    let put : Put old 0 (line v) (set d s 10) (s + 1) = put_line old a b c d p q r s v n e k l m o in
    let done : (s + 1 ≡ length (line v)) × (set d s 10 ≡ line v ++ drop (s + 1) old) = put_first old (set d s 10) (line v) (s + 1) (omega arith) put in
    record {
      size = done.0;
      fits = few;
      room = sym (ap length put.1 ∙ length-sets old 0 (line v) ∙ size);
      bytes = done.1 ∙ ap (λ (t : List ℕ). line v ++ t) (drop_replicate 80 (s + 1));
    }
