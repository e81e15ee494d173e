-- 02, §6: "with codes in range and no variable twice, no clause has more than V literals", over any V. So 01's reason 16 cannot come up.
-- Assumes nothing.
use Prim.Native.Nat.{ℕ, zero, suc, ◌*◌, ◌/◌, ◌≤◌}
use mathlib.Core.Path.{◌≡◌, refl, sym, ap, ◌∙◌, subst}
use mathlib.Core.Logic.{◌≢◌}
use mathlib.Core.Bool.{Bool, true, false}
use mathlib.Core.List.Memᴰ
use mathlib.Core.List.{List, [], ◌∷◌, map}
use native.Mathlib.Omega.{arith}
use lib.Dec.{eqb}
use lib.ListN.{length, length-map}
use Rattle.paper.specs.declared.Reason.{Reason}
use Rattle.paper.specs.Atoms.{◌∈◌, Clause}
use Rattle.paper.specs.Files.{ok}
use Rattle.paper.specs.Refusals.{check_clause}
use Rattle.paper.specs.Valid.{Distinct, Codes, Apart}
use Rattle.paper.proofs.Lists.{eqb_yes, eqb_no, map_out}
use Rattle.paper.proofs.Rules.{clause_exactly}

-- a list without the first n in it; in one of different numbers there is no second
abbrev kept : Bool → ℕ → List ℕ → List ℕ → List ℕ
kept true x xs rest = xs
kept false x xs rest = x ∷ rest

unfoldable but : ℕ → List ℕ → List ℕ
but n [] = []
but n (x ∷ xs) = kept (eqb x n) x xs (but n xs)

but_in : (n : ℕ) (xs : List ℕ) → Distinct xs → (k : ℕ) → k ∈ but n xs → (k ∈ xs) × (k ≢ n)
unfolding but
but_in n [] d k m = elim m [ ]
but_in n (x ∷ xs) d k m = go (but_in n xs d.1 k) (eqb x n) refl m
  where
    go : (k ∈ but n xs → (k ∈ xs) × (k ≢ n)) → (b : Bool) → eqb x n ≡ b → k ∈ kept b x xs (but n xs) → (k ∈ x ∷ xs) × (k ≢ n)
    go below true e q = (Memᴰ.tail q, λ z. d.0 (subst (λ (y : ℕ). y ∈ xs) (z ∙ sym (eqb_yes x n e)) q))
    go below false e (Memᴰ.head h) = (Memᴰ.head h, λ z. eqb_no x n e (sym h ∙ z))
    go below false e (Memᴰ.tail q) = let r = below q in (Memᴰ.tail r.0, r.1)

but_distinct : (n : ℕ) (xs : List ℕ) → Distinct xs → Distinct (but n xs)
unfolding but
but_distinct n [] d = tt
but_distinct n (x ∷ xs) d = go (but_distinct n xs d.1) (eqb x n)
  where
    go : Distinct (but n xs) → (b : Bool) → Distinct (kept b x xs (but n xs))
    go below true = d.1
    go below false = ((λ m. d.0 (but_in n xs d.1 x m).0), below)

but_one : (n : ℕ) (xs : List ℕ) → length xs ≤ suc (length (but n xs))
unfolding but
but_one n [] = omega arith
but_one n (x ∷ xs) = go (but_one n xs) (eqb x n)
  where
    go : length xs ≤ suc (length (but n xs)) → (b : Bool) → suc (length xs) ≤ suc (length (kept b x xs (but n xs)))
    go below true = omega arith
    go below false = omega arith

-- different numbers from 1 to n are at most n
pub at_most : (n : ℕ) (xs : List ℕ) → Distinct xs → ((x : ℕ) → x ∈ xs → (1 ≤ x) × (x ≤ n)) → length xs ≤ n
at_most zero [] d all = omega arith
at_most zero (x ∷ xs) d all = let h = all x (Memᴰ.head refl) in absurd (omega arith)
at_most (suc n) xs d all =
    let below = at_most n (but (suc n) xs) (but_distinct (suc n) xs d) lower in
    let one = but_one (suc n) xs in
    omega arith
  where
    lower : (x : ℕ) → x ∈ but (suc n) xs → (1 ≤ x) × (x ≤ n)
    lower x m = let r = but_in (suc n) xs d x m in let h = all x r.0 in let o = r.1 in (h.0, omega arith)

-- "no clause has more than V literals"
pub few_literals : (vars : ℕ) (C : Clause) → Codes vars C → Apart C → length C ≤ vars
few_literals vars C codes apart =
    let e = length-map C (λ l. l / 2) in
    let h = at_most vars (map (λ l. l / 2) C) apart variable in
    omega arith
  where
    variable : (v : ℕ) → v ∈ map (λ l. l / 2) C → (1 ≤ v) × (v ≤ vars)
    variable v m =
        let r = map_out (λ l. l / 2) C m in
        let h = codes r.0 r.1 in
        let half = r.2 in
        (omega arith, omega arith)

-- V literals are not too many: those of all the variables are read, at any V
unfoldable pub full : ℕ → Clause
full zero = []
full (suc n) = (2 * suc n) ∷ full n

full_codes : (n : ℕ) → Codes n (full n)
unfolding full
full_codes zero l m = elim m [ ]
full_codes (suc n) l (Memᴰ.head e) = (omega arith, omega arith)
full_codes (suc n) l (Memᴰ.tail m) = let h = full_codes n l m in (h.0, omega arith)

full_apart : (n : ℕ) → Apart (full n)
unfolding full
full_apart zero = tt
full_apart (suc n) = (fresh, full_apart n)
  where
    fresh : ¬ (2 * suc n / 2 ∈ map (λ l. l / 2) (full n))
    fresh m =
        let r = map_out (λ l. l / 2) (full n) m in
        let h = full_codes n r.0 r.1 in
        let e = r.2 in
        omega arith

full_length : (n : ℕ) → length (full n) ≡ n
unfolding full
full_length zero = refl
full_length (suc n) = ap suc (full_length n)

pub full_read : (range twice : Reason) (vars p : ℕ) → (length (full vars) ≡ vars) × (check_clause range twice vars p (full vars) ≡ ok tt)
full_read range twice vars p = (full_length vars, (clause_exactly range twice vars p (full vars)).1 (full_codes vars, full_apart vars))
