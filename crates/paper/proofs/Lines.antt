-- The printed line: the digits of a number give it back, and lines of each verdict written out.
-- Assumes nothing.
use Prim.Native.Nat.{ℕ, zero, suc, ◌+◌, ◌*◌, ◌-◌, ◌%◌, ◌/◌, ◌^◌, ◌≤◌, ◌<◌}
use mathlib.Core.Path.{◌≡◌, refl, ap, ◌∙◌}
use mathlib.Core.Logic.{◌≢◌, ◌⊎◌, inl, inr}
use mathlib.Core.Bool.{Bool, true, false}
use mathlib.Core.List.Memᴰ
use mathlib.Core.List.{List, [], ◌∷◌, ◌++◌}
use native.Mathlib.Omega.{arith}
use lib.Dec.{ltb}
use Rattle.paper.specs.declared.Reason.{Reason}
use Rattle.paper.specs.declared.Reason.TheVariants.{WorkShort, FileLong, FormulaField, OverLimit, FormulaCode, FormulaTwice, FormulaEnd, ProofField, ProofCode, ProofTwice, NumberNotLive, NumbersUsedUp, NotRup, NotTrivialised, NotPassing}
use Rattle.paper.specs.declared.Verdict.{Verdict}
use Rattle.paper.specs.declared.Verdict.TheVariants.{Refuted, Held, Refused}
use Rattle.paper.specs.Atoms.{◌∈◌}
use Rattle.paper.specs.Answers.{number_of, verdict_numbers, refused}
use Rattle.paper.specs.Line.{digits, word, line}
use Rattle.paper.proofs.Lists.{leb_yes, leb_no}

-- the number that digits say, after those that said n
unfoldable pub said : ℕ → List ℕ → ℕ
said n [] = n
said n (d ∷ ds) = said (n * 10 + (d - 48)) ds

said_append : (n : ℕ) (ds es : List ℕ) → said n (ds ++ es) ≡ said (said n ds) es
unfolding said
said_append n [] es = refl
said_append n (d ∷ ds) es = said_append (n * 10 + (d - 48)) ds es

-- a number of at most k digits is said by its digits
pub digits_say : (k n : ℕ) → n < 10 ^ k → said 0 (digits k n) ≡ n
unfolding said digits
digits_say zero n h = omega arith
digits_say (suc k) n h = go (digits_say k (n / 10)) (ltb n 10) refl
  where
    go : (n / 10 < 10 ^ k → said 0 (digits k (n / 10)) ≡ n / 10) → (b : Bool) → ltb n 10 ≡ b
        → said 0 (elim b [ true ↦ (48 + n) ∷ [] | false ↦ digits k (n / 10) ++ ((48 + n % 10) ∷ []) ]) ≡ n
    go below true e = omega arith
    go below false e =
        let q = below (omega arith) in
        said_append 0 (digits k (n / 10)) ((48 + n % 10) ∷ [])
        ∙ ap (λ (m : ℕ). m * 10 + (48 + n % 10 - 48)) q ∙ omega arith

-- a number of 64 bits has at most 20 digits
pub number_said : (n : ℕ) → n < 2 ^ 64 → said 0 (digits 20 n) ≡ n
number_said n h = digits_say 20 n (omega arith)

-- and they are digits
pub digits_digits : (k n d : ℕ) → d ∈ digits k n → (48 ≤ d) × (d ≤ 57)
unfolding digits
digits_digits zero n d m = elim m [ ]
digits_digits (suc k) n d m = go (digits_digits k (n / 10) d) (ltb n 10) refl m
  where
    side : (d ∈ digits k (n / 10) → (48 ≤ d) × (d ≤ 57)) → d ∈ digits k (n / 10) ⊎ d ∈ (48 + n % 10) ∷ [] → (48 ≤ d) × (d ≤ 57)
    side below (inl m) = below m
    side below (inr m) = let e = Memᴰ.eq_of_singleton m in (omega arith, omega arith)

    go : (d ∈ digits k (n / 10) → (48 ≤ d) × (d ≤ 57)) → (b : Bool) → ltb n 10 ≡ b
        → d ∈ elim b [ true ↦ (48 + n) ∷ [] | false ↦ digits k (n / 10) ++ ((48 + n % 10) ∷ []) ] → (48 ≤ d) × (d ≤ 57)
    go below true e m = let h = leb_yes (suc n) 10 e in let q = Memᴰ.eq_of_singleton m in (omega arith, omega arith)
    go below false e m = side below (Memᴰ.append_cases (digits k (n / 10)) m)

-- the first of them is not 0
abbrev Leads : List ℕ → Type 0
Leads [] = ⊥
Leads (d ∷ ds) = d ≢ 48

leads_append : (ds es : List ℕ) → Leads ds → Leads (ds ++ es)
leads_append [] es h = absurd h
leads_append (d ∷ ds) es h = h

pub digits_lead : (k n : ℕ) → 1 ≤ n → n < 10 ^ k → Leads (digits k n)
unfolding digits
digits_lead zero n one h = absurd (omega arith)
digits_lead (suc k) n one h = go (digits_lead k (n / 10)) (ltb n 10) refl
  where
    go : (1 ≤ n / 10 → n / 10 < 10 ^ k → Leads (digits k (n / 10))) → (b : Bool) → ltb n 10 ≡ b
        → Leads (elim b [ true ↦ (48 + n) ∷ [] | false ↦ digits k (n / 10) ++ ((48 + n % 10) ∷ []) ])
    go below true e = omega arith
    go below false e =
        let t = leb_no (suc n) 10 e in
        leads_append (digits k (n / 10)) ((48 + n % 10) ∷ []) (below (omega arith) (omega arith))

-- "verdict in small letters, reason (0 unless refused), step, place (0 unless refused)": the lines of cases I and K, of a long proof that
-- is held, and of a refusal far into its file
pub line_of_i : line (Refuted 1) ≡ 114 ∷ 101 ∷ 102 ∷ 117 ∷ 116 ∷ 101 ∷ 100 ∷ 32 ∷ 48 ∷ 32 ∷ 49 ∷ 32 ∷ 48 ∷ 10 ∷ []
unfolding digits word line
line_of_i = refl

pub line_of_k : line (refused NumberNotLive 2 8) ≡ 114 ∷ 101 ∷ 102 ∷ 117 ∷ 115 ∷ 101 ∷ 100 ∷ 32 ∷ 49 ∷ 49 ∷ 32 ∷ 50 ∷ 32 ∷ 56 ∷ 10 ∷ []
unfolding digits word line
line_of_k = refl

pub line_held : line (Held 16383) ≡ 104 ∷ 101 ∷ 108 ∷ 100 ∷ 32 ∷ 48 ∷ 32 ∷ 49 ∷ 54 ∷ 51 ∷ 56 ∷ 51 ∷ 32 ∷ 48 ∷ 10 ∷ []
unfolding digits word line
line_held = refl

pub line_far : line (refused NumberNotLive 120 1048570) ≡ 114 ∷ 101 ∷ 102 ∷ 117 ∷ 115 ∷ 101 ∷ 100 ∷ 32 ∷ 49 ∷ 49 ∷ 32 ∷ 49 ∷ 50 ∷ 48 ∷ 32 ∷ 49 ∷ 48 ∷ 52 ∷ 56 ∷ 53 ∷ 55 ∷ 48 ∷ 10 ∷ []
unfolding digits word line
line_far = refl

-- "leave its number unused" (02, §6): a reason that comes later is to have its line here
pub sixteen_unused : (r : Reason) → number_of r ≢ 16
sixteen_unused WorkShort = omega arith
sixteen_unused FileLong = omega arith
sixteen_unused FormulaField = omega arith
sixteen_unused OverLimit = omega arith
sixteen_unused FormulaCode = omega arith
sixteen_unused FormulaTwice = omega arith
sixteen_unused FormulaEnd = omega arith
sixteen_unused ProofField = omega arith
sixteen_unused ProofCode = omega arith
sixteen_unused ProofTwice = omega arith
sixteen_unused NumberNotLive = omega arith
sixteen_unused NumbersUsedUp = omega arith
sixteen_unused NotRup = omega arith
sixteen_unused NotTrivialised = omega arith
sixteen_unused NotPassing = omega arith

-- so no answer carries it, and no line says it
pub never_sixteen : (v : Verdict) → (verdict_numbers v).reason ≢ 16
never_sixteen (Refuted n) = omega arith
never_sixteen (Held n) = omega arith
never_sixteen (Refused f) = sixteen_unused f.reason

-- the verdict as 0 refuted, 1 held, 2 refused, with the reason's number
pub verdicts_numbered : (n p : ℕ) (r : Reason) → (verdict_numbers (Refuted n) ≡ record { verdict = 0; reason = 0; step = n; place = 0 })
    × (verdict_numbers (Held n) ≡ record { verdict = 1; reason = 0; step = n; place = 0 })
    × (verdict_numbers (refused r n p) ≡ record { verdict = 2; reason = number_of r; step = n; place = p })
verdicts_numbered n p r = (refl, refl, refl)

-- "one line of four fields with single spaces": each number is said by its digits, however large
pub line_fields : (v : Verdict) → line v ≡ word v ++ (32 ∷ digits 20 (verdict_numbers v).reason) ++ (32 ∷ digits 20 (verdict_numbers v).step) ++ (32 ∷ digits 20 (verdict_numbers v).place) ++ (10 ∷ [])
unfolding line
line_fields v = refl
