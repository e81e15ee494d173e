-- Paper, "Verdicts and reasons": the answer of a call, and what the work memory holds after it.
use Rattle.std.specs.Prelude.{ℕ, suc, ◌≤◌, ◌<◌, ◌≡◌, ◌⊎◌, List, [], ◌++◌, true, false, eqb, length, drop, replicate}
use Rattle.paper.specs.declared.Reason.{Reason}
use Rattle.paper.specs.declared.Reason.TheVariants.{WorkShort, FileLong, FormulaField, OverLimit, FormulaCode, FormulaTwice, FormulaEnd, ProofField, ProofCode, ProofTwice, NumberNotLive, NumbersUsedUp, NotRup, NotTrivialised, NotPassing}
use Rattle.paper.specs.declared.Verdict.{Verdict}
use Rattle.paper.specs.declared.Verdict.TheVariants.{Refuted, Held, Refused}
use Rattle.paper.specs.declared.Numbers.{Numbers}
use Rattle.paper.specs.Atoms.{◌∈◌, Clause, Formula, Live, Witness}
use Rattle.paper.specs.Files.{File, ok, bad, Step, rup_step, sr_step, wsr_step, delete_step}
use Rattle.paper.specs.Conditions.{RUP, Trivialises, Passes, SR, WSR, Lowest, without, after}
use Rattle.paper.specs.Stowages.{Stowage, carried}
use Rattle.paper.specs.Refusals.{read_formula, read_step}

-- the reasons by their numbers in the paper's table. 02, §6: "strike reason 16 from the table and the order, and leave its number unused",
-- and 02's own begin at 17
abbrev pub number_of : Reason → ℕ
number_of WorkShort = 1
number_of FileLong = 2
number_of FormulaField = 3
number_of OverLimit = 4
number_of FormulaCode = 5
number_of FormulaTwice = 6
number_of FormulaEnd = 7
number_of ProofField = 8
number_of ProofCode = 9
number_of ProofTwice = 10
number_of NumberNotLive = 11
number_of NumbersUsedUp = 12
number_of NotRup = 13
number_of NotTrivialised = 14
number_of NotPassing = 15

-- "verdict .., reason (0 unless refused), step, place (0 unless refused)"; the verdict as 0 refuted, 1 held, 2 refused
abbrev pub verdict_numbers : Verdict → Numbers
verdict_numbers (Refuted n) = record { verdict = 0; reason = 0; step = n; place = 0 }
verdict_numbers (Held n) = record { verdict = 1; reason = 0; step = n; place = 0 }
verdict_numbers (Refused f) = record { verdict = 2; reason = number_of f.reason; step = f.step; place = f.place }

abbrev pub refused : Reason → ℕ → ℕ → Verdict
refused r step place = Refused (record { reason = r; step = step; place = place })

-- a step that was read is taken, and leaves live clauses and the next number; or it is refused
pub data Outcome : Type 0 where
  taken : Formula → ℕ → Outcome
  stops : Reason → ℕ → Outcome

-- "then 13, or 14 before 15". 15: "lowest such number, C counted with the number it would get".
-- "Each taken RUP, SR or WSR step gives its clause the next number. Numbers are never used again."
pub data Judged (F : Formula) (next : ℕ) : Step → Outcome → Type 0 where
  rup : {C : Clause} → RUP F C → Judged F next (rup_step C) (taken (after [] next C F) (suc next))
  not_rup : {C : Clause} → ¬ (RUP F C) → Judged F next (rup_step C) (stops NotRup 0)
  sr : {C : Clause} {s : Witness} → SR F C s → Judged F next (sr_step C s) (taken (after [] next C F) (suc next))
  not_trivialised : {C : Clause} {s : Witness} → ¬ (Trivialises s C) → Judged F next (sr_step C s) (stops NotTrivialised 0)
  sr_lowest : {C : Clause} {s : Witness} {n : ℕ} → Trivialises s C → Lowest F C s [] n → Judged F next (sr_step C s) (stops NotPassing n)
  wsr : {C : Clause} {s : Witness} {modulo : List ℕ} → WSR F C s modulo
      → Judged F next (wsr_step C s modulo) (taken (after modulo next C F) (suc next))
  wsr_lowest : {C : Clause} {s : Witness} {modulo : List ℕ} {n : ℕ} → Lowest F C s modulo n
      → Judged F next (wsr_step C s modulo) (stops NotPassing n)
  wsr_new : {C : Clause} {s : Witness} {modulo : List ℕ}
      → ((n : ℕ) (D : Clause) → Live F n D → ¬ (n ∈ modulo) → Passes F C s D) → ¬ (Passes F C s C)
      → Judged F next (wsr_step C s modulo) (stops NotPassing next)
  deleted : {ns : List ℕ} → Judged F next (delete_step ns) (taken (without ns F) next)

-- The answer to the proof from a place on, after done steps. "Refuted: every step is taken and an empty clause is live after the
-- last. Held: every step is taken and none is." "The first step with a fault is the one answered".
pub data Steps (proof : File) (vars : ℕ) : Formula → ℕ → ℕ → ℕ → Verdict → Type 0 where
  refuted : {F : Formula} {next done at n : ℕ} → length proof ≤ at → Live F n [] → Steps proof vars F next done at (Refuted done)
  held : {F : Formula} {next done at : ℕ} → length proof ≤ at → ((n : ℕ) → ¬ (Live F n [])) → Steps proof vars F next done at (Held done)
  unread : {F : Formula} {next done at : ℕ} {r : Reason} {p : ℕ} → at < length proof → read_step proof vars F next at ≡ bad r p
      → Steps proof vars F next done at (refused r (suc done) p)
  judged : {F : Formula} {next done at later : ℕ} {t : Step} {r : Reason} {p : ℕ} → at < length proof
      → read_step proof vars F next at ≡ ok (t, later) → Judged F next t (stops r p) → Steps proof vars F next done at (refused r (suc done) p)
  goes_on : {F G : Formula} {next m done at later : ℕ} {t : Step} {v : Verdict} → at < length proof
      → read_step proof vars F next at ≡ ok (t, later) → Judged F next t (taken G m) → Steps proof vars G m (suc done) later v
      → Steps proof vars F next done at v

-- "each file at most 1,048,576 bytes. Work memory: 16,384 words of 32 bits, and 8,192 bytes. Longer is allowed."
pub record Within (words bytes : ℕ) (formula proof : File) : Type 0 where
  pub words_enough : 16384 ≤ words
  pub bytes_enough : 8192 ≤ bytes
  pub formula_short : length formula ≤ 1048576
  pub proof_short : length proof ≤ 1048576

-- THE ANSWER of a call, by the lengths of the two work slices and the two files.
-- "Order: 1, 2, then the whole formula, then the steps." "step 0 means the formula or the call".
pub data Answer (words bytes : ℕ) (formula proof : File) : Verdict → Type 0 where
  work_short : (words < 16384) ⊎ (bytes < 8192) → Answer words bytes formula proof (refused WorkShort 0 0)
  file_long : 16384 ≤ words → 8192 ≤ bytes → (1048576 < length formula) ⊎ (1048576 < length proof)
      → Answer words bytes formula proof (refused FileLong 0 0)
  formula_bad : {r : Reason} {p : ℕ} → Within words bytes formula proof → read_formula formula ≡ bad r p
      → Answer words bytes formula proof (refused r 0 p)
  proof_judged : {vars : ℕ} {F : Formula} {next : ℕ} {v : Verdict} → Within words bytes formula proof
      → read_formula formula ≡ ok (vars, F, next) → Steps proof vars F next 0 0 v → Answer words bytes formula proof v

-- "under reason 1 both slices are as at entry. After any other answer the first 16,384 words and the first 8,192 bytes are zero
-- and the rest is as at entry": a slice m whose first n are zeroed
unfoldable pub memory_after : ℕ → Verdict → List ℕ → List ℕ
memory_after n v m = elim (eqb (verdict_numbers v).reason 1) [ true ↦ m | false ↦ replicate n 0 ++ drop n m ]

-- How a stowage goes through a step: moved by the witness at an SR or WSR step whose new clause fails, else as it was.
unfoldable pub stowed : Step → Stowage → Stowage
stowed (rup_step C) I = I
stowed (sr_step C s) I = carried s C I
stowed (wsr_step C s modulo) I = carried s C I
stowed (delete_step ns) I = I

-- k steps from a place on are taken: they leave G live, and have carried the stowage I to J
pub data Carried (proof : File) (vars : ℕ) : ℕ → Formula → ℕ → ℕ → Stowage → Formula → Stowage → Type 0 where
  start : {F : Formula} {next at : ℕ} {I : Stowage} → Carried proof vars 0 F next at I F I
  step : {k : ℕ} {F G H : Formula} {next m at later : ℕ} {t : Step} {I J : Stowage} → at < length proof
      → read_step proof vars F next at ≡ ok (t, later) → Judged F next t (taken H m) → Carried proof vars k H m later (stowed t I) G J
      → Carried proof vars (suc k) F next at I G J
