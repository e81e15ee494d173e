-- The files of a call: the answer by how far they are read.
-- Assumes nothing.
use Prim.Native.Nat.{ℕ, ◌≤◌, ◌<◌}
use mathlib.Core.Path.{◌≡◌, ap, ◌∙◌, subst}
use mathlib.Core.Logic.{◌⊎◌}
use mathlib.Core.List.{List}
use lib.ListN.{length, get_or, replicate, length-replicate}
use Rattle.paper.specs.declared.Reason.{Reason}
use Rattle.paper.specs.declared.Reason.TheVariants.{FileLong}
use Rattle.paper.specs.declared.Verdict.{Verdict}
use Rattle.paper.specs.Atoms.{Formula}
use Rattle.paper.specs.Files.{File}
use Rattle.paper.specs.Answers.{refused, Steps, Answer, file_long, formula_bad, proof_judged}
use Rattle.paper.proofs.Reading.{Then, FormulaWasRead, read_formula_kept}
use Rattle.lookup.specs.Live.{live}
use Rattle.table.proofs.Kept.{replicate_zero}
use Rattle.reading.specs.Reading.{FormulaTaken, FormulaRefused}
use Rattle.answers.specs.Run.{Start, Clear}

-- 2: a file is too long
pub long_said : {f p : File} → (1048576 < length f) ⊎ (1048576 < length p) → (w b : ℕ) → 16384 ≤ w → 8192 ≤ b → Answer w b f p (refused FileLong 0 0)
long_said h w b hw hb = file_long hw hb h

module _ (f p : File) (words : List ℕ) (hf : length f ≤ 1048576) (hp : length p ≤ 1048576) (after : List ℕ) where
  -- the formula is refused
  pub formula_said : (why : Reason) (q : ℕ) → FormulaRefused f why q words after → (w b : ℕ) → 16384 ≤ w → 8192 ≤ b → Answer w b f p (refused why 0 q)
  formula_said why q x w b hw hb = formula_bad (record { words_enough = hw; bytes_enough = hb; formula_short = hf; proof_short = hp }) x.read

  module _ (vars next : ℕ) (whole : FormulaTaken f vars next words after) where
    -- it is read, and the steps start
    pub start : (t u : List ℕ) → Clear words t → u ≡ t → Start f p vars next after u
    start t u c same =
        let x = subst (Then (λ (y : ℕ × Formula × ℕ). FormulaWasRead y.0 y.1 y.2)) (whole.read p) (read_formula_kept f) in
        record {
          proof_short = hp;
          variables = whole.variables;
          first = whole.first;
          last = whole.last;
          words_long = whole.long ∙ c.words_long;
          clauses = whole.table p;
          kept = x.kept;
          table_long = ap length same ∙ c.table_long;
          table_zero = λ i. ap (λ (y : List ℕ). get_or y i 0) same ∙ c.table_zero i;
        }

    pub steps_said : (v : Verdict) → Steps p vars (live f p after) next 0 0 v → (w b : ℕ) → 16384 ≤ w → 8192 ≤ b → Answer w b f p v
    steps_said v s w b hw hb =
        proof_judged (record { words_enough = hw; bytes_enough = hb; formula_short = hf; proof_short = hp }) (whole.read p) s

-- work memory that was zeroed
pub cleared : (n m : ℕ) (ws u : List ℕ) → n ≡ 16384 → m ≡ 8192 → ws ≡ replicate n 0 → u ≡ replicate m 0 → Clear ws u
cleared n m ws u hn hm ew et =
    record {
      words_long = ap length ew ∙ length-replicate n 0 ∙ hn;
      words_zero = rw ew (replicate_zero n);
      table_long = ap length et ∙ length-replicate m 0 ∙ hm;
      table_zero = rw et (replicate_zero m);
    }
