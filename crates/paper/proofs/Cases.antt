-- The paper's "Small proofs worked by hand": cases A to M, over the bytes of the two files, and the two stowages that it moves.
-- Assumes nothing.
use Prim.Native.Nat.{ℕ, zero, suc}
use mathlib.Core.Path.{◌≡◌, refl, sym, ap, ◌∙◌, subst}
use mathlib.Core.Bool.{Bool, true, false}
use mathlib.Core.List.Memᴰ
use mathlib.Core.List.{List, [], ◌∷◌, ◌++◌, map}
use Rattle.paper.specs.declared.Reason.TheVariants.{NotRup, NotTrivialised, NotPassing, NumberNotLive, FormulaTwice}
use Rattle.paper.specs.declared.Verdict.{Verdict}
use Rattle.paper.specs.declared.Verdict.TheVariants.{Refuted, Held}
use Rattle.paper.specs.Atoms.{complement, ◌∈◌}
use Rattle.paper.specs.Files.{File, ◌>>=◌, ◌>>◌, need, two, payload, past, field, four, even, fours, codes, mappings}
use Rattle.paper.specs.Conditions.{look, image, is_in, once, under, without, after}
use Rattle.paper.specs.Stowages.{Stowage, variable, value, moved}
use Rattle.paper.specs.Sweeps.{is_true, put, not_false, visit, visits, sweep, sweeps_to, assume, blank, propagate}
use Rattle.paper.specs.Refusals.{each, no_two, between, check_clause, read_clauses, read_formula, field_if, read_fields, check_mappings, is_live, check_numbers, to_step, read_step}
use Rattle.paper.specs.Answers.{refused, Answer}
use Rattle.paper.specs.Line.{digits, word, line}
use Rattle.paper.proofs.Judging.{some, trivialises?, rup?, passes?, failing, take_step}
use Rattle.paper.proofs.Answering.{empty?, at_end, on_read, on_outcome, steps, on_formula, answer, answer_right}

-- V=2, 1:[-1 -2]
abbrev pub F1 : File
F1 = 0x01 ∷ 0 ∷ 4 ∷ 0 ∷ 2 ∷ 0 ∷ 1 ∷ 0x02 ∷ 0 ∷ 4 ∷ 0 ∷ 3 ∷ 0 ∷ 5 ∷ []

-- V=2, 1:[-1 2]
abbrev pub F2 : File
F2 = 0x01 ∷ 0 ∷ 4 ∷ 0 ∷ 2 ∷ 0 ∷ 1 ∷ 0x02 ∷ 0 ∷ 4 ∷ 0 ∷ 3 ∷ 0 ∷ 4 ∷ []

-- V=3, 1:[-1 2], 2:[2 3], 3:[2 -3]
abbrev pub F3 : File
F3 = 0x01 ∷ 0 ∷ 4 ∷ 0 ∷ 3 ∷ 0 ∷ 3 ∷ 0x02 ∷ 0 ∷ 4 ∷ 0 ∷ 3 ∷ 0 ∷ 4 ∷ 0x02 ∷ 0 ∷ 4 ∷ 0 ∷ 4 ∷ 0 ∷ 6 ∷ 0x02 ∷ 0 ∷ 4 ∷ 0 ∷ 4 ∷ 0 ∷ 7 ∷ []

-- V=2, 1:[1], 2:[2], 3:[-1 -2]
abbrev pub F4 : File
F4 = 0x01 ∷ 0 ∷ 4 ∷ 0 ∷ 2 ∷ 0 ∷ 3 ∷ 0x02 ∷ 0 ∷ 2 ∷ 0 ∷ 2 ∷ 0x02 ∷ 0 ∷ 2 ∷ 0 ∷ 4 ∷ 0x02 ∷ 0 ∷ 4 ∷ 0 ∷ 3 ∷ 0 ∷ 5 ∷ []

-- 1 to 2, 2 to 1
abbrev pub swap : List ℕ
swap = 0x21 ∷ 0 ∷ 8 ∷ 0 ∷ 1 ∷ 0 ∷ 4 ∷ 0 ∷ 2 ∷ 0 ∷ 2 ∷ []

-- 1 to T
abbrev pub one_to_t : List ℕ
one_to_t = 0x21 ∷ 0 ∷ 4 ∷ 0 ∷ 1 ∷ 0 ∷ 0 ∷ []

abbrev pub modulo_none : List ℕ
modulo_none = 0x22 ∷ 0 ∷ 0 ∷ []

pub record Case : Type 0 where
  pub formula : File
  pub proof : File
  pub says : Verdict

abbrev pub case : File → File → Verdict → Case
case f p v = record { formula = f; proof = p; says = v }

abbrev pub cases : List Case
cases =
    -- A: F1; WSR [-1], 1 to 2, 2 to 1, modulo none: held, 1 step
    case F1 ((0x13 ∷ 0 ∷ 2 ∷ 0 ∷ 3 ∷ []) ++ swap ++ modulo_none) (Held 1)
    -- B: F1; RUP [-1]: 13, step 1
    ∷ case F1 (0x11 ∷ 0 ∷ 2 ∷ 0 ∷ 3 ∷ []) (refused NotRup 1 0)
    -- C: F1; SR [-1], the swap of A: 14, step 1
    ∷ case F1 ((0x12 ∷ 0 ∷ 2 ∷ 0 ∷ 3 ∷ []) ++ swap) (refused NotTrivialised 1 0)
    -- D: V=2, m=0; WSR [1], 1 to 2, 2 to T, modulo none: 15, step 1, place 1
    ∷ case (0x01 ∷ 0 ∷ 4 ∷ 0 ∷ 2 ∷ 0 ∷ 0 ∷ [])
    ((0x13 ∷ 0 ∷ 2 ∷ 0 ∷ 2 ∷ []) ++ (0x21 ∷ 0 ∷ 8 ∷ 0 ∷ 1 ∷ 0 ∷ 4 ∷ 0 ∷ 2 ∷ 0 ∷ 0 ∷ []) ++ modulo_none) (refused NotPassing 1 1)
    -- E: F2; SR [1], 1 to T: 15, step 1, place 1
    ∷ case F2 ((0x12 ∷ 0 ∷ 2 ∷ 0 ∷ 2 ∷ []) ++ one_to_t) (refused NotPassing 1 1)
    -- F: F2; WSR [1], 1 to T, modulo 1: held, 1 step
    ∷ case F2 ((0x13 ∷ 0 ∷ 2 ∷ 0 ∷ 2 ∷ []) ++ one_to_t ++ (0x22 ∷ 0 ∷ 2 ∷ 0 ∷ 1 ∷ [])) (Held 1)
    -- G: F3; WSR [1], 1 to T, modulo 2: held, 1 step
    ∷ case F3 ((0x13 ∷ 0 ∷ 2 ∷ 0 ∷ 2 ∷ []) ++ one_to_t ++ (0x22 ∷ 0 ∷ 2 ∷ 0 ∷ 2 ∷ [])) (Held 1)
    -- H: F3; DELETE 2; WSR [1], 1 to T, modulo none: 15, step 2, place 1
    ∷ case F3 ((0x14 ∷ 0 ∷ 2 ∷ 0 ∷ 2 ∷ []) ++ (0x13 ∷ 0 ∷ 2 ∷ 0 ∷ 2 ∷ []) ++ one_to_t ++ modulo_none) (refused NotPassing 2 1)
    -- I: F4; RUP []: refuted, 1 step
    ∷ case F4 (0x11 ∷ 0 ∷ 0 ∷ []) (Refuted 1)
    -- J: F4; RUP []; DELETE 4: held, 2 steps
    ∷ case F4 (0x11 ∷ 0 ∷ 0 ∷ 0x14 ∷ 0 ∷ 2 ∷ 0 ∷ 4 ∷ []) (Held 2)
    -- K: F1; DELETE 1; DELETE 1: 11, step 2, place 8
    ∷ case F1 (0x14 ∷ 0 ∷ 2 ∷ 0 ∷ 1 ∷ 0x14 ∷ 0 ∷ 2 ∷ 0 ∷ 1 ∷ []) (refused NumberNotLive 2 8)
    -- L: V=0, m=1, the empty clause; no steps: refuted, 0 steps
    ∷ case (0x01 ∷ 0 ∷ 4 ∷ 0 ∷ 0 ∷ 0 ∷ 1 ∷ 0x02 ∷ 0 ∷ 0 ∷ []) [] (Refuted 0)
    -- M: V=1, m=1, codes 2, 3: 6, step 0, place 12
    ∷ case (0x01 ∷ 0 ∷ 4 ∷ 0 ∷ 1 ∷ 0 ∷ 1 ∷ 0x02 ∷ 0 ∷ 4 ∷ 0 ∷ 2 ∷ 0 ∷ 3 ∷ []) [] (refused FormulaTwice 0 12)
    ∷ []

-- the answer of a case as it is computed, opened all the way down
unfoldable pub answer_of : Case → Verdict
unfolding complement ◌>>=◌ ◌>>◌ need two payload past field four even fours codes mappings look image is_in once under without after is_true put not_false visit visits sweep sweeps_to assume blank propagate each no_two between check_clause read_clauses read_formula field_if read_fields check_mappings is_live check_numbers to_step read_step some trivialises? rup? passes? failing take_step empty? at_end on_read on_outcome steps on_formula answer
answer_of c = answer 16384 8192 c.formula c.proof

-- Cases that are computed as they say have that answer.
pub cases_right : (l : List Case) → map answer_of l ≡ map (λ (c : Case). c.says) l
    → (c : Case) → c ∈ l → Answer 16384 8192 c.formula c.proof c.says
unfolding answer_of
cases_right [] e c m = elim m [ ]
cases_right (x ∷ l) e c (Memᴰ.head p) =
    let q : answer_of x ≡ x.says = cc in
    let r : answer_of c ≡ c.says = ap answer_of p ∙ q ∙ sym (ap (λ (y : Case). y.says) p) in
    subst (Answer 16384 8192 c.formula c.proof) r (answer_right 16384 8192 c.formula c.proof)
cases_right (x ∷ l) e c (Memᴰ.tail p) =
    let q : map answer_of l ≡ map (λ (c : Case). c.says) l = cc in
    cases_right l q c p

computed : map answer_of cases ≡ map (λ (c : Case). c.says) cases
unfolding answer_of
computed = refl

-- The answer of every case is the paper's.
pub cases_a_to_m : (c : Case) → c ∈ cases → Answer 16384 8192 c.formula c.proof c.says
cases_a_to_m = cases_right cases computed

-- "For case A .. the whole output is `held 0 1 0`."
pub line_of_a : line (Held 1) ≡ 104 ∷ 101 ∷ 108 ∷ 100 ∷ 32 ∷ 48 ∷ 32 ∷ 49 ∷ 32 ∷ 48 ∷ 10 ∷ []
unfolding digits word line
line_of_a = refl

-- the values of variables 1 and 2
unfoldable pub pair : Bool → Bool → Stowage
pair a b zero = false
pair a b (suc zero) = a
pair a b (suc (suc v)) = b

-- "In A, the stowage 1 true, 2 false becomes 1 false, 2 true. Moved by the witness of D, 1 false, 2 false becomes 1 false, 2 true."
pub moved_a : (moved ((1, 4) ∷ (2, 2) ∷ []) (pair true false) 1 ≡ false) × (moved ((1, 4) ∷ (2, 2) ∷ []) (pair true false) 2 ≡ true)
unfolding moved value variable look pair
moved_a = (refl, refl)

pub moved_d : (moved ((1, 4) ∷ (2, 0) ∷ []) (pair false false) 1 ≡ false) × (moved ((1, 4) ∷ (2, 0) ∷ []) (pair false false) 2 ≡ true)
unfolding moved value variable look pair
moved_d = (refl, refl)
