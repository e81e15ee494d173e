-- Rows beside the paper's cases A to M, worked by hand from the paper: the reasons and places that those do not show and a short file can
-- (Order has 1, 2 and 12), both sides of a limit where it can show them, and a step of each kind that is taken.
-- Assumes nothing.
use mathlib.Core.Path.{◌≡◌, refl}
use mathlib.Core.List.{List, [], ◌∷◌, ◌++◌, map}
use Rattle.paper.specs.declared.Reason.TheVariants.{FormulaField, OverLimit, FormulaCode, FormulaEnd, ProofField, ProofCode, ProofTwice, NumberNotLive, NotRup, NotTrivialised, NotPassing}
use Rattle.paper.specs.declared.Verdict.TheVariants.{Refuted, Held}
use Rattle.paper.specs.Atoms.{◌∈◌}
use Rattle.paper.specs.Answers.{refused, Answer}
use Rattle.paper.proofs.Cases.{Case, case, F1, F2, F3, F4, swap, one_to_t, modulo_none, answer_of, cases_right}

abbrev pub rows : List Case
rows =
    -- The formula; V is 2 where nothing else is said. 3: no HEAD in an empty file
    case [] [] (refused FormulaField 0 0)
    -- 3: the tag of HEAD is 01
    ∷ case (0x02 ∷ 0 ∷ 4 ∷ 0 ∷ 2 ∷ 0 ∷ 0 ∷ []) [] (refused FormulaField 0 0)
    -- 3: HEAD has length 4
    ∷ case (0x01 ∷ 0 ∷ 6 ∷ 0 ∷ 2 ∷ 0 ∷ 0 ∷ 0 ∷ 0 ∷ []) [] (refused FormulaField 0 0)
    -- 4: V 4,096, before the clause that is missing
    ∷ case (0x01 ∷ 0 ∷ 4 ∷ 16 ∷ 0 ∷ 0 ∷ 1 ∷ []) [] (refused OverLimit 0 0)
    -- V 4,095
    ∷ case (0x01 ∷ 0 ∷ 4 ∷ 15 ∷ 255 ∷ 0 ∷ 0 ∷ []) [] (Held 0)
    -- 4: m 16,384, before the clauses that are missing
    ∷ case (0x01 ∷ 0 ∷ 4 ∷ 0 ∷ 2 ∷ 64 ∷ 0 ∷ []) [] (refused OverLimit 0 0)
    -- 7: m 16,383, and no clause: the file's length
    ∷ case (0x01 ∷ 0 ∷ 4 ∷ 0 ∷ 2 ∷ 63 ∷ 255 ∷ []) [] (refused FormulaEnd 0 7)
    -- 3: the tag of a clause is 02
    ∷ case (0x01 ∷ 0 ∷ 4 ∷ 0 ∷ 2 ∷ 0 ∷ 1 ∷ 0x11 ∷ 0 ∷ 0 ∷ []) [] (refused FormulaField 0 7)
    -- 3: a clause of odd length
    ∷ case (0x01 ∷ 0 ∷ 4 ∷ 0 ∷ 2 ∷ 0 ∷ 1 ∷ 0x02 ∷ 0 ∷ 1 ∷ 3 ∷ []) [] (refused FormulaField 0 7)
    -- 3: a clause cut short, after one that is whole
    ∷ case (0x01 ∷ 0 ∷ 4 ∷ 0 ∷ 2 ∷ 0 ∷ 2 ∷ 0x02 ∷ 0 ∷ 0 ∷ 0x02 ∷ 0 ∷ 4 ∷ 0 ∷ 3 ∷ []) [] (refused FormulaField 0 10)
    -- 5: code 1
    ∷ case (0x01 ∷ 0 ∷ 4 ∷ 0 ∷ 2 ∷ 0 ∷ 1 ∷ 0x02 ∷ 0 ∷ 4 ∷ 0 ∷ 5 ∷ 0 ∷ 1 ∷ []) [] (refused FormulaCode 0 12)
    -- 5: code 2V+2, before 6
    ∷ case (0x01 ∷ 0 ∷ 4 ∷ 0 ∷ 2 ∷ 0 ∷ 1 ∷ 0x02 ∷ 0 ∷ 6 ∷ 0 ∷ 2 ∷ 0 ∷ 2 ∷ 0 ∷ 6 ∷ []) [] (refused FormulaCode 0 14)
    -- 5 of clause 1, before clause 2, which is damaged
    ∷ case (0x01 ∷ 0 ∷ 4 ∷ 0 ∷ 2 ∷ 0 ∷ 2 ∷ 0x02 ∷ 0 ∷ 2 ∷ 0 ∷ 0 ∷ 0x11 ∷ 0 ∷ 0 ∷ []) [] (refused FormulaCode 0 10)
    -- V 128: code 257, which is 2V+1, and 5: code 258; their high byte counts
    ∷ case (0x01 ∷ 0 ∷ 4 ∷ 0 ∷ 128 ∷ 0 ∷ 1 ∷ 0x02 ∷ 0 ∷ 2 ∷ 1 ∷ 1 ∷ []) [] (Held 0)
    ∷ case (0x01 ∷ 0 ∷ 4 ∷ 0 ∷ 128 ∷ 0 ∷ 1 ∷ 0x02 ∷ 0 ∷ 2 ∷ 1 ∷ 2 ∷ []) [] (refused FormulaCode 0 10)
    -- 5 in clause 2: V 1, code 4
    ∷ case (0x01 ∷ 0 ∷ 4 ∷ 0 ∷ 1 ∷ 0 ∷ 2 ∷ 0x02 ∷ 0 ∷ 2 ∷ 0 ∷ 2 ∷ 0x02 ∷ 0 ∷ 4 ∷ 0 ∷ 4 ∷ 0 ∷ 2 ∷ []) [] (refused FormulaCode 0 15)
    -- 7: a byte after clause m
    ∷ case (0x01 ∷ 0 ∷ 4 ∷ 0 ∷ 2 ∷ 0 ∷ 1 ∷ 0x02 ∷ 0 ∷ 4 ∷ 0 ∷ 3 ∷ 0 ∷ 5 ∷ 0x02 ∷ []) [] (refused FormulaEnd 0 14)
    -- The steps. 13 of step 1, before step 2, which is damaged
    ∷ case F1 (0x11 ∷ 0 ∷ 2 ∷ 0 ∷ 3 ∷ 0x15 ∷ 0 ∷ 0 ∷ []) (refused NotRup 1 0)
    -- 8: a tag below and one above those of steps
    ∷ case F1 (0x10 ∷ 0 ∷ 0 ∷ []) (refused ProofField 1 0)
    ∷ case F1 (0x11 ∷ 0 ∷ 4 ∷ 0 ∷ 3 ∷ 0 ∷ 5 ∷ 0x15 ∷ 0 ∷ 0 ∷ []) (refused ProofField 2 7)
    -- 8: a step of odd length, and one cut short
    ∷ case F1 (0x11 ∷ 0 ∷ 1 ∷ 3 ∷ []) (refused ProofField 1 0)
    ∷ case F1 (0x11 ∷ 0 ∷ 2 ∷ 0 ∷ []) (refused ProofField 1 0)
    -- 8: a DELETE of odd length
    ∷ case F3 (0x14 ∷ 0 ∷ 3 ∷ 0 ∷ 1 ∷ 0 ∷ []) (refused ProofField 1 0)
    -- 8: an SR step with no WITNESS: the place where it should be, here the file's length
    ∷ case F1 (0x12 ∷ 0 ∷ 2 ∷ 0 ∷ 3 ∷ []) (refused ProofField 1 5)
    -- 8: a WITNESS whose length is no multiple of 4, before 9 of the clause
    ∷ case F1 (0x12 ∷ 0 ∷ 2 ∷ 0 ∷ 0 ∷ 0x21 ∷ 0 ∷ 2 ∷ 0 ∷ 1 ∷ []) (refused ProofField 1 5)
    -- 8: a WSR step with no MODULO
    ∷ case F1 ((0x13 ∷ 0 ∷ 2 ∷ 0 ∷ 3 ∷ []) ++ swap) (refused ProofField 1 16)
    -- 9: code 1 in a clause; code 2V+2, before 10
    ∷ case F1 (0x11 ∷ 0 ∷ 2 ∷ 0 ∷ 1 ∷ []) (refused ProofCode 1 3)
    ∷ case F1 (0x11 ∷ 0 ∷ 6 ∷ 0 ∷ 2 ∷ 0 ∷ 2 ∷ 0 ∷ 6 ∷ []) (refused ProofCode 1 7)
    -- 9: variable 0 in a witness; variable V+1; atom 2V+2, before variable 0 in the next pair
    ∷ case F1 (0x12 ∷ 0 ∷ 0 ∷ 0x21 ∷ 0 ∷ 4 ∷ 0 ∷ 0 ∷ 0 ∷ 0 ∷ []) (refused ProofCode 1 6)
    ∷ case F1 (0x12 ∷ 0 ∷ 0 ∷ 0x21 ∷ 0 ∷ 4 ∷ 0 ∷ 3 ∷ 0 ∷ 0 ∷ []) (refused ProofCode 1 6)
    ∷ case F1 (0x12 ∷ 0 ∷ 0 ∷ 0x21 ∷ 0 ∷ 8 ∷ 0 ∷ 1 ∷ 0 ∷ 6 ∷ 0 ∷ 0 ∷ 0 ∷ 0 ∷ []) (refused ProofCode 1 8)
    -- 9 of a witness, before its 10
    ∷ case F1 (0x12 ∷ 0 ∷ 0 ∷ 0x21 ∷ 0 ∷ 12 ∷ 0 ∷ 1 ∷ 0 ∷ 0 ∷ 0 ∷ 1 ∷ 0 ∷ 0 ∷ 0 ∷ 0 ∷ 0 ∷ 0 ∷ []) (refused ProofCode 1 14)
    -- 10: variable 1 twice in a clause, before 9 of the witness
    ∷ case F1 (0x12 ∷ 0 ∷ 4 ∷ 0 ∷ 2 ∷ 0 ∷ 3 ∷ 0x21 ∷ 0 ∷ 4 ∷ 0 ∷ 0 ∷ 0 ∷ 0 ∷ []) (refused ProofTwice 1 5)
    -- 10 in step 2: V 1, 1:[1]; RUP [1]; RUP with codes 2 and 3
    ∷ case (0x01 ∷ 0 ∷ 4 ∷ 0 ∷ 1 ∷ 0 ∷ 1 ∷ 0x02 ∷ 0 ∷ 2 ∷ 0 ∷ 2 ∷ []) (0x11 ∷ 0 ∷ 2 ∷ 0 ∷ 2 ∷ 0x11 ∷ 0 ∷ 4 ∷ 0 ∷ 2 ∷ 0 ∷ 3 ∷ []) (refused ProofTwice 2 10)
    -- 10: variable 1 mapped twice, before 11
    ∷ case F1 (0x13 ∷ 0 ∷ 2 ∷ 0 ∷ 2 ∷ 0x21 ∷ 0 ∷ 8 ∷ 0 ∷ 1 ∷ 0 ∷ 0 ∷ 0 ∷ 1 ∷ 0 ∷ 5 ∷ 0x22 ∷ 0 ∷ 2 ∷ 0 ∷ 2 ∷ []) (refused ProofTwice 1 12)
    -- 11: clause 0; a number not above the one before it
    ∷ case F3 (0x14 ∷ 0 ∷ 2 ∷ 0 ∷ 0 ∷ []) (refused NumberNotLive 1 3)
    ∷ case F3 (0x14 ∷ 0 ∷ 4 ∷ 0 ∷ 2 ∷ 0 ∷ 1 ∷ []) (refused NumberNotLive 1 5)
    ∷ case F3 (0x14 ∷ 0 ∷ 4 ∷ 0 ∷ 2 ∷ 0 ∷ 2 ∷ []) (refused NumberNotLive 1 5)
    -- 11: a clause named in MODULO is no longer live
    ∷ case F2 ((0x13 ∷ 0 ∷ 2 ∷ 0 ∷ 2 ∷ []) ++ one_to_t ++ (0x22 ∷ 0 ∷ 2 ∷ 0 ∷ 1 ∷ 0x14 ∷ 0 ∷ 2 ∷ 0 ∷ 1 ∷ [])) (refused NumberNotLive 2 20)
    -- The conditions. RUP [-2]: taken
    ∷ case F4 (0x11 ∷ 0 ∷ 2 ∷ 0 ∷ 5 ∷ []) (Held 1)
    -- SR [2], 2 to T: taken; [2] is not RUP over F2
    ∷ case F2 (0x12 ∷ 0 ∷ 2 ∷ 0 ∷ 4 ∷ 0x21 ∷ 0 ∷ 4 ∷ 0 ∷ 2 ∷ 0 ∷ 0 ∷ []) (Held 1)
    -- V=2, 1:[1 2]; SR [1 -2], 1 to 2: C is sent to complements, and clause 1 to a literal with its complement in C
    ∷ case (0x01 ∷ 0 ∷ 4 ∷ 0 ∷ 2 ∷ 0 ∷ 1 ∷ 0x02 ∷ 0 ∷ 4 ∷ 0 ∷ 2 ∷ 0 ∷ 4 ∷ [])
    (0x12 ∷ 0 ∷ 4 ∷ 0 ∷ 2 ∷ 0 ∷ 5 ∷ 0x21 ∷ 0 ∷ 4 ∷ 0 ∷ 1 ∷ 0 ∷ 4 ∷ []) (Held 1)
    -- 14 before 15: SR [2], 1 to T, with which clause 1 does not pass either
    ∷ case F2 ((0x12 ∷ 0 ∷ 2 ∷ 0 ∷ 4 ∷ []) ++ one_to_t) (refused NotTrivialised 1 0)
    -- 15: the lowest of two that don't pass: V=3, 1:[2 3], 2:[-1 2], 3:[-1 3]; SR [1], 1 to T
    ∷ case (0x01 ∷ 0 ∷ 4 ∷ 0 ∷ 3 ∷ 0 ∷ 3 ∷ 0x02 ∷ 0 ∷ 4 ∷ 0 ∷ 4 ∷ 0 ∷ 6 ∷ 0x02 ∷ 0 ∷ 4 ∷ 0 ∷ 3 ∷ 0 ∷ 4 ∷ 0x02 ∷ 0 ∷ 4 ∷ 0 ∷ 3 ∷ 0 ∷ 6 ∷ [])
    ((0x12 ∷ 0 ∷ 2 ∷ 0 ∷ 2 ∷ []) ++ one_to_t) (refused NotPassing 1 2)
    -- 15: C under the number that it would get: WSR [-1], no mapping
    ∷ case F1 (0x13 ∷ 0 ∷ 2 ∷ 0 ∷ 3 ∷ 0x21 ∷ 0 ∷ 0 ∷ 0x22 ∷ 0 ∷ 0 ∷ []) (refused NotPassing 1 2)
    -- 15: a clause of F before C: WSR [1], the swap of A
    ∷ case F2 ((0x13 ∷ 0 ∷ 2 ∷ 0 ∷ 2 ∷ []) ++ swap ++ modulo_none) (refused NotPassing 1 1)
    -- a number is never used again: RUP []; DELETE 4; RUP []; DELETE 5
    ∷ case F4 (0x11 ∷ 0 ∷ 0 ∷ 0x14 ∷ 0 ∷ 2 ∷ 0 ∷ 4 ∷ 0x11 ∷ 0 ∷ 0 ∷ 0x14 ∷ 0 ∷ 2 ∷ 0 ∷ 5 ∷ []) (Held 4)
    -- DELETE nothing: taken
    ∷ case (0x01 ∷ 0 ∷ 4 ∷ 0 ∷ 0 ∷ 0 ∷ 1 ∷ 0x02 ∷ 0 ∷ 0 ∷ []) (0x14 ∷ 0 ∷ 0 ∷ []) (Refuted 1)
    ∷ []

computed : map answer_of rows ≡ map (λ (c : Case). c.says) rows
unfolding answer_of
computed = refl

-- The answer of every row is the one worked by hand.
pub rows_worked : (c : Case) → c ∈ rows → Answer 16384 8192 c.formula c.proof c.says
rows_worked = cases_right rows computed
