-- Paper, "Verdicts and reasons": what is refused while a file is read, in the paper's order.
use Rattle.std.specs.Prelude.{ℕ, zero, suc, ◌+◌, ◌*◌, ◌/◌, Bool, true, false, ◌&&◌, ◌||◌, List, [], ◌∷◌, map, eqb, leb, ltb, length, get_or}
use Rattle.paper.specs.declared.Reason.{Reason}
use Rattle.paper.specs.declared.Reason.TheVariants.{FormulaField, OverLimit, FormulaCode, FormulaTwice, FormulaEnd, ProofField, ProofCode, ProofTwice, NumberNotLive, NumbersUsedUp}
use Rattle.paper.specs.declared.Extent.{Extent}
use Rattle.paper.specs.declared.Fields.{Fields}
use Rattle.paper.specs.Atoms.{Clause, Formula, Witness}
use Rattle.paper.specs.Files.{File, Read, ok, bad, ◌>>=◌, ◌>>◌, need, two, payload, past, field, four, even, fours, codes, mappings, Step, rup_step, sr_step, wsr_step, delete_step}
use Rattle.paper.specs.Conditions.{is_in}

-- "Within one reason and field the first place counts."
-- The numbers of a list stand at the places p, p + u, p + 2u and so on; the first that fails a test is refused.
unfoldable pub each : Reason → (ℕ → Bool) → ℕ → ℕ → List ℕ → Read (Unit {0})
each r good u p [] = ok tt
each r good u p (x ∷ xs) = elim (good x) [ true ↦ each r good u (p + u) xs | false ↦ bad r p ]

-- the first that stands in the list already is refused
unfoldable pub no_two : Reason → List ℕ → ℕ → ℕ → List ℕ → Read (Unit {0})
no_two r seen u p [] = ok tt
no_two r seen u p (x ∷ xs) = elim (is_in x seen) [ true ↦ bad r p | false ↦ no_two r (x ∷ seen) u (p + u) xs ]

unfoldable pub between : ℕ → ℕ → ℕ → Bool
between low high x = leb low x && leb x high

-- A clause, and the place of its first code. 5 and 9: "code outside 2 to 2V+1"; 6 and 10: "variable twice in a clause", at "its
-- second code". 02, §6: "with codes in range and no variable twice, no clause has more than V literals", so there is no test for 16.
unfoldable pub check_clause : Reason → Reason → ℕ → ℕ → Clause → Read (Unit {0})
check_clause range twice vars p C = do
  each range (between 2 (2 * vars + 1)) 2 p C
  no_two twice [] 2 p (map (λ l. l / 2) C)

-- "for each clause 7 (bytes at an end), 3, 5, 6 ..": m clauses, under the numbers from n on, and the place past them
unfoldable pub read_clauses : File → ℕ → ℕ → ℕ → ℕ → Read (Formula × ℕ)
read_clauses f vars zero n at = ok ([], at)
read_clauses f vars (suc m) n at = do
  need (ltb at (length f)) FormulaEnd at
  e ← field FormulaField 0x02 even f at
  check_clause FormulaCode FormulaTwice vars e.start (codes (payload f e))
  more ← read_clauses f vars m (suc n) (past e)
  ok ((n, codes (payload f e)) ∷ more.0, more.1)

-- "In the formula: HEAD 3, 4; for each clause ..; after clause m, 7." V, the clauses, and the number of the next clause.
unfoldable pub read_formula : File → Read (ℕ × Formula × ℕ)
read_formula f = do
  e ← field FormulaField 0x01 four f 0
  need (leb (two f 3) 4095 && leb (two f 5) 16383) OverLimit 0
  F ← read_clauses f (two f 3) (two f 5) 1 (past e)
  need (leb (length f) F.1) FormulaEnd F.1
  ok (two f 3, F.0, suc (two f 5))

-- a field that the step has only if its tag asks for it
unfoldable pub field_if : Bool → ℕ → (ℕ → Bool) → File → ℕ → Read Extent
field_if true tag allowed f at = field ProofField tag allowed f at
field_if false tag allowed f at = ok (record { start = at; size = 0 })

-- "In a step: 8 over all its fields". 0x11 RUP, 0x12 SR, 0x13 WSR, 0x14 DELETE; 0x21 WITNESS, 0x22 MODULO.
unfoldable pub read_fields : File → ℕ → Read Fields
read_fields f at = do
  need (between 0x11 0x14 (get_or f at 0)) ProofField at
  c ← field ProofField (get_or f at 0) even f at
  w ← field_if (between 0x12 0x13 (get_or f at 0)) 0x21 fours f (past c)
  n ← field_if (eqb (get_or f at 0) 0x13) 0x22 even f (past w)
  ok (elim (eqb (get_or f at 0) 0x14) [
    | true ↦ record { clause = n; witness = n; numbers = c; next = past c }
    | false ↦ record { clause = c; witness = w; numbers = n; next = past n }
  ])

-- 9: "witness variable outside 1 to V, atom outside 0 to 2V+1"
unfoldable pub check_mappings : ℕ → ℕ → Witness → Read (Unit {0})
check_mappings vars p [] = ok tt
check_mappings vars p (m ∷ s) = do
  need (between 1 vars m.0) ProofCode p
  need (leb m.1 (2 * vars + 1)) ProofCode (p + 2)
  check_mappings vars (p + 4) s

unfoldable pub is_live : ℕ → Formula → Bool
is_live n [] = false
is_live n (D ∷ F) = eqb n D.0 || is_live n F

-- 11: "number not live, or not above the one before it in its list"
unfoldable pub check_numbers : Formula → ℕ → ℕ → List ℕ → Read (Unit {0})
check_numbers F last p [] = ok tt
check_numbers F last p (n ∷ ns) = do
  need (is_live n F && ltb last n) NumberNotLive p
  check_numbers F n (p + 2) ns

unfoldable pub to_step : ℕ → Clause → Witness → List ℕ → Step
to_step tag C s ns =
    elim (eqb tag 0x11) [
      | true ↦ rup_step C
      | false ↦ elim (eqb tag 0x12) [ true ↦ sr_step C s | false ↦ elim (eqb tag 0x13) [ true ↦ wsr_step C s ns | false ↦ delete_step ns ] ]
    ]

-- "the clause 9, 10 ..; the witness 9, 10; the numbers 11; then 12". The step at a place, and the place past it.
unfoldable pub read_step : File → ℕ → Formula → ℕ → ℕ → Read (Step × ℕ)
read_step f vars F next at = do
  x ← read_fields f at
  let C : Clause = codes (payload f x.clause)
  let s : Witness = mappings (codes (payload f x.witness))
  let ns : List ℕ = codes (payload f x.numbers)
  check_clause ProofCode ProofTwice vars x.clause.start C
  check_mappings vars x.witness.start s
  no_two ProofTwice [] 4 x.witness.start (map (λ (m : ℕ × ℕ). m.0) s)
  check_numbers F 0 x.numbers.start ns
  need (eqb (get_or f at 0) 0x14 || ltb next 16384) NumbersUsedUp at
  ok (to_step (get_or f at 0) C s ns, x.next)
