-- What the code's answers say of a step, by the paper's definitions.
use Rattle.std.specs.Prelude.{ℕ, suc, ◌<◌, ◌≤◌, ◌≡◌, ◌≢◌, true, false, ◌||◌, List, [], map, eqb, ltb, length, get_or, set, Result, Ok, Err}
use Rattle.paper.specs.declared.Reason.TheVariants.{ProofCode, ProofTwice, NumbersUsedUp}
use Rattle.paper.specs.declared.Fields.{Fields}
use Rattle.paper.specs.Atoms.{Clause, Formula, Witness}
use Rattle.paper.specs.Files.{File, Read, ok, bad, ◌>>◌, need, payload, codes, mappings, Step}
use Rattle.paper.specs.Conditions.{without, after}
use Rattle.paper.specs.Refusals.{no_two, check_clause, read_fields, check_mappings, check_numbers, to_step, read_step}
use Rattle.paper.specs.Answers.{Outcome, taken, stops, Judged}
use Rattle.paper.specs.Valid.{Kept, Listed}
use Rattle.paper.specs.Valid as valid
use Rattle.lookup.specs.declared.Clauses.{Clauses}
use Rattle.lookup.specs.Clause.{proof_word, ClauseTable}
use Rattle.lookup.specs.Live.{live}
use Rattle.table.specs.Table.{Zero}
use Rattle.field.specs.declared.Fault.{Fault}
use Rattle.steps.specs.declared.Kind.{Kind}
use Rattle.steps.specs.declared.StepRead.{StepRead}
use Rattle.steps.specs.Steps.{tag_of, IsRead, removed}
use Rattle.loading.specs.Loading.{Images, Inward}
use Rattle.loading.specs.Loading as loading
use Rattle.conditions.specs.Asked.{live_in}
use Rattle.judging.specs.declared.Taken.{Taken}

-- the outcome that a judgement of a step with the tag, the new clause C and the numbers ns stands for
unfoldable pub outcome : Formula → ℕ → ℕ → Clause → List ℕ → Result (Unit {0}) Fault → Outcome
outcome F next tag C ns (Ok u) = elim (eqb tag 0x14) [ true ↦ taken (without ns F) next | false ↦ taken (after ns next C F) (suc next) ]
outcome F next tag C ns (Err e) = stops e.reason e.place

-- what is refused of a step after its clause and its witness: a number that it names, then the number that its new clause gets
unfoldable pub rest : Formula → ℕ → Kind → ℕ → List ℕ → ℕ → Read (Unit {0})
rest F at k start ns next = do
  check_numbers F 0 start ns
  need (eqb (tag_of k) 0x14 || ltb next 16384) NumbersUsedUp at

-- A judgement of a RUP, SR or WSR step is asked: its clause and its numbers are fit to be judged, and so are the live clauses; the table
-- has room for the variables, none of which has a value.
pub record New (c : Clauses) (kind : Kind) (clause numbers : List ℕ) (vars next : ℕ) (t : List ℕ) : Type 0 where
  pub limit : length c.words.now ≤ 16384
  pub kept : Kept vars next (live_in c)
  pub new : valid.New vars next (codes clause)
  pub listed : Listed (live_in c) 0 (codes numbers)
  pub none_listed : tag_of kind < 0x13 → codes numbers ≡ []
  pub table : loading.Ready vars t
  pub inward : Inward vars t

-- the judgement is that of the step, for every witness whose images the table holds
abbrev pub NewJudged : Formula → Kind → List ℕ → List ℕ → ℕ → ℕ → List ℕ → Result (Unit {0}) Fault → Type 0
NewJudged F kind clause numbers vars next t r =
    (s : Witness) → Images t s
    → Judged F next (to_step (tag_of kind) (codes clause) s (codes numbers)) (outcome F next (tag_of kind) (codes clause) (codes numbers) r)

-- What the judgement of a step's fields says: the step is refused as it is read, or it is read and judged.
pub data JudgementIs (proof : File) (vars : ℕ) (F : Formula) (next at : ℕ) (x : Fields) : Result (Unit {0}) Fault → Type 0 where
  unread : {e : Fault} → read_step proof vars F next at ≡ bad e.reason e.place → JudgementIs proof vars F next at x (Err e)
  judged : {t : Step} {j : Result (Unit {0}) Fault} → read_step proof vars F next at ≡ ok (t, x.next) → (get_or proof at 0 ≢ 0x14 → next < 16384)
      → Listed F 0 (codes (payload proof x.numbers))
      → Judged F next t (outcome F next (get_or proof at 0) (codes (payload proof x.clause)) (codes (payload proof x.numbers)) j)
      → JudgementIs proof vars F next at x j

-- The step at a place has that answer, and leaves G live; one that is refused leaves what was.
pub data StepIs (proof : File) (vars : ℕ) (F : Formula) (next at : ℕ) : Result Taken Fault → Formula → Type 0 where
  unread : {e : Fault} → read_step proof vars F next at ≡ bad e.reason e.place → StepIs proof vars F next at (Err e) F
  refused : {t : Step} {later : ℕ} {e : Fault} → read_step proof vars F next at ≡ ok (t, later) → Judged F next t (stops e.reason e.place)
      → StepIs proof vars F next at (Err e) F
  goes_on : {t : Step} {later m : ℕ} {G : Formula} → read_step proof vars F next at ≡ ok (t, later) → Judged F next t (taken G m)
      → StepIs proof vars F next at (Ok (record { next = m; later = record { at = later } })) G

-- What is asked of a step's place, of the clause table and of the table of variables: nothing that a caller does not know from the step
-- before.
pub record Ready (f p : File) (at vars next : ℕ) (words t : List ℕ) : Type 0 where
  pub place : at < length p
  pub proof_short : length p ≤ 1048576
  pub variables : vars ≤ 4095
  pub first : 1 ≤ next
  pub last : next ≤ 16384
  pub words_long : length words ≡ 16384
  pub clauses : ClauseTable f p next words
  pub kept : Kept vars next (live f p words)
  pub table_long : length t ≡ 8192
  pub table_zero : Zero t

-- the words after a step with those fields: the numbers that it names cleared, and its new clause, if it has one, entered
unfoldable pub words_after : File → ℕ → ℕ → Fields → List ℕ → List ℕ
words_after p at next x words =
    elim (eqb (get_or p at 0) 0x14) [
      | true ↦ removed words (codes (payload p x.numbers))
      | false ↦ set (removed words (codes (payload p x.numbers))) next (proof_word at)
    ]

-- the clause table after a step that is taken; m is the next number then
pub record AfterTaken (f p : File) (at next : ℕ) (words : List ℕ) (m : ℕ) (words' : List ℕ) : Type 0 where
  pub fields : Fields
  pub read : read_fields p at ≡ ok fields
  pub contents : words' ≡ words_after p at next fields words
  pub long : length words' ≡ length words
  pub last : m ≤ 16384
  pub clauses : ClauseTable f p m words'

-- and after any answer: a step that is refused leaves it as it was
abbrev pub After : File → File → ℕ → ℕ → Result Taken Fault → List ℕ → List ℕ → Type 0
After f p at next (Err e) words words' = words' ≡ words
After f p at next (Ok s) words words' = AfterTaken f p at next words s.next words'

pub record Done (f p : File) (at vars next : ℕ) (words t : List ℕ) (r : Result Taken Fault) (words' t' : List ℕ) : Type 0 where
  pub answer : StepIs p vars (live f p words) next at r (live f p words')
  pub after : After f p at next r words words'
  pub table : t' ≡ t

-- the step was read
pub record Checkable (f p : File) (at : ℕ) (s : StepRead) (vars next : ℕ) (words t : List ℕ) : Type 0 where
  pub ready : Ready f p at vars next words t
  pub read : IsRead p at s

-- its clause and its witness were checked, and the witness is loaded
pub record Loadable (f p : File) (at : ℕ) (s : StepRead) (vars next : ℕ) (words t : List ℕ) : Type 0 where
  pub place : at < length p
  pub last : next ≤ 16384
  pub words_long : length words ≡ 16384
  pub clauses : ClauseTable f p next words
  pub kept : Kept vars next (live f p words)
  pub read : IsRead p at s
  pub clause : check_clause ProofCode ProofTwice vars s.fields.clause.start (codes (payload p s.fields.clause)) ≡ ok tt
  pub mapped : check_mappings vars s.fields.witness.start (mappings (codes (payload p s.fields.witness))) ≡ ok tt
  pub once : no_two ProofTwice [] 4 s.fields.witness.start (map (λ (m : ℕ × ℕ). m.0) (mappings (codes (payload p s.fields.witness)))) ≡ ok tt
  pub table : loading.Ready vars t
  pub images : Images t (mappings (codes (payload p s.fields.witness)))
