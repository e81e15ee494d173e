-- Two results that a contract allows for one input are equal.
-- Assumes nothing.
use Prim.Native.Nat.{ℕ}
use mathlib.Core.Path.{◌≡◌, sym, ap, ap₂, ◌∙◌}
use mathlib.Core.List.{[]}
use native.Mathlib.Omega.{arith}
use Rattle.std.specs.Prelude.{Result, Ok, Err, MatchResult}
use Rattle.paper.specs.declared.Reason.{Reason}
use Rattle.paper.specs.declared.Fields.{Fields}
use Rattle.paper.specs.Files.{File, Read, ok, bad}
use Rattle.paper.specs.Refusals.{read_fields}
use Rattle.field.specs.declared.Cursor.{Cursor}
use Rattle.field.specs.declared.Fault.{Fault}
use Rattle.steps.specs.declared.Kind.{Kind}
use Rattle.steps.specs.declared.StepRead.{StepRead}
use Rattle.steps.specs.Steps.{IsRead}
use Rattle.steps.proofs.Fields.{tag_once}
use Rattle.steps.proofs.read_fields.Reads as read_fields
use Rattle.steps.proofs.check_numbers.Reads as check_numbers

-- what the contract says of a result
abbrev Answers : File → ℕ → Result StepRead Fault → Type 0
Answers f at r = MatchResult r (λ s. IsRead f at s) (λ e. read_fields f at ≡ bad e.reason e.place)

once : (f : File) (at : ℕ) (r r' : Result StepRead Fault) → Answers f at r → Answers f at r' → r ≡ r'
once f at (Ok s) (Ok t) p q =
    let k = tag_once s.kind t.kind (p.tag ∙ sym q.tag) in
    let z : ◌≡◌ {A = Read Fields} (ok s.fields) (ok t.fields) = sym p.fields ∙ q.fields in
    let x : s.fields ≡ t.fields = cc in
    let n : s.next ≡ t.next = p.next ∙ ap (λ (y : Fields). record { at = y.next }) x ∙ sym q.next in
    ap (λ (y : Cursor). Ok (record { kind = s.kind; fields = s.fields; next = y })) n ∙ ap₂ (λ (j : Kind) (y : Fields). Ok (record { kind = j; fields = y; next = t.next })) k x
once f at (Ok s) (Err e) p q = let z : ◌≡◌ {A = Read Fields} (ok s.fields) (bad e.reason e.place) = sym p.fields ∙ q in let o : ◌≡◌ {A = ℕ} 0 1 = cc in absurd (omega arith)
once f at (Err e) (Ok t) p q = let z : ◌≡◌ {A = Read Fields} (ok t.fields) (bad e.reason e.place) = sym q.fields ∙ p in let o : ◌≡◌ {A = ℕ} 0 1 = cc in absurd (omega arith)
once f at (Err e) (Err d) p q =
    let z : ◌≡◌ {A = Read Fields} (bad e.reason e.place) (bad d.reason d.place) = sym p ∙ q in
    ap₂ (λ (r : Reason) (n : ℕ). Err (record { reason = r; place = n })) (cc) (cc)

pub read_fields_once : (κs : _) (a : _) (r r' : Result StepRead Fault) (s s' : _) → read_fields.Post κs a r s → read_fields.Post κs a r' s' → r ≡ r'
read_fields_once κs a r r' s s' p q = once _ _ r r' p q

-- the files' bytes do not matter to which numbers are live, so none will do
pub check_numbers_once : (κs : _) (a : _) (r r' : Result (Unit {0}) Fault) (s s' : _) → check_numbers.Post κs a r s → check_numbers.Post κs a r' s' → r ≡ r'
check_numbers_once κs a r r' s s' p q = p [] [] ∙ sym (q [] [])
