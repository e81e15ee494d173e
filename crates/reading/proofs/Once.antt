-- Two results that a contract allows for one input, with the words and the table that it leaves, are equal.
-- Assumes nothing.
use Prim.Native.Nat.{ℕ, ◌-◌}
use mathlib.Core.Path.{◌≡◌, sym, ap, ◌∙◌}
use mathlib.Core.List.{List, []}
use native.Mathlib.Omega.{arith}
use Rattle.std.proofs.Common.{Result, Ok, Err}
use Rattle.paper.specs.declared.Reason.{Reason}
use Rattle.paper.specs.Atoms.{Formula}
use Rattle.paper.specs.Files.{File}
use Rattle.lookup.specs.Live.{live}
use Rattle.field.specs.declared.Fault.{Fault}
use Rattle.reading.specs.declared.FormulaRead.{FormulaRead}
use Rattle.reading.specs.Reading.{entered, FormulaSaid}
use Rattle.reading.proofs.read_formula.Reads as read_formula

-- one thing is said of a formula; the proof's bytes do not matter to it, so none will do
said_once : (f : File) (ws₀ ws ws' : List ℕ) (r r' : Result FormulaRead Fault) → FormulaSaid f ws₀ ws r → FormulaSaid f ws₀ ws' r' → (r ≡ r') × (ws ≡ ws')
said_once f ws₀ ws ws' (Ok a) (Ok b) p q =
    let k = p.read [] in
    let l = q.read [] in
    let e : ◌≡◌ {A = ℕ × Formula × ℕ} (a.vars, live f [] ws, a.next) (b.vars, live f [] ws', b.next) = cc in (
      ap (λ (x : ℕ × Formula × ℕ). Ok (record { vars = x.0; next = x.2 })) e,
      p.words ∙ ap (λ (x : ℕ × Formula × ℕ). entered f (x.2 - 1) 1 7 ws₀) e ∙ sym q.words,
    )
said_once f ws₀ ws ws' (Ok a) (Err b) p q =
    let k = p.read [] in
    let l = q.read in
    let z : ◌≡◌ {A = ℕ} 0 1 = cc in absurd (omega arith)
said_once f ws₀ ws ws' (Err b) (Ok a) p q =
    let k = p.read in
    let l = q.read [] in
    let z : ◌≡◌ {A = ℕ} 0 1 = cc in absurd (omega arith)
said_once f ws₀ ws ws' (Err b) (Err b') p q =
    let k = p.read in
    let l = q.read in
    let e : b.reason ≡ b'.reason = cc in
    let g : b.place ≡ b'.place = cc in
    (ap Err (ap (λ (x : Reason). record { reason = x; place = b.place }) e ∙ ap (λ (x : ℕ). record { reason = b'.reason; place = x }) g), p.words ∙ sym q.words)

pub read_formula_once : (κs : _) (a : _) (r r' : Result FormulaRead Fault) (s s' : _) → read_formula.Post κs a r s → read_formula.Post κs a r' s'
    → (r ≡ r') × (s.1.0.now ≡ s'.1.0.now) × (s.1.1.0.now ≡ s'.1.1.0.now)
read_formula_once κs a r r' s s' p q =
    let e = said_once _ _ _ _ r r' p.0 q.0 in
    (e.0, e.1, p.1 ∙ sym q.1)
