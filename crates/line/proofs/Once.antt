-- Two results that a contract allows for one input are equal.
-- Assumes nothing.
use Prim.Native.Nat.{ℕ, ◌-◌}
use mathlib.Core.Path.{◌≡◌, sym, ap, ap₂, ◌∙◌}
use mathlib.Core.List.{List, ◌++◌}
use lib.ListN.{replicate}
use Rattle.line.specs.declared.Line.{Line}
use Rattle.line.specs.Put.{Holds}
use Rattle.line.proofs.line_of.Reads as LineOf

-- a text makes one line
pub holds_once : (text : List ℕ) (l l' : Line) → Holds l text → Holds l' text → l ≡ l'
holds_once text l l' p q = ap₂ (λ (bytes : List ℕ) (size : ℕ). record { bytes = bytes; size = size }) same_bytes same_size
  where
    same_size : l.size ≡ l'.size
    same_size = p.size ∙ sym q.size

    same_bytes : l.bytes ≡ l'.bytes
    same_bytes = p.bytes ∙ ap (λ (n : ℕ). text ++ replicate (80 - n) 0) same_size ∙ sym q.bytes

pub line_of_once : (κs : _) (a : _) (r r' : Line) (s s' : _) → LineOf.Post κs a r s → LineOf.Post κs a r' s' → r ≡ r'
line_of_once κs a r r' s s' p q = holds_once _ r r' p q
