-- Two results that a contract allows for one input are equal.
-- Assumes nothing.
use mathlib.Core.Path.{◌≡◌, sym, ap₂, ◌∙◌}
use Rattle.reader.specs.declared.ProofReader.{ProofReader}
use Rattle.reader.proofs.open.Reads as opened

pub open_once : (κs : _) (a : _) (r r' : ProofReader) (s s' : _) → opened.Post κs a r s → opened.Post κs a r' s' → r ≡ r'
open_once κs a r r' s s' p q = ap₂ (λ bytes place. record { bytes = bytes; place = place }) (p.0 ∙ sym q.0) (p.1 ∙ sym q.1)
