-- Two results that a contract allows for one input are equal.
-- Assumes nothing.
use mathlib.Core.Path.{◌≡◌, refl}
use mathlib.Core.Bool.{Bool, true, false}
use Rattle.lookup.proofs.has_empty.Reads as has_empty

pub has_empty_once : (κs : _) (a : _) (r r' : Bool) (s s' : _) → has_empty.Post κs a r s → has_empty.Post κs a r' s' → r ≡ r'
has_empty_once κs a true true s s' p q = refl
has_empty_once κs a false false s s' p q = refl
has_empty_once κs a true false s s' p q = let x = p.some refl in absurd (q.none refl x.0 x.1)
has_empty_once κs a false true s s' p q = let x = q.some refl in absurd (p.none refl x.0 x.1)
