-- Two results that a contract allows for one input are equal; two items that an iterator may give from one state are, and so is what is
-- left behind them. Assumes nothing.
use mathlib.Core.Path.{◌≡◌, refl, sym, ap, ◌∙◌}
use mathlib.Core.List.{List, [], ◌∷◌}
use native.Mathlib.Omega.{arith}
use lib.ListN.{length, length-append}
use Rattle.std.specs.Prelude.{Option, Some, None}
use Rattle.std.specs.Iterator.{YieldsFirst, YieldsLast}
use Rattle.std.proofs.lemmas.List.{same_from_push}
use Rattle.codes.specs.declared.Codes.{Codes}
use Rattle.codes.specs.declared.Mappings.{Mappings}
use Rattle.codes.proofs.of.Reads as codes
use Rattle.codes.proofs.mapped.Reads as mappings

module _ {S A : Type 0} (rest : S → List A) (s : S) where
  pub yields_once : (r r' : Option A) (t t' : S) → YieldsFirst rest s r t → YieldsFirst rest s r' t' → (r ≡ r') × (rest t ≡ rest t')
  yields_once None None t t' p q = (refl, p.1 ∙ sym q.1)
  yields_once None (Some y) t t' p q = let e = ap length (sym p.0 ∙ q) in absurd (omega (arith, e))
  yields_once (Some x) None t t' p q = let e = ap length (sym q.0 ∙ p) in absurd (omega (arith, e))
  yields_once (Some x) (Some y) t t' p q = let e : x ∷ rest t ≡ y ∷ rest t' = sym p ∙ q in (cc, cc)

  pub yields_back_once : (r r' : Option A) (t t' : S) → YieldsLast rest s r t → YieldsLast rest s r' t' → (r ≡ r') × (rest t ≡ rest t')
  yields_back_once None None t t' p q = (refl, p.1 ∙ sym q.1)
  yields_back_once None (Some y) t t' p q = absurd (omega (arith, ap length (sym p.0 ∙ q), length-append {A = _} (rest t') (y ∷ [])))
  yields_back_once (Some x) None t t' p q = absurd (omega (arith, ap length (sym q.0 ∙ p), length-append {A = _} (rest t) (x ∷ [])))
  yields_back_once (Some x) (Some y) t t' p q = let i = same_from_push _ _ x y (sym p ∙ q) in (ap Some i.1, i.0)

pub of_once : (κs : _) (a : _) (r r' : Codes) (s s' : _) → codes.Post κs a r s → codes.Post κs a r' s' → r ≡ r'
of_once κs a r r' s s' p q = ap (λ bytes. record { bytes = bytes }) (p ∙ sym q)

pub mapped_once : (κs : _) (a : _) (r r' : Mappings) (s s' : _) → mappings.Post κs a r s → mappings.Post κs a r' s' → r ≡ r'
mapped_once κs a r r' s s' p q = ap (λ bytes. record { bytes = bytes }) (p ∙ sym q)
