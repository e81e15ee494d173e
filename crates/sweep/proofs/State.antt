-- A sweep's state says its record, and with it what the table holds.
-- Assumes nothing.
use Prim.Native.Nat.{ℕ, ◌<◌}
use mathlib.Core.Path.{◌≡◌, sym, ap, ◌∙◌}
use mathlib.Core.List.{List}
use native.Mathlib.Omega.{arith}
use native.Mathlib.Decide.{dec_lt}
use lib.ListN.{get_or}
use Rattle.paper.specs.Sweeps.{State}
use Rattle.table.specs.Table.{values, value_at, Kept}
use Rattle.table.proofs.Values.{values_at}
use Rattle.table.proofs.Kept.{kept_once}
use Rattle.sweep.specs.declared.Propagation.{Propagation}
use Rattle.sweep.specs.Swept.{state_of}

-- one state, in two tables that are both t but for values of the variables 0 to 4,095: the same record, and the same table
pub state_once : {t u u' : List ℕ} (r r' : Propagation) → state_of u r ≡ state_of u' r' → Kept t u → Kept t u'
    → ((v : ℕ) → 4095 < v → value_at u v ≡ value_at t v) → ((v : ℕ) → 4095 < v → value_at u' v ≡ value_at t v) → (r ≡ r') × (u ≡ u')
state_once {t} {u} {u'} r r' e k k' beyond beyond' = (held, kept_once k k' (λ v. each v (dec_lt 4095 v)))
  where
    held : r ≡ r'
    held = ap (λ (x : State). record { literals = x.literals; sweeps = x.sweeps; clash = x.clash }) e

    same : values 4095 u ≡ values 4095 u'
    same = ap (λ (x : State). x.values) e

    each : (v : ℕ) → Dec (4095 < v) → value_at u v ≡ value_at u' v
    each v (yes h) = beyond v h ∙ sym (beyond' v h)
    each v (no h) =
        sym (values_at 4095 u (omega arith)) ∙ ap (λ (vs : List ℕ). get_or vs v 0) same ∙ values_at 4095 u' (omega arith)
