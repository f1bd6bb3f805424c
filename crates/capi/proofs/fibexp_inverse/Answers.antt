-- `fibexp_inverse` meets its contract: what is stored is the service's answer, which is below r.
use mathlib.Core.Path.{sym, ◌∙◌}
use native.Mathlib.Omega.{arith}
use Rattle.modular.proofs.Laws.Service.{inverse_below}
use Rattle.capi.proofs.Laws.Storing.{stored}
use Rattle.capi.proofs.fibexp_inverse.Goals as goal

pub store_u32-requires : goal.store_u32-requires
store_u32-requires c = λ x e. omega (arith, inverse_below _ _ (sym c.inverse.ensures ∙ e))

pub returns : goal.returns
returns c = let both = stored _ c.inverse.ensures (c.store_u32.ensures.value, c.store_u32.ensures.place_after) in record { value = both.0; inverse_after = both.1 }
