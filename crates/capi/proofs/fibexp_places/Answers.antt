-- `fibexp_places` meets its contract: what is stored is the service's answer, at most 46.
use mathlib.Core.Path.{sym, ◌∙◌}
use native.Mathlib.Omega.{arith}
use Rattle.fibonacci.proofs.Laws.Places.{places_most}
use Rattle.capi.proofs.Laws.Storing.{stored_beside}
use Rattle.capi.proofs.fibexp_places.Goals as goal

pub store_u32-requires : goal.store_u32-requires
store_u32-requires c = λ x e. omega (arith, places_most _ _ (omega arith) (sym c.places.ensures.result_value ∙ e))

pub returns : goal.returns
returns c = let both = stored_beside _ (c.places.ensures.result_value, c.places.ensures.buffer_after) (c.store_u32.ensures.value, c.store_u32.ensures.place_after) in record { value = both.0; places_after = both.1.0; count_after = both.1.1 }
