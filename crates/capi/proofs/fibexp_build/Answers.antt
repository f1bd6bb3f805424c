-- `fibexp_build` meets its contract: what is stored is the service's answer, at most 512.
use mathlib.Core.Path.{sym, ◌∙◌}
use native.Mathlib.Omega.{arith}
use Rattle.program.proofs.Laws.Checking.{build_count}
use Rattle.capi.proofs.Laws.Storing.{stored_beside}
use Rattle.capi.proofs.fibexp_build.Goals as goal

pub store_u32-requires : goal.store_u32-requires
store_u32-requires c = λ x e. omega (arith, (build_count _ _ _ _ _ _ (sym c.build.ensures.result_value ∙ e)).2)

pub returns : goal.returns
returns c = let both = stored_beside _ (c.build.ensures.result_value, c.build.ensures.buffer_after) (c.store_u32.ensures.value, c.store_u32.ensures.place_after) in record { value = both.0; words_after = both.1.0; count_after = both.1.1 }
