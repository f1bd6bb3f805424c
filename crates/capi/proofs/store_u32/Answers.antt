-- `store_u32` meets its contract: an answer fits, so it is stored as it is; a refusal stores nothing.
use Rattle.std.proofs.Common.{ap}
use Rattle.refusal.specs.Outcomes.{outcome_of}
use Rattle.capi.proofs.store_u32.Goals as goal

pub map-requires : goal.map-requires
map-requires c = λ x e. c.requires x (ap outcome_of e)
