-- `try_from` meets its contract: past the numbers of the table none is named.
use Rattle.std.proofs.Common.{refl, arith}
use Rattle.named.proofs.Laws.Parameters.{unnamed}
use Rattle.named.proofs.VariantTryFromU32.try_from.Goals as goal

pub returns-in_default : goal.returns-in_default
returns-in_default c = (unnamed c.args.number (omega arith) (omega arith) (omega arith), refl)
