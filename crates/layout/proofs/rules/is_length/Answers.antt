use Rattle.std.proofs.Common.{rules}
use Rattle.tape.specs.Layout.{is_length}
use Rattle.layout.proofs.rules.is_length.Goals as goal

pub returns : goal.returns
unfolding is_length
returns c = search rules
