-- `rules::means_at` meets its contract: past the tape the definition reads 0, which means nothing.
use Rattle.std.proofs.Common.{rules}
use Rattle.tape.specs.Words.{decoded}
use Rattle.layout.proofs.rules.means_at.Goals as goal

pub returns : goal.returns
unfolding decoded
returns c = search rules
