-- `fibexp_reply` meets its contract: what the reply says of itself is what is stored and answered.
use borrow.Author.Rules.{rules}
use Rattle.capi.proofs.fibexp_reply.Goals as goal

pub returns : goal.returns
returns c = search rules
