-- `one` meets its contract: a line of two words, the number of at most 10 digits.
use Rattle.std.proofs.Common.{refl, arith, rules}
use Rattle.putting.proofs.Laws.Buffers.{put_fresh}
use Rattle.tool.proofs.Laws.Parts.{one_put, one_short}
use Rattle.meanings.proofs.one.Goals as goal

pub returns : goal.returns
returns c =
    let name = c.args.name.now in
    let n = c.args.n in
    let line = put_fresh c.new-line.ensures (one_put name n c.put_then.ensures.put c.put_number_then.ensures.put) in
    record { status = refl; text = search rules; short = one_short name n c.requires (omega (arith, c.ranges.n)) }
