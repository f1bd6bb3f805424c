-- `two` meets its contract: a line of three words, the numbers of at most 10 digits each.
use Rattle.std.proofs.Common.{refl, arith, rules}
use Rattle.putting.proofs.Laws.Buffers.{put_fresh}
use Rattle.tool.proofs.Laws.Parts.{two_put, two_short}
use Rattle.meanings.proofs.two.Goals as goal

pub returns : goal.returns
returns c =
    let name = c.args.name.now in
    let m = c.args.m in
    let n = c.args.n in
    let line = put_fresh c.new-line.ensures (two_put name m n c.put_then.ensures.put c.put_number_then.ensures.put c.put_number_then-2.ensures.put) in
    record {
      status = refl;
      text = search rules;
      short = two_short name m n c.requires (omega (arith, c.ranges.m)) (omega (arith, c.ranges.n));
    }
