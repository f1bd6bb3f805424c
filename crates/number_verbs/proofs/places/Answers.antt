-- `places` meets its contract: the list of n has at most 46 places.
use Rattle.std.proofs.Common.{refl, ◌∙◌, arith}
use Rattle.fibonacci.proofs.Laws.Zeckendorf.{zeckendorf_count_64}
use Rattle.tool.specs.Replies.{number_reply}
use Rattle.std.proofs.Common.{rules}
use Rattle.putting.proofs.Laws.Buffers.{puts_fresh}
use Rattle.number_verbs.proofs.places.Goals as goal

pub returns : goal.returns
unfolding number_reply
returns c =
    let listed = c.places.ensures ∙ c.zeckendorf-form.ensures in
    let line = puts_fresh c.new-line.ensures (rw listed at c.bytes_line.ensures.put) in
    record {
      status = refl;
      text = search rules;
      short = omega (arith, rw listed at c.bytes_line.ensures.short, zeckendorf_count_64 c.args.n c.ranges.n.fits);
    }
