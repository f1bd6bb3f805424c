-- `large` meets its contract: no parameter is above 64 bits.
use Rattle.std.proofs.Common.{◌≡◌, arith, rules, get_or}
use Rattle.tool.specs.Verbs.{largest64}
use Rattle.tool.proofs.Laws.Held.{held_at}
use Rattle.widths.proofs.large.Goals as goal

pub returns : goal.returns
returns c =
    let read : c.unwrap_or.result ≡ get_or c.args.values.now c.args.place 0 = search rules in
    omega (arith, held_at largest64 c.args.values.now c.args.place, c.type_inv.values c.args.place)
