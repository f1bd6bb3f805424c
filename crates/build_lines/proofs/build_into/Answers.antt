-- `build_into` meets its contract: the words that build counts are those of the named program.
use native.Mathlib.Omega.{arith}
use Rattle.tool.specs.Verbs.{largest32}
use Rattle.tool.specs.Inner.Held.{held_to}
use Rattle.scripting.proofs.Laws.Rooms.{built_count, did_built_into}
use Rattle.build_lines.proofs.build_into.Goals as goal

pub show-requires : goal.show-requires
show-requires c =
    record {
      inside = c.requires.inside;
      short = omega (arith, c.build-answer.auto.buffer, c.requires.short);
      counted = omega (arith, built_count _ _ _ _ c.args.row.now c.build-answer.result c.build-answer.ensures.result_value, c.build-answer.auto.buffer);
    }

pub returns : goal.returns
returns c = did_built_into _ _ _ _ c.args.row.now _ c.args.own (held_to largest32 c.args.values.now) _ c.build-answer.result c.small-p.ensures c.small-r.ensures c.small-k.ensures c.small.ensures c.build-answer.ensures.result_value (rw c.build-answer.ensures.buffer_after at c.show.ensures)
