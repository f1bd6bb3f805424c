-- `build_line` meets its contract: the words that build counts are those of the named program.
use Prim.Native.Nat.{ℕ}
use native.Mathlib.Omega.{arith}
use lib.ListN.{replicate, length-replicate}
use Rattle.tape.specs.Layout.{max_words}
use Rattle.tool.specs.Verbs.{largest32}
use Rattle.tool.specs.Inner.Held.{held_to}
use Rattle.scripting.proofs.Laws.Rooms.{built_count, did_built_line}
use Rattle.build_lines.proofs.build_line.Goals as goal

pub built-requires : goal.built-requires
built-requires c =
    record {
      inside = c.requires;
      short = omega (arith, c.build-answer.auto.buffer);
      counted = omega (arith, built_count _ _ _ _ (replicate {A = ℕ} max_words 0) c.build-answer.result c.build-answer.ensures.result_value, c.build-answer.auto.buffer);
    }

pub returns : goal.returns
returns c = did_built_line _ _ _ _ (replicate {A = ℕ} max_words 0) _ c.args.own (held_to largest32 c.args.values.now) _ c.build-answer.result (length-replicate {A = ℕ} max_words 0) c.small-p.ensures c.small-r.ensures c.small-k.ensures c.small.ensures c.build-answer.ensures.result_value (rw c.build-answer.ensures.buffer_after at c.built.ensures)
