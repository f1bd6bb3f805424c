-- `judge` meets its contract: what the command printed stands whole in the space, and the verdict is on that.
use mathlib.Core.Path.{refl, sym}
use mathlib.Core.List.{List}
use Prim.Native.Nat.{ℕ, ◌+◌, ◌≤◌}
use native.Mathlib.Omega.{arith}
use lib.ListN.{length, drop, length-take, length-drop, length-replicate}
use lib.Seq.{length-take-le}
use Rattle.text.proofs.Laws.Puts.{put_inside}
use Rattle.scripting.specs.declared.Printed.{Printed}
use Rattle.scripting.specs.Script.{Done, max_line, max_printed}
use Rattle.scripting.specs.States.{Did}
use Rattle.scripting.proofs.Laws.Judging.{did_judged}
use Rattle.script.proofs.whole_line.judge.Goals as goal

-- what a command printed is in its row
inside : {done : Done} {before row after : List ℕ} {r : Printed} → Did done before r row after → r.length ≤ length after
inside did = put_inside did.printed (omega arith)

-- a part of a line is no longer than the line may be
short : (line : List ℕ) (n : ℕ) → length line ≤ max_line → length (drop n line) ≤ max_line
short line n h = omega (arith, length-drop n line)

pub slice_bounds-command-end : goal.slice_bounds-command-end
slice_bounds-command-end c = sym (length-take-le c.args.at c.args.line.now (omega (arith, c.requires.at_in_bounds)))

pub command-made-requires : goal.command-made-requires
command-made-requires c =
    record {
      inside = c.requires.inside;
      line_len_bound = omega (arith, length-take c.args.at c.args.line.now, c.requires.at_in_bounds);
    }

pub slice_bounds-space-end : goal.slice_bounds-space-end
slice_bounds-space-end c = inside c.command-made.ensures

pub slice_bounds-put_judged-end : goal.slice_bounds-put_judged-end
slice_bounds-put_judged-end c = sym (length-take-le c.command-made.result.length c.command-made.new.text (inside c.command-made.ensures))

pub returns : goal.returns
returns c =
    let past = c.args.at + 3 in
    did_judged _ (drop past c.args.line.now) c.command-made.ensures (length-replicate {A = ℕ} max_printed 0) (short c.args.line.now past c.requires.at_in_bounds.1) refl c.put_judged.ensures
