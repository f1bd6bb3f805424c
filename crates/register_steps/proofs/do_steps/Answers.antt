-- `do_steps` meets its contract: the steps that come after those done lead where all lead, and each turn does the first of them.
use native.Mathlib.Omega.{arith}
use Rattle.register_steps.proofs.Laws.Going.{going_start, going_next, going_end, after_none, after_next, after_all_lem}
use Rattle.register_steps.proofs.do_steps.Goals as goal

pub loop-i-init : goal.loop-i-init
loop-i-init c = let given = c.args in (omega arith, going_start _ _ _ _ _ (after_none given.words.now given.undone))

pub loop-i-preserved : goal.loop-i-preserved
loop-i-preserved c =
    let given = c.args in (
      omega arith,
      going_next _ _ _ _ _ _ _ _ _ _ _ (rw c.directed.ensures (after_next given.words.now given.undone c.loop-i.i (omega arith))) c.apply_with.ensures.values_after c.apply_with.ensures.inverses_after c.loop-i.invariant.1,
    )

pub shape_of-values : goal.shape_of-values
shape_of-values c = c.loop-i.invariant.1.values_long

pub shape_of-inverses : goal.shape_of-inverses
shape_of-inverses c = c.loop-i.invariant.1.inverses_long

pub returns : goal.returns
returns c =
    let given = c.args in
    let went = going_end _ _ _ _ _ _ _ (after_all_lem given.words.now given.undone c.loop-i.i (omega arith)) c.loop-i.invariant.1 in record {
      values_after = went.0;
      inverses_after = went.1;
    }
