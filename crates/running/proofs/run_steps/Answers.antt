-- `run_steps` meets its contract: the registers set out in the form beside their inverses, and what arrives leaves the form as the steps
-- between the positions have it.
use mathlib.Core.Path.{◌≡◌, ◌∙◌, ap}
use mathlib.Core.Bool.{Bool}
use mathlib.Core.List.{List}
use Prim.Native.Nat.{ℕ}
use native.Mathlib.Omega.{arith}
use lib.Dec.{ltb}
use Rattle.tape.specs.Layout.{steps_in}
use Rattle.tape.specs.Inner.Operations.{raw_steps}
use Rattle.machine.specs.Machine.{values_of}
use Rattle.machine.specs.Inner.Carried.{directed_steps}
use Rattle.register_forms.proofs.Laws.Forms.{run_in_forms}
use Rattle.sequencer.specs.Inner.Runs.{between}
use Rattle.sequencer.proofs.Laws.Positions.{run_between, between_raw, directed_sound}
use Rattle.running.proofs.run_steps.Goals as goal

pub returns : goal.returns
returns c =
    let given = c.args in
    let words : List ℕ = given.words.now in
    let v : List ℕ = values_of given.registers in
    let undone : Bool = ltb given.to given.from in
    let steps : raw_steps c.between.result.now ≡ steps_in (between words given.from given.to) =
    ap raw_steps c.between.ensures ∙ between_raw words c.requires.inside.are_steps given.from given.to c.requires.inside.from_inside c.requires.inside.goal_inside in
    c.registers_of.ensures
    ∙ run_in_forms _ _ c.requires.prime c.requires.odd (omega arith) c.new-m.ensures _ _ v _ _ _
    (directed_sound undone (between words given.from given.to)) c.requires.residues c.forms_of-values.ensures c.inverses-register_inverses.ensures
    (ap (directed_steps undone) steps) c.do_steps.ensures.values_after
    ∙ run_between words given.p v given.from given.to c.requires.inside.from_inside c.requires.inside.goal_inside
