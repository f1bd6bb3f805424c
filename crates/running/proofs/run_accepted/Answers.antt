-- `run_accepted` meets its contract: each return is a line of run's own rules.
use mathlib.Core.Path.{sym, ap, ◌∙◌}
use mathlib.Core.List.{List}
use Prim.Native.Nat.{ℕ}
use native.Mathlib.Omega.{arith}
use borrow.Author.Tests.{lt-ltb, le-ltb}
use lib.ListN.{length}
use Rattle.tape.specs.Layout.{steps_in, all_steps}
use Rattle.machine.specs.Machine.{values_of, run}
use Rattle.refusal.specs.Outcomes.{answered, gives, passes, answers}
use Rattle.sequencer.specs.Services.{record_rules, goal_rules}
use Rattle.sequencer.proofs.Laws.Cases.{modulus_prime, modulus_odd, words_steps, words_are, run_rules_lem}
use Rattle.sequencer.proofs.Laws.Answers.{residues_registers}
use Rattle.running.proofs.run_accepted.Goals as goal

pub returns-then-is_some_bad : goal.returns-then-is_some_bad
unfolding record_rules goal_rules
returns-then-is_some_bad c = sym (run_rules_lem _ _ c.args.accepted.is_accepted _ _ ∙ gives _ _ _ (sym c.is_some_bad.ensures ∙ c.if-is_some_bad.true))

pub returns-then-header-from : goal.returns-then-header-from
unfolding record_rules goal_rules
returns-then-header-from c =
    sym
    (run_rules_lem _ _ c.args.accepted.is_accepted _ _
    ∙ passes _ _ _ (sym c.is_some_bad.ensures ∙ c.if-is_some_bad.false)
    ∙ gives _ _ _ (lt-ltb _ _ c.if-header-from.true))

pub returns-then-header-to : goal.returns-then-header-to
unfolding record_rules goal_rules
returns-then-header-to c =
    sym
    (run_rules_lem _ _ c.args.accepted.is_accepted _ _
    ∙ passes _ _ _ (sym c.is_some_bad.ensures ∙ c.if-is_some_bad.false)
    ∙ passes _ _ _ (le-ltb _ _ c.if-header-from.false)
    ∙ gives _ _ _ (lt-ltb _ _ c.if-header-to.true))

pub run_steps-reached-requires : goal.run_steps-reached-requires
run_steps-reached-requires c =
    let accept = c.args.accepted.is_accepted in
    let long = ap length c.steps.ensures ∙ words_are _ _ accept in
    record {
      inside = record { are_steps = ap all_steps c.steps.ensures ∙ words_steps _ _ accept; from_inside = omega arith; goal_inside = omega arith };
      prime = modulus_prime _ _ accept;
      odd = modulus_odd _ _ accept;
      residues = residues_registers _ _ _ _ _ (sym c.is_some_bad.ensures ∙ c.if-is_some_bad.false);
    }

pub returns : goal.returns
unfolding record_rules goal_rules
returns c =
    let given = c.args in
    sym
    (run_rules_lem _ _ c.args.accepted.is_accepted _ _
    ∙ passes _ _ _ (sym c.is_some_bad.ensures ∙ c.if-is_some_bad.false)
    ∙ passes _ _ _ (le-ltb _ _ c.if-header-from.false)
    ∙ passes _ _ _ (le-ltb _ _ c.if-header-to.false)
    ∙ answers _
    ∙ ap (λ (v : List ℕ). answered (record { registers = v; position = given.to }))
    (sym (c.run_steps-reached.ensures ∙ ap (λ (l : List ℕ). run given.accepted.header.modulus (steps_in l) given.state.position given.to (values_of given.state.registers)) c.steps.ensures)))
