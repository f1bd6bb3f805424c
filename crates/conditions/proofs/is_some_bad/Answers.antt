-- `is_some_bad` meets its contract: the four registers, one after another.
use Rattle.std.proofs.Common.{◌≡◌, ℕ, sym, refl, ap, ◌∙◌, Bool, true, false, ◌||◌}
use mathlib.Core.Bool.{or-false}
use Rattle.machine.specs.declared.Registers.{Registers}
use Rattle.machine.specs.Machine.{values_of}
use Rattle.sequencer.specs.Services.{bad_register, bad_registers}
use Rattle.conditions.proofs.is_some_bad.Goals as goal
use Rattle.conditions.proofs.is_some_bad.Goals.{Joined-is_bad_register-2, then-is_bad_register, else-is_bad_register, then-is_bad_register-2, else-is_bad_register-2}

-- a test that is met, and one that leaves it to the next
met : {a test value : Bool} (b : Bool) → value ≡ test → test ≡ true → test ≡ a → value ≡ a || b
met b e t is = e ∙ t ∙ sym (ap (λ x. x || b) (sym is ∙ t))

not_met : {a b test value : Bool} → value ≡ b → test ≡ false → test ≡ a → value ≡ a || b
not_met {b = b} e f is = e ∙ sym (ap (λ x. x || b) (sym is ∙ f))

any_of_four : (a b c d : Bool) → ((a || b) || c) || d ≡ a || (b || (c || (d || false)))
any_of_four true b c d = refl
any_of_four false true c d = refl
any_of_four false false true d = refl
any_of_four false false false d = sym (or-false d)

all_four : (p : ℕ) (r : Registers)
    → ((bad_register p r.c || bad_register p r.d) || bad_register p r.e) || bad_register p r.f ≡ bad_registers p (values_of r)
unfolding bad_registers
all_four p r = any_of_four (bad_register p r.c) (bad_register p r.d) (bad_register p r.e) (bad_register p r.f)

module _ (c : Joined-is_bad_register-2) where
  abbrev bad : ℕ → Bool
  bad x = bad_register c.args.p x

  two : c.if-is_bad_register.value ≡ bad c.args.registers.c || bad c.args.registers.d
  two =
      elim c.if-is_bad_register.branch [
        | then-is_bad_register w ↦ met _ w.value-is w.if-is_bad_register.true c.is_bad_register.ensures
        | else-is_bad_register w ↦ not_met (w.value-is ∙ w.is_bad_register-else-is_bad_register.ensures) w.if-is_bad_register.false c.is_bad_register.ensures
      ]

  three : c.if-is_bad_register-2.value ≡ (bad c.args.registers.c || bad c.args.registers.d) || bad c.args.registers.e
  three =
      elim c.if-is_bad_register-2.branch [
        | then-is_bad_register-2 w ↦ met _ w.value-is w.if-is_bad_register-2.true two
        | else-is_bad_register-2 w ↦ not_met (w.value-is ∙ w.is_bad_register-else-is_bad_register-2.ensures) w.if-is_bad_register-2.false two
      ]

pub returns-then-is_bad_register-3 : goal.returns-then-is_bad_register-3
returns-then-is_bad_register-3 c =
    met _ refl c.if-is_bad_register-3.true (three (goal.at.returns-then-is_bad_register-3 c).Joined-is_bad_register-2) ∙ all_four c.args.p c.args.registers

pub returns-else-is_bad_register-3 : goal.returns-else-is_bad_register-3
returns-else-is_bad_register-3 c =
    not_met c.is_bad_register-else-is_bad_register-3.ensures c.if-is_bad_register-3.false (three (goal.at.returns-else-is_bad_register-3 c).Joined-is_bad_register-2)
    ∙ all_four c.args.p c.args.registers
