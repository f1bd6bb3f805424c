-- `Rules::check` meets its contract: each return is a line of a base's rules. A base that is below p says that p isn't 0.
use Rattle.std.proofs.Common.{◌≡◌, ℕ, sym, ap, ◌∙◌, Bool, arith}
use Rattle.tape.specs.declared.Header.{Header}
use Rattle.refusal.specs.Outcomes.{gives, passes, answers}
use Rattle.sequencer.specs.Services.{bad_register, base_rules}
use Rattle.sequencer.proofs.Laws.Answers.{good_register}
use Rattle.conditions.proofs.Rules.check.Goals as goal

-- the header that is read is that of the contract
register : {read now : Header} (x : ℕ) {b v : Bool} → read ≡ now → b ≡ bad_register read.modulus x → b ≡ v → bad_register now.modulus x ≡ v
register x e is v = ap (λ h. bad_register h.modulus x) (sym e) ∙ sym is ∙ v

pub returns-then-is_bad_register : goal.returns-then-is_bad_register
unfolding base_rules
returns-then-is_bad_register c = sym (gives _ _ _ (register _ c.self.view_is c.is_bad_register.ensures c.if-is_bad_register.true))

pub is_bad_base-requires : goal.is_bad_base-requires
is_bad_base-requires c = omega (arith, (good_register _ _ (register _ c.self.view_is c.is_bad_register.ensures c.if-is_bad_register.false)).high)

pub returns-then-is_bad_base : goal.returns-then-is_bad_base
unfolding base_rules
returns-then-is_bad_base c =
    sym
    (passes _ _ _ (register _ c.self.view_is c.is_bad_register.ensures c.if-is_bad_register.false)
    ∙ gives _ _ _ (sym c.is_bad_base.ensures ∙ c.if-is_bad_base.true))

pub returns : goal.returns
unfolding base_rules
returns c =
    sym
    (passes _ _ _ (register _ c.self.view_is c.is_bad_register.ensures c.if-is_bad_register.false)
    ∙ passes _ _ _ (sym c.is_bad_base.ensures ∙ c.if-is_bad_base.false)
    ∙ answers _)
