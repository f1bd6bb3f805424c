-- `apply_with` meets its contract: the registers that it reads and those that it sets are those of the definition, of the values beside
-- the inverses as of the inverses beside the values.
use Rattle.std.specs.Prelude.{◌≡◌, ◌≢◌, Bool, cond, ℕ, List, set}
use mathlib.Core.Path.{sym, ◌∙◌, ap}
use denote.Enum.Bare.{sameb}
use Rattle.tape.specs.contracts.Opcode.{the_type}
use Rattle.tape.specs.declared.Opcode.{Opcode}
use Rattle.tape.specs.declared.Opcode.TheVariants.{Div as ByDiv, Swp as BySwp}
use Rattle.tape.specs.Inner.Operations.{step_by}
use Rattle.tape.proofs.Laws.Opcodes.{same_opcode, other_opcode}
use Rattle.machine.specs.Machine.{reg}
use Rattle.machine.specs.Inner.Carried.{apply_with}
use Rattle.machine.proofs.Laws.Carried.{factor_by, exchange_by}
use Rattle.register_steps.proofs.apply_with.Goals as goal
use Rattle.register_steps.proofs.apply_with.Goals.{then-divides, else-divides}

pub returns-then-eq : goal.returns-then-eq
returns-then-eq c =
    let swp : c.args.op.opcode ≡ BySwp = same_opcode _ _ (sym c.if-eq.ensures) in record {
      values_after = c.exchange.ensures ∙ sym (exchange_by _ _ _ _ _ _ swp);
      inverses_after = c.exchange-then-eq.ensures ∙ sym (exchange_by _ _ _ _ _ _ swp);
    }

multiplied : (product : ℕ → ℕ → ℕ) (o : Opcode) (divides : Bool) (t s : ℕ) (v w after : List ℕ) (x y z : ℕ) → o ≢ BySwp
    → divides ≡ sameb the_type o ByDiv → x ≡ reg v s → y ≡ reg w s → z ≡ cond divides y x
    → after ≡ set v t (product (reg v t) z) → after ≡ apply_with product (step_by o t s) v w
multiplied product o divides t s v w after x y z apart told ex ey ez done =
    let factor : z ≡ cond divides (reg w s) (reg v s) = cc (ez, ex, ey) in
    done
    ∙ ap (λ (k : ℕ). set v t (product (reg v t) k)) factor
    ∙ sym (factor_by product t s v w o apart divides (λ e. same_opcode o ByDiv (sym told ∙ e)) (λ e. other_opcode o ByDiv (sym told ∙ e)))

pub returns : goal.returns
returns c =
    let apart = other_opcode _ _ (sym c.if-eq.ensures) in
    let x = c.register-x.ensures in
    let y = c.register-y.ensures in
    let told = c.eq-divides.ensures in
    elim c.if-divides.branch [
      | then-divides w ↦ record {
        values_after = multiplied _ _ _ _ _ _ _ _ _ _ _ apart told x y (rw w.if-divides.true (ap (λ p. p.0) w.factor-is)) c.multiply_register.ensures;
        inverses_after = multiplied _ _ _ _ _ _ _ _ _ _ _ apart told y x (rw w.if-divides.true (ap (λ p. p.1) w.factor-is)) c.multiply_register-2.ensures;
      }
      | else-divides w ↦ record {
        values_after = multiplied _ _ _ _ _ _ _ _ _ _ _ apart told x y (rw w.if-divides.false (ap (λ p. p.0) w.factor-is)) c.multiply_register.ensures;
        inverses_after = multiplied _ _ _ _ _ _ _ _ _ _ _ apart told y x (rw w.if-divides.false (ap (λ p. p.1) w.factor-is)) c.multiply_register-2.ensures;
      }
    ]
