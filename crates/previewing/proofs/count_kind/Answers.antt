-- `count_kind` meets its contract: what is counted so far and what is left come to the whole count.
use Rattle.std.proofs.Common.{◌<◌, length, true, false, sym, ap, ◌∙◌}
use native.Mathlib.Omega.{arith}
use Rattle.tape.specs.declared.Opcode.{Opcode}
use Rattle.tape.specs.Inner.Operations.{step_by, raw_steps}
use Rattle.tape.proofs.Laws.Opcodes.{same_opcode, other_opcode}
use Rattle.tape.proofs.Laws.Rows.{raw_count, raw_nth}
use Rattle.machine.specs.Inner.Kinds.{is_kind}
use Rattle.machine.proofs.Laws.Counts.{count_next, count_end, kind_same, kind_other}
use Rattle.previewing.proofs.count_kind.Goals as goal
use Rattle.previewing.proofs.count_kind.Goals.{then-eq, else-eq}

pub loop-i-init : goal.loop-i-init
loop-i-init c = (omega arith, omega arith, omega arith)

pub overflow_add-n : goal.overflow_add-n
overflow_add-n c = record { fits = omega arith }

pub loop-i-preserved : goal.loop-i-preserved
loop-i-preserved c =
    let words = c.args.words.now in
    let k = c.args.opcode in
    let i = c.loop-i.i in
    let op = c.operation_of.result in
    let here = ap (is_kind k) (raw_nth words i ∙ sym c.operation_of.ensures) in
    let inside : i < length (raw_steps words) = omega (arith, raw_count words) in
    elim c.if-eq.branch [
      | then-eq w ↦
          let same = ap (λ (o : Opcode). is_kind k (step_by o op.target op.source)) (same_opcode _ _ (sym c.eq.ensures ∙ w.if-eq.true)) ∙ kind_same k _ _ in
          let next = count_next (is_kind k) (raw_steps words) i _ inside true (here ∙ same) in
          (omega arith, omega (arith, w.n-is), omega (arith, w.n-is, next, c.loop-i.invariant.2))
      | else-eq w ↦
          let other = kind_other k _ op.target op.source (other_opcode _ _ (sym c.eq.ensures ∙ w.if-eq.false)) in
          let next = count_next (is_kind k) (raw_steps words) i _ inside false (here ∙ other) in
          (omega arith, omega (arith, w.n-is), omega (arith, w.n-is, next, c.loop-i.invariant.2))
    ]

pub returns : goal.returns
returns c =
    let words = c.args.words.now in
    let none = count_end (is_kind c.args.opcode) (raw_steps words) c.loop-i.i (omega (arith, raw_count words)) in
    omega (arith, none, c.loop-i.invariant.2)
