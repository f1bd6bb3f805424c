-- `bytes_line` meets its contract: with so many numbers put, what follows them on the line is left; each has at most 3 digits.
use Rattle.std.proofs.Common.{arith}
use Rattle.lines.proofs.Laws.Numbers.{no_numbers, first_left, next_left, last_left, numbers_short}
use Rattle.lines.proofs.bytes_line.Goals as goal

pub returns-in_default : goal.returns-in_default
returns-in_default c = record {
  put = rw (no_numbers _ c.in_default.ensures.cases) c.put_byte.ensures;
  short = numbers_short 2 c.args.values.now (λ i. omega (arith, c.type_inv.values i));
}

pub loop-byte-init : goal.loop-byte-init
loop-byte-init c = first_left c.in-Some.ensures.cases.0 (rw c.from.ensures at c.put_number.ensures)

pub loop-byte-preserved : goal.loop-byte-preserved
loop-byte-preserved c = next_left _ c.loop-byte.byte-index c.loop-byte.invariant c.loop-byte-test.true c.put_byte-in-loop-byte.ensures (rw c.from-in-loop-byte.ensures at c.put_number-in-loop-byte.ensures)

pub returns : goal.returns
returns c = record {
  put = last_left _ c.loop-byte.byte-index c.loop-byte.invariant c.loop-byte-test.false c.put_byte-2.ensures;
  short = numbers_short 2 c.args.values.now (λ i. omega (arith, c.type_inv.values i));
}
