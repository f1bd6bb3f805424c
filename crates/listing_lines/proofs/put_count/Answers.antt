-- `put_count` meets its contract: up to three digits are put one after another.
use Rattle.std.proofs.Common.{◌≡◌, ◌/◌, arith}
use Rattle.text.proofs.Laws.Decimal.{one_digit, two_digits, three_digits}
use Rattle.putting.proofs.Laws.Buffers.{puts_both}
use Rattle.listing_lines.proofs.put_count.Goals as goal

pub returns-then-n-lt10 : goal.returns-then-n-lt10
returns-then-n-lt10 c = rw (one_digit _ c.if-n-lt10.true) c.put_digit.ensures

pub returns-then-n-lt100 : goal.returns-then-n-lt100
returns-then-n-lt100 c =
    rw (two_digits _ c.if-n-lt10.false c.if-n-lt100.true) (puts_both c.put_digit-then-n-lt100.ensures c.put_digit-then-n-lt100-2.ensures)

pub returns-then-n-lt1000 : goal.returns-then-n-lt1000
returns-then-n-lt1000 c =
    let e : c.args.n / 100 ≡ c.args.n / 10 / 10 = omega arith in
    rw (three_digits _ c.if-n-lt100.false c.if-n-lt1000.true)
    (puts_both (puts_both (rw e at c.put_digit-then-n-lt1000.ensures) c.put_digit-then-n-lt1000-2.ensures) c.put_digit-then-n-lt1000-3.ensures)
