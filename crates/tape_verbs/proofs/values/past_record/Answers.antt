-- `values::past_record` meets its contract: the part from the sixth on, which is none where there are fewer than five.
use mathlib.Core.Path.{sym}
use native.Mathlib.Omega.{arith}
use Prim.Native.Nat.{◌-◌}
use lib.ListN.{length, drop, drop_of_length-le, length-drop}
use lib.Seq.{take_all}
use Rattle.tape_verbs.proofs.values.past_record.Goals as goal

pub returns-then-values-lt-RECORD_NUMBERS : goal.returns-then-values-lt-RECORD_NUMBERS
returns-then-values-lt-RECORD_NUMBERS c = sym (drop_of_length-le c.args.values.now {i = 5} (omega arith))

pub returns : goal.returns
returns c = let v = c.args.values.now in take_all (length v - 5) (drop 5 v) (omega (arith, length-drop 5 v))
