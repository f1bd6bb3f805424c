-- `on_numbers` meets its contract: each arm prints what its verb means, on its parameters at its width, which are among the first `max_parameters`.
use mathlib.Core.Path.{◌≡◌}
use mathlib.Core.List.{List}
use Prim.Native.Nat.{ℕ}
use native.Mathlib.Omega.{arith}
use lib.ListN.{get_or, take}
use lib.Seq.{get_or-take}
use Rattle.tool.specs.Verbs.{max_parameters}
use Rattle.tool.specs.Replies.{number_reply}
use Rattle.number_verbs.proofs.on_numbers.Goals as goal

module _ (values : List ℕ) where
  first : get_or (take max_parameters values) 0 0 ≡ get_or values 0 0
  first = get_or-take max_parameters values 0 0 (omega arith)

  second : get_or (take max_parameters values) 1 0 ≡ get_or values 1 0
  second = get_or-take max_parameters values 1 0 (omega arith)

  third : get_or (take max_parameters values) 2 0 ≡ get_or values 2 0
  third = get_or-take max_parameters values 2 0 (omega arith)

pub returns-in-Decode : goal.returns-in-Decode
unfolding number_reply
returns-in-Decode c = rw (c.in-Decode.is, first, ← c.small.ensures, ← c.decode.ensures) c.meaning.ensures

pub returns-in-Fibonacci : goal.returns-in-Fibonacci
unfolding number_reply
returns-in-Fibonacci c = rw (c.in-Fibonacci.is, first, ← c.small-in-Fibonacci.ensures, ← c.fibonacci.ensures) c.print.ensures

pub returns-in-Places : goal.returns-in-Places
unfolding number_reply
returns-in-Places c = rw (c.in-Places.is, first, ← c.large.ensures) c.places.ensures

pub returns-in-NumberOf : goal.returns-in-NumberOf
unfolding number_reply
returns-in-NumberOf c = rw c.in-NumberOf.is c.number_of.ensures

pub returns-in-Hofstadter : goal.returns-in-Hofstadter
unfolding number_reply
returns-in-Hofstadter c = rw (c.in-Hofstadter.is, first, ← c.large-in-Hofstadter.ensures, ← c.hofstadter.ensures) c.show.ensures

pub returns-in-Inverse : goal.returns-in-Inverse
unfolding number_reply
returns-in-Inverse c = rw (c.in-Inverse.is, first, second, ← c.small-in-Inverse.ensures, ← c.small-in-Inverse-2.ensures, ← c.inverse.ensures) c.print-in-Inverse.ensures

pub returns-in-Height : goal.returns-in-Height
unfolding number_reply
returns-in-Height c = rw (c.in-Height.is, first, ← c.small-in-Height.ensures, ← c.height.ensures) c.show-in-Height.ensures

pub returns-in-Prime : goal.returns-in-Prime
unfolding number_reply
returns-in-Prime c = rw (c.in-Prime.is, first, ← c.small-in-Prime.ensures, ← c.is_prime.ensures, ← c.bit.ensures) c.show-in-Prime.ensures

pub returns-in-MulMod : goal.returns-in-MulMod
unfolding number_reply
returns-in-MulMod c = rw (c.in-MulMod.is, first, second, third, ← c.small-in-MulMod.ensures, ← c.small-in-MulMod-2.ensures, ← c.small-in-MulMod-3.ensures, ← c.product.ensures) c.show-in-MulMod.ensures

pub returns-in-PowMod : goal.returns-in-PowMod
unfolding number_reply
returns-in-PowMod c = rw (c.in-PowMod.is, first, second, third, ← c.small-in-PowMod.ensures, ← c.small-in-PowMod-2.ensures, ← c.small-in-PowMod-3.ensures, ← c.power.ensures) c.show-in-PowMod.ensures
