-- A place of the code with its weight and the weight below.
use Rattle.std.specs.Prelude.{◌≡◌, suc}
use Rattle.fibonacci.specs.declared.Weight.{Weight}
use Rattle.fibonacci.specs.Fibonacci.{fib}

-- place i weighs F_(i+1), the one below it F_i
pub record IsWeight (w : Weight) : Type 0 where
  pub weight_is : w.weight ≡ fib (suc w.place)
  pub below_is : w.below ≡ fib w.place
