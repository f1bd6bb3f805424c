-- `bit_string` meets its contract: the loop sets the bits of the places of n, lowest first (Laws/BitStrings).
use Rattle.std.proofs.Common.{◌-◌, length}
use Rattle.fibonacci.specs.Services.{places_of}
use Rattle.fibonacci.proofs.Laws.BitStrings.{Setting}
use Rattle.zeckendorf.proofs.bit_string.Given as goal

abbrev pub invariant-loop-place : goal.invariant-loop-place
invariant-loop-place l = Setting l.n l.bits l.length (length (places_of l.n) - length l.yielded)
