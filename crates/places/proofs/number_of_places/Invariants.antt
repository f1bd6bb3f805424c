-- `number_of_places` meets its contract: the loop tests the whole list, so 13 comes before 12, and sums it modulo 2^64 (Laws/Summing).
use Rattle.std.proofs.Common.{◌^◌, ◌<◌, ◌≤◌}
use Rattle.fibonacci.proofs.Laws.Summing.{Summing}
use Rattle.places.proofs.number_of_places.Given as goal

abbrev pub invariant-loop-place : goal.invariant-loop-place
invariant-loop-place l = Summing l.list l.above l.sum l.place-index × (l.above ≤ 94) × (l.sum < 2 ^ 64)
