-- `put_number` meets its contract: the digits behind `first` are the number's last ones, and those of `rest` stand in front of them.
use mathlib.Core.Path.{◌≡◌}
use mathlib.Core.List.{List, ◌++◌}
use Prim.Native.Nat.{ℕ, suc, ◌^◌, ◌<◌}
use lib.ListN.{length, drop}
use Rattle.text.specs.Text.{decimal}
use Rattle.putting.proofs.Buffer.put_number.Given as goal

pub record Spelt (n : ℕ) (digits : List ℕ) (first rest : ℕ) : Type 0 where
  pub long : length digits ≡ 20
  pub inside : first < 20
  pub small : rest < 10 ^ suc first
  pub spells : decimal n ≡ decimal rest ++ drop (suc first) digits

abbrev pub invariant-loop-rest : goal.invariant-loop-rest
invariant-loop-rest l = Spelt l.n l.digits l.first l.rest

abbrev pub decreases-loop-rest : goal.decreases-loop-rest
decreases-loop-rest l = l.first
