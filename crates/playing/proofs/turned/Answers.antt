-- `turned` meets its contract: a turn's word is 0, or one more than the position that it sets.
use mathlib.Core.Path.{◌≡◌, sym, ap}
use Prim.Native.Nat.{ℕ, suc, ◌-◌}
use native.Mathlib.Omega.{arith}
use Rattle.sequencer.specs.Records.{record_of}
use Rattle.sequencer.specs.Lists.{turned, turn_of}
use Rattle.playing.proofs.turned.Goals as goal

pub returns-then-turn-eq0 : goal.returns-then-turn-eq0
returns-then-turn-eq0 c = sym (ap (λ (t : ℕ). turned (turn_of t) (record_of c.args.state)) c.if-turn-eq0.true)

pub returns : goal.returns
returns c =
    let start = c.args in
    let word : start.turn ≡ suc (start.turn - 1) = omega (arith, c.if-turn-eq0.false) in
    sym (ap (λ (t : ℕ). turned (turn_of t) (record_of start.state)) word)
