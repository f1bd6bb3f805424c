-- `run_part` meets its contract: run on the part of the row.
use mathlib.Core.Path.{ap, ◌∙◌}
use mathlib.Core.List.{List}
use Prim.Native.Nat.{ℕ}
use Rattle.sequencer.specs.Records.{record_of}
use Rattle.sequencer.specs.Services.{run_outcome}
use Rattle.playing.proofs.run_part.Goals as goal

pub returns : goal.returns
returns c =
    let start = c.args in
    c.run.ensures ∙ ap (λ (tape : List ℕ). run_outcome tape (record_of start.given) start.goal) c.part.ensures
