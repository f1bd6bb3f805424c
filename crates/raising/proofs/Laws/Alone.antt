-- A base's lane and its run alone: both do all steps of the tape on (1, a, 1, 1), the one in Montgomery's form and the other by its meaning.
-- So where all bases pass, the row that comes out of the lanes is that of the runs.
use mathlib.Core.Path.{◌≡◌, sym, ap, ◌∙◌}
use mathlib.Core.List.{List, map}
use Prim.Native.Nat.{ℕ, ◌≤◌}
use borrow.Author.Tests.{le-ltb}
use lib.ListN.{length}
use Rattle.refusal.specs.Outcomes.{answered, outcome}
use Rattle.tape.specs.declared.Header.{Header}
use Rattle.tape.specs.declared.Step.{Step}
use Rattle.tape.specs.Layout.{step_words_of, steps_of}
use Rattle.tape.specs.Inner.Operations.{raw_steps}
use Rattle.tape.proofs.Laws.Rows.{raw_steps_lem}
use Rattle.montgomery.specs.declared.Modulus.{Modulus}
use Rattle.montgomery.specs.Inner.Forms.{word, IsModulus}
use Rattle.machine.specs.Machine.{reg, do_all, start}
use Rattle.program.specs.Services.{accept_outcome}
use Rattle.program.proofs.Laws.Checking.{header_is}
use Rattle.lanes.specs.Inner.Lanes.{max_lanes, through, through_lanes}
use Rattle.lanes.proofs.Laws.Bases.{through_done}
use Rattle.sequencer.specs.Services.{start_record, load_outcome}
use Rattle.sequencer.specs.Bases.{row_rules, raised}
use Rattle.sequencer.proofs.Laws.Cases.{modulus_prime, modulus_odd, words_steps}
use Rattle.sequencer.proofs.Laws.Answers.{steps_sound, load_answered}
use Rattle.sequencer.proofs.Laws.Bases.{raised_done, row_map}

module _ (tape : List ℕ) (h : Header) (e : accept_outcome tape ≡ answered h) (m : Modulus) (fits : h.modulus ≤ word) (is : IsModulus h.modulus m) where
  lane_alone : (a : ℕ) → load_outcome tape a ≡ answered (start_record a) → through m (raw_steps (step_words_of tape)) a ≡ raised tape a
  lane_alone a load =
      ap (λ (xs : List Step). through m xs a) (raw_steps_lem (step_words_of tape) (words_steps tape h e))
      ∙ through_done h.modulus m (modulus_prime tape h e) (modulus_odd tape h e) fits is a (rw (header_is tape h e) (load_answered tape a _ load).base) (steps_of tape) (steps_sound tape)
      ∙ ap (λ (g : Header). reg (do_all g.modulus (steps_of tape) (start a)) 1) (header_is tape h e)
      ∙ sym (raised_done tape a load)

  pub row_alone : (bases : List ℕ) {x : ℕ} → length bases ≤ max_lanes → outcome (row_rules h bases) 0 ≡ answered x
      → through_lanes m (raw_steps (step_words_of tape)) bases ≡ map (raised tape) bases
  unfolding through_lanes
  row_alone bases few all =
      rw (le-ltb max_lanes (length bases) few) (row_map tape h e (through m (raw_steps (step_words_of tape))) (raised tape) lane_alone bases all)
