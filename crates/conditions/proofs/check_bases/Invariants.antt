-- `check_bases` meets its contract: where the bases so far pass, the rules of those that are left decide.
use Rattle.std.proofs.Common.{◌≡◌, ℕ, drop}
use Rattle.refusal.specs.Outcomes.{outcome}
use Rattle.sequencer.specs.Bases.{row_rules}
use Rattle.conditions.proofs.check_bases.Given as goal

abbrev pub invariant-loop-base : goal.invariant-loop-base
invariant-loop-base l = outcome {A = ℕ} (row_rules l.rules (drop l.base-index l.fn.bases)) 0 ≡ outcome (row_rules l.rules l.fn.bases) 0
