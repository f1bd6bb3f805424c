-- `steps::step_in` meets its contract: a step's word has its registers in its payload, and its kind says which step.
use Rattle.std.proofs.Common.{◌≡◌, ℕ, true, sym}
use native.Mathlib.Omega.{arith}
use lib.Dec.{eqb}
use borrow.Author.Tests.{eqb-true}
use Rattle.tape.specs.Words.{decoded}
use Rattle.tape.specs.Layout.{sort_of}
use Rattle.tape.proofs.Laws.Shapes.{Shape, step_shape, kind_7, means_5, means_6, means_7}
use Rattle.decoding.proofs.steps.step_in.Goals as goal

shaped : (word : ℕ) → true ≡ eqb (sort_of (decoded word)) 5 → Shape word
shaped word passed = step_shape word (eqb-true _ 5 (sym passed))

pub returns-in-5 : goal.returns-in-5
returns-in-5 c = means_5 _ (shaped _ c.if-not-is_step.ensures) c.in-5.is

pub returns-in-6 : goal.returns-in-6
returns-in-6 c = means_6 _ (shaped _ c.if-not-is_step.ensures) c.in-6.is

pub returns-in_default : goal.returns-in_default
returns-in_default c =
    let shape = shaped _ c.if-not-is_step.ensures in
    means_7 _ shape (kind_7 _ shape.first (λ e. omega arith) (λ e. omega arith))
