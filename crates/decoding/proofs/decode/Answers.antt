-- `decode` meets its contract: in the arm of a kind the tests of `decoded` come out as that kind; a word of a step's kind is a step or
-- means nothing, and past them no kind is left that has a meaning.
use Rattle.std.proofs.Common.{◌≡◌, ℕ, ◌<◌, sym, ◌∙◌}
use native.Mathlib.Omega.{arith}
use Rattle.tape.specs.declared.Decoded.TheVariants.{Bad}
use Rattle.tape.specs.Words.{kind_of, decoded}
use Rattle.tape.proofs.Laws.Payloads.{decoded_nothing}
use Rattle.tape.proofs.Laws.Shapes.{no_step}
use Rattle.decoding.proofs.decode.Goals as goal

pub returns-in-1 : goal.returns-in-1
unfolding decoded
returns-in-1 c = c.heading_in.ensures ∙ rw c.in-1.is

pub returns-in-2 : goal.returns-in-2
unfolding decoded
returns-in-2 c = rw c.in-2.is

pub returns-in-3 : goal.returns-in-3
unfolding decoded
returns-in-3 c = rw c.in-3.is

pub returns-in-4 : goal.returns-in-4
unfolding decoded
returns-in-4 c = rw c.in-4.is

pub returns-in-None : goal.returns-in-None
returns-in-None c = sym (no_step _ (omega arith) (omega arith) c.in-None.ensures)

pub returns-in-15 : goal.returns-in-15
unfolding decoded
returns-in-15 c = rw c.in-15.is

nothing : (word : ℕ) → (0 < kind_of word → 7 < kind_of word) → (kind_of word ≡ 15 → ⊥) → Bad ≡ decoded word
nothing word past not_15 =
    sym
    (decoded_nothing word
    (record {
      not_1 = λ e. omega (arith, past (omega arith));
      not_2 = λ e. omega (arith, past (omega arith));
      not_3 = λ e. omega (arith, past (omega arith));
      not_4 = λ e. omega (arith, past (omega arith));
      not_5 = λ e. omega (arith, past (omega arith));
      not_6 = λ e. omega (arith, past (omega arith));
      not_7 = λ e. omega (arith, past (omega arith));
      not_15 = not_15;
    }))

pub returns-in-0 : goal.returns-in-0
returns-in-0 c = nothing c.args.word (λ h. omega arith) (λ e. omega arith)

pub returns-in-0-2 : goal.returns-in-0-2
returns-in-0-2 c = nothing c.args.word (λ h. omega arith) (λ e. omega arith)

pub returns-in_default : goal.returns-in_default
returns-in_default c = nothing c.args.word (λ h. omega arith) (λ e. omega arith)
