-- What the functions under build and check are given and leave, for their contracts.
use Rattle.std.specs.Prelude.{◌≡◌, true, false, not, List, [], ◌∷◌, ℕ, ◌<◌, length, Result}
use Rattle.refusal.specs.declared.Refusal.{Refusal}
use Rattle.refusal.specs.declared.Refusal.TheVariants.{Length, Word}
use Rattle.refusal.specs.Outcomes.{Outcome, outcome, outcome_of, ◌given_if◌, buffer_after}
use Rattle.modular.specs.Inverses.{bad_exponent}
use Rattle.tape.specs.declared.Header.{Header}
use Rattle.tape.specs.Words.{number_limit}
use Rattle.tape.specs.Layout.{header_of, is_length, laid_out}
use Rattle.named.specs.Parameters.{bad_variant}
use Rattle.program.specs.Services.{room_outcome}

-- numbers that no test of build refuses
pub record Writable (p r k variant : ℕ) : Type 0 where
  pub modulus : p < number_limit
  pub order : r < number_limit
  pub exponent : bad_exponent k r ≡ false
  pub named : bad_variant variant ≡ false

-- the answer and the row at exit of a call whose result is these words
pub record Built (words row : List ℕ) (answer : Result ℕ Refusal) (after : List ℕ) : Type 0 where
  pub outcome_is : outcome_of answer ≡ room_outcome words (length row)
  pub row_is : after ≡ buffer_after (room_outcome words (length row)) words row

-- a tape that is refused, unless the layout refuses it first
abbrev pub refused_past : List ℕ → Refusal → Outcome Header
refused_past tape e =
    outcome ((Length given_if not (is_length tape)) ∷ (Word given_if not (laid_out tape)) ∷ (e given_if true) ∷ []) (header_of tape)
