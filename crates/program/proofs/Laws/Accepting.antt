-- Every named program is accepted: its numbers fit their words, its steps are sound and the longest tape holds it, so its words are laid
-- out and give its p, r, k, variant and steps back, which are allowed. And the steps of an accepted named program are a program for
-- its r and k.
use mathlib.Core.Path.{◌≡◌, sym, ap, ◌∙◌}
use mathlib.Core.Bool.{false, not}
use mathlib.Core.List.{List}
use Prim.Native.Nat.{ℕ, ◌%◌}
use native.Mathlib.Omega.{arith}
use Rattle.refusal.specs.Outcomes.{answered, passes, answers}
use Rattle.modular.specs.Primes.{Prime}
use Rattle.modular.specs.Inverses.{bad_exponent}
use Rattle.modular.proofs.Laws.Primes.{prime_test, prime_odd}
use Rattle.tape.specs.declared.Step.{Step}
use Rattle.tape.specs.Layout.{header_of, steps_of, header_for}
use Rattle.tape.proofs.Laws.Reading.{ReadAs, length_good}
use Rattle.tape.proofs.Laws.Layout.{LawfulProgram, program_length, program_laid_out, program_header, program_steps}
use Rattle.named.specs.Named.{programs_for, named_program, named_words}
use Rattle.named.specs.Members.{is_one_of}
use Rattle.named.specs.Promises.{IsProgram}
use Rattle.named.specs.Parameters.{bad_modulus, bad_order, bad_variant}
use Rattle.named.proofs.Laws.Parameters.{good_modulus_lem}
use Rattle.named.proofs.Laws.Members.{member_one_of}
use Rattle.named.proofs.Laws.Table.{member_program, named_member}
use Rattle.program.specs.Services.{check_outcome}
use Rattle.program.specs.Inner.Building.{Writable}
use Rattle.program.proofs.Laws.Building.{named_lawful, named_short}
use Rattle.program.proofs.Laws.Answering.{writable}
use Rattle.program.proofs.Laws.Checking.{past_named, Accepted, AcceptedNamed}

module _ (p r k variant : ℕ)
    (modulus : bad_modulus p ≡ false) (order : bad_order p r ≡ false) (exponent : bad_exponent k r ≡ false) (is : bad_variant variant ≡ false) where
  w : Writable p r k variant
  w = writable p r k modulus order exponent variant is

  lawful : LawfulProgram (named_program p r k variant)
  lawful = named_lawful p r k variant w

  read : ReadAs (named_words p r k variant) (header_for (named_program p r k variant))
  read =
      record {
        long = length_good _ (omega (arith, program_length (named_program p r k variant))) (named_short p r k variant w);
        laid = program_laid_out _ lawful;
        header = sym (program_header _ lawful);
      }

  pub named_accepted : check_outcome (named_words p r k variant) ≡ answered 0
  named_accepted =
      past_named 0 (named_words p r k variant) (header_for (named_program p r k variant)) read is
      ∙ passes _ _ _ modulus ∙ passes _ _ _ order ∙ passes _ _ _ exponent
      ∙ passes _ _ _
      (ap not
      (ap (λ (xs : List Step). is_one_of xs (programs_for variant r k)) (program_steps _ lawful)
      ∙ member_one_of _ _ (named_member variant r k is)))
      ∙ answers 0

-- ---- an accepted tape's modulus, and an accepted named program's steps

pub accepted_prime : (tape : List ℕ) → Accepted tape → Prime (header_of tape).modulus
accepted_prime tape a = prime_test _ (good_modulus_lem _ a.modulus).prime

pub accepted_odd : (tape : List ℕ) → Accepted tape → (header_of tape).modulus % 2 ≡ 1
accepted_odd tape a = prime_odd _ (accepted_prime tape a) (good_modulus_lem _ a.modulus).low

pub accepted_program : (tape : List ℕ) → AcceptedNamed tape → IsProgram (header_of tape).order (header_of tape).exponent (steps_of tape)
accepted_program tape a =
    member_program (header_of tape).variant (header_of tape).order (header_of tape).exponent a.exponent (steps_of tape) a.member
