-- REQUIREMENTS 8: build and check.
use Rattle.std.specs.Prelude.{Bool, not, ◌&&◌, List, [], ◌∷◌, ℕ, ltb, eqb, length}
use Rattle.refusal.specs.declared.Refusal.TheVariants.{Modulus, Order, Exponent, Variant, Room, Length, Word, Mismatch}
use Rattle.refusal.specs.Outcomes.{Outcome, Rule, outcome, ◌given_if◌, buffer_after}
use Rattle.modular.specs.Inverses.{bad_exponent}
use Rattle.tape.specs.declared.Header.{Header}
use Rattle.tape.specs.Layout.{header_of, steps_of, is_length, laid_out}
use Rattle.named.specs.Named.{last_variant, programs_for, named_words}
use Rattle.named.specs.Members.{is_one_of}
use Rattle.named.specs.Parameters.{bad_modulus, bad_order, bad_variant}

-- refusal 5 for the words of a result, into a row of `room` words
unfoldable pub room_outcome : List ℕ → ℕ → Outcome ℕ
room_outcome words room = outcome ((Room given_if ltb room (length words)) ∷ []) (length words)

-- build: the word count, into a row of `room` words
unfoldable pub build_outcome : ℕ → ℕ → ℕ → ℕ → ℕ → Outcome ℕ
build_outcome p r k variant room =
    outcome
    ((Modulus given_if bad_modulus p)
    ∷ (Order given_if bad_order p r)
    ∷ (Exponent given_if bad_exponent k r)
    ∷ (Variant given_if bad_variant variant)
    ∷ (Room given_if ltb room (length (named_words p r k variant)))
    ∷ [])
    (length (named_words p r k variant))

-- and the row at exit
unfoldable pub build_buffer : ℕ → ℕ → ℕ → ℕ → List ℕ → List ℕ
build_buffer p r k variant row = buffer_after (build_outcome p r k variant (length row)) (named_words p r k variant) row

-- the program is named: its variant isn't 0
abbrev pub is_named : Header → Bool
is_named h = not (eqb h.variant 0)

-- check's refusals; 2, 3 and 8 are for named programs only
unfoldable pub check_rules : List ℕ → List Rule
check_rules tape =
    let h = header_of tape in
    (Length given_if not (is_length tape))
    ∷ (Word given_if not (laid_out tape))
    ∷ (Variant given_if ltb last_variant h.variant)
    ∷ (Modulus given_if bad_modulus h.modulus)
    ∷ (Order given_if (is_named h && bad_order h.modulus h.order))
    ∷ (Exponent given_if (is_named h && bad_exponent h.exponent h.order))
    ∷ (Mismatch given_if (is_named h && not (is_one_of (steps_of tape) (programs_for h.variant h.order h.exponent))))
    ∷ []

-- check: 0 where the tape is accepted
abbrev pub check_outcome : List ℕ → Outcome ℕ
check_outcome tape = outcome (check_rules tape) 0

-- the header of an accepted tape, for the services that check their tape first
abbrev pub accept_outcome : List ℕ → Outcome Header
accept_outcome tape = outcome (check_rules tape) (header_of tape)
