-- The words of a program's parts, from rows of bits as the code holds forms: a place is set where its bit is 1.
use Rattle.std.specs.Prelude.{Bool, cond, List, [], ◌∷◌, ◌++◌, map, ℕ, eqb}
use Rattle.tape.specs.declared.Step.TheVariants.{Swp}
use Rattle.tape.specs.Words.{step_word}
use Rattle.machine.specs.Machine.{inverted}
use Rattle.named.specs.declared.Figure.{Figure}
use Rattle.named.specs.declared.Figure.TheVariants.{Two, Four, Six}
use Rattle.named.specs.Generators.{ascend, descend}
use Rattle.program.specs.declared.FormRows.{FormRows}
use Rattle.program.specs.Inner.Forms.{bits_in}

abbrev pub is_set : ℕ → Bool
is_set bit = eqb bit 1

abbrev pub form_in : List ℕ → List Bool
form_in bits = map is_set bits

-- a word for a place that is set
abbrev pub chosen : ℕ → ℕ → List ℕ
chosen bit word = cond (is_set bit) (word ∷ []) []

-- the words of the loops
abbrev pub ascend_words : List ℕ → List ℕ → List ℕ
ascend_words firsts seconds = map step_word (ascend (form_in firsts) (form_in seconds))

abbrev pub ascend_back_words : List ℕ → List ℕ → List ℕ
ascend_back_words firsts seconds = map step_word (inverted (ascend (form_in firsts) (form_in seconds)))

abbrev pub descend_words : List ℕ → List ℕ
descend_words bits = map step_word (descend (form_in bits))

-- and of one place
abbrev pub up_words : ℕ → ℕ → List ℕ
up_words first second = ascend_words (first ∷ []) (second ∷ [])

abbrev pub back_words : ℕ → ℕ → List ℕ
back_words first second = ascend_back_words (first ∷ []) (second ∷ [])

abbrev pub down_words : ℕ → List ℕ
down_words bit = descend_words (bit ∷ [])

-- what a figure writes before its last loop, from the rows of its forms; where it selects nothing beside, those rows have no place
-- set and stand for the chains
abbrev pub front_words : Figure → List ℕ → List ℕ → List ℕ → List ℕ
front_words Two first none none_last = ascend_words first none ++ (ascend_back_words none none ++ (step_word (Swp 1 2) ∷ ascend_words none_last none_last))
front_words Four first beside beside_last = ascend_words first beside ++ (step_word (Swp 0 2) ∷ step_word (Swp 1 3) ∷ [])
front_words Six first none none_last = step_word (Swp 0 1) ∷ (descend_words first ++ (step_word (Swp 0 1) ∷ step_word (Swp 1 2) ∷ []))

-- and in all (`rows_words` of proofs/Laws/Forms)
abbrev pub drawn_words : FormRows → List ℕ
drawn_words rows =
    front_words rows.figure (bits_in rows.first) (bits_in rows.beside) (bits_in rows.beside_last)
    ++ ascend_back_words (bits_in rows.last) (bits_in rows.beside_last)
