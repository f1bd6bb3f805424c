-- The layout of a tape of format 1: the heading, p, r and k, the steps, the end. Whatever reads a header field, a step or the
-- step count reads it through the definitions of this file.
use Rattle.std.specs.Prelude.{Bool, true, not, ◌&&◌, ◌||◌, cond, List, [], ◌∷◌, ◌++◌, map, ℕ, ◌+◌, ◌-◌, leb, ltb, eqb, length, get_or, set}
use Rattle.std.proofs.Math.Seq.{slice}
use Rattle.std.proofs.lemmas.List.Edits.{sets}
use Rattle.refusal.specs.declared.Refusal.TheVariants.{Length, Word}
use Rattle.refusal.specs.Refusals.{number_of}
use Rattle.refusal.specs.Outcomes.{Outcome, refused, answered, outcome, ◌given_if◌}
use Rattle.tape.specs.declared.Step.{Step}
use Rattle.tape.specs.declared.Step.TheVariants.{Mul}
use Rattle.tape.specs.declared.Decoded.{Decoded}
use Rattle.tape.specs.declared.Decoded.TheVariants.{Heading, P, R, K, Action, End, Bad}
use Rattle.tape.specs.declared.Header.{Header}
use Rattle.tape.specs.Words.{number_limit, variant_limit, decoded, encoded, step_word}

-- ---- where things stand

-- the words before the first step
abbrev pub header_words : ℕ
header_words = 4

-- the words that are no steps: the header and the end
abbrev pub other_words : ℕ
other_words = header_words + 1

-- the most words of a tape, and the most steps
abbrev pub max_words : ℕ
max_words = 512

abbrev pub max_steps : ℕ
max_steps = max_words - other_words

abbrev pub step_count : List ℕ → ℕ
step_count tape = length tape - other_words

-- the index of the word of the step numbered i + 1
abbrev pub step_index : List ℕ → ℕ → ℕ
step_index tape i = header_words + i

-- the words of the steps numbered first + 1 to last, and of all
abbrev pub step_words : List ℕ → ℕ → ℕ → List ℕ
step_words tape first last = slice (step_index tape first) (step_index tape last) tape

abbrev pub step_words_of : List ℕ → List ℕ
step_words_of tape = step_words tape 0 (step_count tape)

-- the part of a row from one index up to another; where they are the wrong way round or past the row, the empty part
unfoldable pub part : List ℕ → ℕ → ℕ → List ℕ
part row begin end = cond (leb begin end && leb end (length row)) (slice begin end row) []

abbrev pub end_at : List ℕ → ℕ
end_at tape = get_or tape (step_index tape (step_count tape)) 0

-- ---- what stands there

-- the kind of word that a meaning is of; 5 for every step, 0 for none
abbrev pub sort_of : Decoded → ℕ
sort_of (Heading variant) = 1
sort_of (P p) = 2
sort_of (R r) = 3
sort_of (K k) = 4
sort_of (Action step) = 5
sort_of (End count) = 15
sort_of Bad = 0

-- the number that it holds
abbrev pub value_of : Decoded → ℕ
value_of (Heading variant) = variant
value_of (P p) = p
value_of (R r) = r
value_of (K k) = k
value_of (Action step) = 0
value_of (End count) = count
value_of Bad = 0

-- the step that it is
abbrev pub step_of : Decoded → Step
step_of (Heading variant) = Mul 0 1
step_of (P p) = Mul 0 1
step_of (R r) = Mul 0 1
step_of (K k) = Mul 0 1
step_of (Action step) = step
step_of (End count) = Mul 0 1
step_of Bad = Mul 0 1

-- what the word at an index means
abbrev pub means_at : List ℕ → ℕ → Decoded
means_at tape i = decoded (get_or tape i 0)

-- what a tape gives: its variant, p, r, k and the count of its steps
abbrev pub header_of : List ℕ → Header
header_of tape = record {
  variant = value_of (means_at tape 0);
  modulus = value_of (means_at tape 1);
  order = value_of (means_at tape 2);
  exponent = value_of (means_at tape 3);
  steps = step_count tape;
}

-- the steps that words stand for, and a tape's
abbrev pub steps_in : List ℕ → List Step
steps_in words = map (λ (w : ℕ). step_of (decoded w)) words

abbrev pub steps_of : List ℕ → List Step
steps_of tape = steps_in (step_words_of tape)

-- ---- the rules

-- 5 to 512 words
unfoldable pub is_length : List ℕ → Bool
is_length tape = leb other_words (length tape) && leb (length tape) max_words

unfoldable pub is_header : List ℕ → Bool
is_header tape =
    eqb (sort_of (means_at tape 0)) 1
    && (eqb (sort_of (means_at tape 1)) 2
    && (eqb (sort_of (means_at tape 2)) 3
    && eqb (sort_of (means_at tape 3)) 4))

-- a free program has 0 for r and k
unfoldable pub is_free_or_named : Header → Bool
is_free_or_named h = not (eqb h.variant 0) || (eqb h.order 0 && eqb h.exponent 0)

unfoldable pub all_steps : List ℕ → Bool
all_steps [] = true
all_steps (w ∷ words) = eqb (sort_of (decoded w)) 5 && all_steps words

unfoldable pub is_end : ℕ → Decoded → Bool
is_end count d = eqb (sort_of d) 15 && eqb (value_of d) count

-- words of kind 1, 2, 3, 4 in that order, each once, then the steps, then the end with their count
unfoldable pub laid_out : List ℕ → Bool
laid_out tape =
    is_header tape
    && (is_free_or_named (header_of tape)
    && (all_steps (step_words_of tape)
    && is_end (step_count tape) (decoded (end_at tape))))

-- reading only what the header holds: 6
unfoldable pub header_outcome : List ℕ → Outcome Header
header_outcome tape = outcome ((Length given_if not (is_length tape)) ∷ []) (header_of tape)

-- reading a tape: 6, 7, else its header
unfoldable pub read_outcome : List ℕ → Outcome Header
read_outcome tape =
    outcome
    ((Length given_if not (is_length tape))
    ∷ (Word given_if not (laid_out tape))
    ∷ [])
    (header_of tape)

-- ---- the words of a program

-- the words before the steps
abbrev pub first_words : Header → List ℕ
first_words h = encoded (Heading h.variant) ∷ encoded (P h.modulus) ∷ encoded (R h.order) ∷ encoded (K h.exponent) ∷ []

pub record Program : Type 0 where
  pub variant : ℕ
  pub modulus : ℕ
  pub order : ℕ
  pub exponent : ℕ
  pub steps : List Step

abbrev pub header_for : Program → Header
header_for q = record { variant = q.variant; modulus = q.modulus; order = q.order; exponent = q.exponent; steps = length q.steps }

-- the header, a word for each step, the end
unfoldable pub program_words : Program → List ℕ
program_words q = first_words (header_for q) ++ (map step_word q.steps ++ encoded (End (length q.steps)) ∷ [])

abbrev pub program_of : List ℕ → Program
program_of tape =
    let h = header_of tape in
    record { variant = h.variant; modulus = h.modulus; order = h.order; exponent = h.exponent; steps = steps_of tape }

-- ---- laying a tape out in a row

-- how many words the tape of a header has
abbrev pub word_count : Header → ℕ
word_count h = h.steps + other_words

-- each number fits its word
unfoldable pub numbers_fit : Header → Bool
numbers_fit h =
    ltb h.variant variant_limit
    && (ltb h.modulus number_limit
    && (ltb h.order number_limit
    && (ltb h.exponent number_limit
    && ltb h.steps number_limit)))

-- and a row of `room` words has a place for the tape
unfoldable pub has_place : Header → ℕ → Bool
has_place h room = leb (word_count h) room && numbers_fit h

-- the index of the first step's word, or 0 where there is no place
abbrev pub lay_begin : Header → ℕ → ℕ
lay_begin h room = cond (has_place h room) header_words 0

-- the row with all words but those of the steps
abbrev pub laid_buffer : Header → List ℕ → List ℕ
laid_buffer h row =
    cond (has_place h (length row))
    (set (sets row 0 (first_words h)) (header_words + h.steps) (encoded (End h.steps)))
    row
