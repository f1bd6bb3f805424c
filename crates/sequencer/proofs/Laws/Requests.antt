-- A list of requests as words: four words from an index on are its next request, and fewer are none. A list that fits is given by
-- its tapes one behind another and where each of them stands.
use mathlib.Core.Path.{◌≡◌, refl, sym, ap, ◌∙◌}
use mathlib.Core.List.{List, [], ◌∷◌, ◌++◌, append_assoc}
use Prim.Native.Nat.{ℕ, suc, ◌+◌, ◌-◌, ◌^◌, ◌≤◌, ◌<◌}
use native.Mathlib.Omega.{arith}
use lib.ListN.{length, get_or, set, drop, length-drop, length-append}
use lib.Seq.{sets, take_at, drop_at}
use Rattle.refusal.specs.Outcomes.{refusal_number}
use Rattle.tape.specs.Layout.{part}
use Rattle.tape.proofs.Laws.Rows.{part_inside, drop_next}
use Rattle.sequencer.specs.Records.{Record}
use Rattle.sequencer.specs.Lists.{Turn, none, to, Request, answer_to, record_after, after_all, numbers_all, turn_of, requests_of, AllBelow, EncodedRequests, tapes_of, turn_word, PositionsFit}

fewer : (row words : List ℕ) → length words < 4 → requests_of row words ≡ []
unfolding requests_of
fewer row [] h = refl
fewer row (a ∷ []) h = refl
fewer row (a ∷ b ∷ []) h = refl
fewer row (a ∷ b ∷ c ∷ []) h = refl
fewer row (a ∷ b ∷ c ∷ d ∷ words) h = absurd (omega arith)

module _ (row words : List ℕ) (i : ℕ) where
  -- the word at an index, and those past it
  next_word : (j : ℕ) → j < length words → drop j words ≡ get_or words j 0 ∷ drop (j + 1) words
  next_word j h = drop_next words j (j + 1) 0 refl h

  four_words : i + 4 ≤ length words
      → drop i words ≡ get_or words i 0 ∷ get_or words (i + 1) 0 ∷ get_or words (i + 2) 0 ∷ get_or words (i + 3) 0 ∷ drop (i + 4) words
  four_words h =
      let a = next_word i (omega arith) in
      let b = next_word (i + 1) (omega arith) in
      let c = next_word (i + 2) (omega arith) in
      let d = next_word (i + 3) (omega arith) in
      let two : i + 1 + 1 ≡ i + 2 = omega arith in
      let three : i + 2 + 1 ≡ i + 3 = omega arith in
      let four : i + 3 + 1 ≡ i + 4 = omega arith in
      cc (a, b, c, d, two, three, four)

  -- what all runs leave, and their numbers, is what those past the next make of what that one leaves
  module _ (s t : Record) (h : i + 4 ≤ length words) where
    abbrev request : Request
    request = record { tape = part row (get_or words i 0) (get_or words (i + 1) 0); turn = turn_of (get_or words (i + 2) 0); goal = get_or words (i + 3) 0 }

    first : requests_of row (drop i words) ≡ request ∷ requests_of row (drop (i + 4) words)
    unfolding requests_of
    first = ap (requests_of row) (four_words h)

    pub after_next : t ≡ record_after request s → after_all (requests_of row (drop (i + 4) words)) t ≡ after_all (requests_of row (drop i words)) s
    unfolding after_all
    after_next this = ap (after_all (requests_of row (drop (i + 4) words))) this ∙ sym (ap (λ (qs : List Request). after_all qs s) first)

    pub numbers_next : (numbers numbers' : List ℕ) (n : ℕ) → t ≡ record_after request s → numbers' ≡ set numbers n (refusal_number (answer_to request s))
        → sets numbers' (n + 1) (numbers_all (requests_of row (drop (i + 4) words)) t) ≡ sets numbers n (numbers_all (requests_of row (drop i words)) s)
    unfolding numbers_all
    numbers_next numbers numbers' n this noted =
        let next : n + 1 ≡ suc n = omega arith in
        rw (this, noted, next) (sym (ap (λ (qs : List Request). sets numbers n (numbers_all qs s)) first))

  module _ (s : Record) (h : length words - i < 4) where
    no_more : requests_of row (drop i words) ≡ []
    no_more = fewer row (drop i words) (omega (arith, length-drop i words))

    pub after_last : after_all (requests_of row (drop i words)) s ≡ s
    unfolding after_all
    after_last = ap (λ (qs : List Request). after_all qs s) no_more

    pub numbers_last : (numbers : List ℕ) (n : ℕ) → sets numbers n (numbers_all (requests_of row (drop i words)) s) ≡ numbers
    unfolding numbers_all
    numbers_last numbers n = ap (λ (qs : List Request). sets numbers n (numbers_all qs s)) no_more

-- ---- from requests to words

-- the tapes stand one behind another, from an index on
words_from : ℕ → List Request → List ℕ
words_from at [] = []
words_from at (q ∷ qs) = at ∷ (at + length q.tape) ∷ turn_word q.turn ∷ q.goal ∷ words_from (at + length q.tape) qs

middle : (front tape rest : List ℕ) → part (front ++ tape ++ rest) (length front) (length front + length tape) ≡ tape
middle front tape rest =
    let long : length front + length tape ≤ length (front ++ tape ++ rest) = omega (arith, length-append (front ++ tape) rest, length-append front tape) in
    part_inside (front ++ tape ++ rest) (length front) (length front + length tape) (omega arith) long
    ∙ ap (drop (length front)) (take_at (front ++ tape) rest _ (length-append front tape))
    ∙ drop_at front tape _ refl

turn_word_lem : (t : Turn) → turn_of (turn_word t) ≡ t
turn_word_lem none = refl
turn_word_lem (to n) = refl

words_requests : (front : List ℕ) (qs : List Request) → requests_of (front ++ tapes_of qs) (words_from (length front) qs) ≡ qs
unfolding requests_of tapes_of words_from
words_requests front [] = refl
words_requests front (q ∷ qs) =
    let again : front ++ (q.tape ++ tapes_of qs) ≡ front ++ q.tape ++ tapes_of qs = sym (append_assoc front q.tape (tapes_of qs)) in
    let rest : List ℕ = words_from (length (front ++ q.tape)) qs in
    rw (again, middle front q.tape (tapes_of qs), turn_word_lem q.turn, ← (length-append front q.tape))
    (ap (λ (rs : List Request). q ∷ rs) (ap (λ (row : List ℕ). requests_of row rest) again ∙ words_requests (front ++ q.tape) qs))

below_words : (at : ℕ) (qs : List Request) → at + length (tapes_of qs) < 2 ^ 32 → PositionsFit qs → AllBelow (2 ^ 32) (words_from at qs)
unfolding AllBelow tapes_of words_from PositionsFit
below_words at [] short fit = tt
below_words at (q ∷ qs) short fit =
    let long = length-append q.tape (tapes_of qs) in
    (omega arith, (omega arith, (fit.0, (fit.1, below_words (at + length q.tape) qs (omega arith) fit.2))))

pub requests_given : (qs : List Request) → AllBelow (2 ^ 32) (tapes_of qs) → length (tapes_of qs) < 2 ^ 32 → PositionsFit qs → EncodedRequests qs
requests_given qs fits short positions =
    record { row = tapes_of qs; words = words_from 0 qs; row_fits = fits; words_fit = below_words 0 qs (omega arith) positions; requests = words_requests [] qs }
