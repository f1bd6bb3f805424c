-- The words of some bytes: the first, in front of the first zero byte, and those of the bytes past it.
use Rattle.std.specs.Prelude.{◌≡◌, ◌≢◌, refl, List, [], ◌∷◌, ℕ, zero, suc, ◌+◌, ◌≤◌, ◌<◌, length, get_or, take, drop}
use Rattle.std.proofs.Common.{sym, ap, ◌∙◌, arith, add-zero, length-drop}
use Rattle.std.proofs.Math.ListN.{get_or-eq_default}
use Rattle.std.proofs.Math.Seq.{drop-drop, get_or-drop}
use Rattle.text.specs.Reading.{first_word, past_word, in_front, split_words}

pub words_some : (bytes : List ℕ) → 0 < length bytes → split_words bytes ≡ first_word bytes ∷ split_words (past_word bytes)
unfolding first_word past_word split_words
words_some [] h = absurd (omega arith)
words_some (zero ∷ bytes) h = refl
words_some (suc b ∷ []) h = refl
words_some (suc b ∷ d ∷ bytes) h = ap (in_front (suc b)) (words_some (d ∷ bytes) (omega arith))

empty : (bytes : List ℕ) → length bytes ≡ 0 → bytes ≡ []
empty [] h = refl
empty (b ∷ bytes) h = absurd (omega arith)

pub words_none : (bytes : List ℕ) → length bytes ≡ 0 → split_words bytes ≡ []
unfolding split_words
words_none [] h = refl
words_none (b ∷ bytes) h = absurd (omega arith)

-- where there are no bytes, it is empty
pub words_first : (bytes : List ℕ) → get_or (split_words bytes) 0 [] ≡ first_word bytes
unfolding first_word split_words
words_first [] = refl
words_first (b ∷ bytes) = ap (λ (l : List (List ℕ)). get_or l 0 []) (words_some (b ∷ bytes) (omega arith))

pub past_less : (bytes : List ℕ) → 0 < length bytes → length (past_word bytes) < length bytes
unfolding past_word
past_less [] h = absurd (omega arith)
past_less (zero ∷ bytes) h = omega arith
past_less (suc b ∷ []) h = omega arith
past_less (suc b ∷ d ∷ bytes) h = omega (arith, past_less (d ∷ bytes) (omega arith))

front_length : (b : ℕ) (words : List (List ℕ)) → length (in_front b words) ≤ length words + 1
front_length b [] = omega arith
front_length b (word ∷ words) = omega arith

pub words_fit : (bytes : List ℕ) → length (split_words bytes) ≤ length bytes
unfolding split_words
words_fit [] = omega arith
words_fit (zero ∷ bytes) = omega (arith, words_fit bytes)
words_fit (suc b ∷ bytes) = omega (arith, words_fit bytes, front_length (suc b) (split_words bytes))

-- ---- words passed one after another

-- what is left has the words from an index on
module _ (words : List (List ℕ)) (rest : List ℕ) (i : ℕ) (left : split_words rest ≡ drop i words) where
  pub words_next : 0 < length rest → split_words (past_word rest) ≡ drop (i + 1) words
  words_next h = ap (drop 1) (sym (words_some rest h) ∙ left) ∙ drop-drop 1 i words

  pub words_at : first_word rest ≡ get_or words i []
  words_at = sym (words_first rest) ∙ ap (λ (l : List (List ℕ)). get_or l 0 []) left ∙ get_or-drop i words 0 [] ∙ ap (λ (n : ℕ). get_or words n []) (add-zero i)

  -- nothing is left
  pub words_end : length rest ≡ 0 → (index : ℕ) → i ≤ index → rest ≡ get_or words index []
  words_end h index le =
      let none : length (drop i words) ≡ 0 = ap length (sym left ∙ words_none rest h) in
      empty rest h ∙ sym (get_or-eq_default words [] {n = index} (omega (arith, none, length-drop i words)))

-- ---- by the index of the first zero byte

-- no byte in front of an index is 0
abbrev pub NoZero : List ℕ → ℕ → Type 0
NoZero bytes i = (k : ℕ) → k < i → get_or bytes k 0 ≢ 0

pub word_ends : (bytes : List ℕ) (i : ℕ) → i < length bytes → get_or bytes i 0 ≡ 0 → NoZero bytes i
    → (take i bytes ≡ first_word bytes) × (drop (suc i) bytes ≡ past_word bytes)
unfolding first_word past_word
word_ends [] i h e none = absurd (omega arith)
word_ends (zero ∷ bytes) zero h e none = (refl, refl)
word_ends (suc b ∷ bytes) zero h e none = absurd (omega arith)
word_ends (zero ∷ bytes) (suc i) h e none = absurd (none 0 (omega arith) refl)
word_ends (suc b ∷ bytes) (suc i) h e none =
    let rest = word_ends bytes i (omega arith) e (λ k l. none (suc k) (omega arith)) in
    (ap (λ (l : List ℕ). suc b ∷ l) rest.0, rest.1)

pub word_alone : (bytes : List ℕ) → NoZero bytes (length bytes) → (bytes ≡ first_word bytes) × ([] ≡ past_word bytes)
unfolding first_word past_word
word_alone [] none = (refl, refl)
word_alone (zero ∷ bytes) none = absurd (none 0 (omega arith) refl)
word_alone (suc b ∷ bytes) none =
    let rest = word_alone bytes (λ k l. none (suc k) (omega arith)) in
    (ap (λ (l : List ℕ). suc b ∷ l) rest.0, rest.1)
