-- A number read digit by digit: one that isn't a digit or passes the most ends it, and another digit makes the number as many times as
-- large as the base says. What `decimal` writes is read back.
use mathlib.Core.Path.{◌≡◌, refl, sym, ap, ◌∙◌}
use mathlib.Core.Bool.{true, false, ◌&&◌, and-false, and-true}
use mathlib.Core.List.{List, [], ◌∷◌, ◌++◌}
use Prim.Native.Nat.{ℕ, zero, suc, ◌+◌, ◌-◌, ◌*◌, ◌/◌, ◌%◌, ◌≤◌, ◌<◌}
use Prim.Native.Char.{code}
use native.Mathlib.Nat.{zero-add, mul_comm, mul-le-mul_left}
use Rattle.std.specs.Char.{digit_value}
use Rattle.std.specs.Bool.{then_some}
use Rattle.std.proofs.lemmas.Bool.Decides.{nat_tests}
use native.Mathlib.Decide.{dec_lt}
use native.Mathlib.Numerals.{add-one}
use native.Mathlib.Omega.{arith}
use lib.Dec.{leb, ltb, eqb}
use lib.ListN.{length, get_or, take, drop}
use lib.Pointwise.{pointwise}
use lib.Seq.{drop-cons}
use borrow.Author.Tests.{le-leb, lt-leb, leb-true, lt-ltb, le-ltb, ltb-true, ne_eqb}
use Rattle.refusal.proofs.Laws.Tests.{by_test, both, and_both}
use Rattle.std.specs.Prelude.{Option, Some, None}
use Rattle.text.specs.Text.{ascii, decimal}
use Rattle.text.specs.Reading.{within, digit_of, all_digits, value_from, number_from, in_base, is_hexadecimal, parse_number, Small}
use Rattle.text.proofs.Laws.Decimal.{decimal_one, decimal_again, decimal_some}

-- ---- a digit's value

pub is_within : (first last byte : ℕ) → first ≤ byte → byte ≤ last → within first last byte ≡ true
is_within first last byte low high = rw (le-leb first byte low, le-leb byte last high)

pub not_within : (first last byte : ℕ) → (first ≤ byte → last < byte) → within first last byte ≡ false
not_within first last byte h =
    elim (dec_lt byte first) [
      | yes low ↦ rw (lt-leb first byte low)
      | no low ↦ rw (lt-leb byte last (h (omega arith)), and-false (leb first byte))
    ]

module _ (byte : ℕ) where
  pub digit_decimal : code "0" ≤ byte → byte ≤ code "9" → digit_of byte ≡ byte - code "0"
  unfolding digit_of
  digit_decimal low high = rw (is_within (code "0") (code "9") byte low high)

  pub digit_lower : code "a" ≤ byte → byte ≤ code "f" → digit_of byte ≡ byte - code "a" + 10
  unfolding digit_of
  digit_lower low high = rw (not_within (code "0") (code "9") byte (λ h. omega arith), is_within (code "a") (code "f") byte low high)

  pub digit_upper : code "A" ≤ byte → byte ≤ code "F" → digit_of byte ≡ byte - code "A" + 10
  unfolding digit_of
  digit_upper low high =
      rw
      (not_within (code "0") (code "9") byte (λ h. omega arith), not_within (code "a") (code "f") byte (λ h. omega arith), is_within (code "A") (code "F") byte low high)

  pub digit_none : (code "0" ≤ byte → code "9" < byte) → (code "a" ≤ byte → code "f" < byte) → (code "A" ≤ byte → code "F" < byte) → digit_of byte ≡ 16
  unfolding digit_of
  digit_none d l u = rw (not_within (code "0") (code "9") byte d, not_within (code "a") (code "f") byte l, not_within (code "A") (code "F") byte u)

-- the digits of a base up to 16 are those that the language reads
module _ (base byte : ℕ) (h : base ≤ 16) where
  pub digit_same : digit_value byte < base → digit_of byte ≡ digit_value byte
  unfolding digit_of
  digit_same k = grind (arith, nat_tests)

  pub digit_other : (digit_value byte < base → ⊥) → base ≤ digit_of byte
  unfolding digit_of
  digit_other k = grind (arith, nat_tests)

-- ---- one more digit

module _ (base : ℕ) (some : 0 < base) where
  -- digits alone never make a number less
  value_grows : (n : ℕ) (text : List ℕ) → n ≤ value_from base n text
  unfolding value_from
  value_grows n [] = omega arith
  value_grows n (b ∷ text) = omega (arith, mul-le-mul_left n some, value_grows (base * n + digit_of b) text)

  pub number_past : (most n : ℕ) (text : List ℕ) → most < n → number_from base most n text ≡ None
  unfolding number_from
  number_past most n text h = rw (lt-leb (value_from base n text) most (omega (arith, value_grows n text)), and-false (all_digits base text))

module _ (base most : ℕ) where
  pub number_end : (n : ℕ) → n ≤ most → number_from base most n [] ≡ Some n
  unfolding number_from all_digits value_from
  number_end n h = rw (le-leb n most h)

  number_alone : (n : ℕ) → number_from base most n [] ≡ then_some (leb n most) n
  unfolding number_from all_digits value_from
  number_alone n = by_test (leb n most) (λ yes. rw yes refl) (λ no. rw no refl)

  module _ (n b : ℕ) (text : List ℕ) where
    pub number_stop : base ≤ digit_of b → number_from base most n (b ∷ text) ≡ None
    unfolding number_from all_digits
    number_stop h = rw (le-ltb (digit_of b) base h)

    pub number_next : digit_of b < base → number_from base most n (b ∷ text) ≡ number_from base most (base * n + digit_of b) text
    unfolding number_from all_digits value_from
    number_next h = rw (lt-ltb (digit_of b) base h)

  -- one digit more
  module _ (n byte : ℕ) (h : base ≤ 16) where
    pub digit_stops : (digit_value byte < base → ⊥) → number_from base most n (byte ∷ []) ≡ None
    digit_stops k = number_stop n byte [] (digit_other base byte h k)

    module _ (k : digit_value byte < base) where
      with_digit : number_from base most n (byte ∷ []) ≡ number_from base most (n * base + digit_value byte) []
      with_digit =
          let e = digit_same base byte h k in
          number_next n byte [] (omega arith) ∙ ap (λ (m : ℕ). number_from base most m []) (omega (arith, mul_comm n base))

      pub digit_passes : most < n * base + digit_value byte → number_from base most n (byte ∷ []) ≡ None
      digit_passes m = with_digit ∙ number_past base (omega arith) most (n * base + digit_value byte) [] m

      pub digit_fits : number_from base most n (byte ∷ []) ≡ then_some (leb (n * base + digit_value byte) most) (n * base + digit_value byte)
      digit_fits = with_digit ∙ number_alone (n * base + digit_value byte)

  -- what comes of the rest of a text, by what came of the byte in front of it
  abbrev pub behind : Option ℕ → List ℕ → Option ℕ
  behind (Some n) text = number_from base most n text
  behind None text = None

  number_step : 0 < base → (n b : ℕ) (text : List ℕ) → number_from base most n (b ∷ text) ≡ behind (number_from base most n (b ∷ [])) text
  number_step some n b text =
      let m = base * n + digit_of b in
      elim (dec_lt (digit_of b) base) [
        | yes h ↦
            let next : (rest : List ℕ) → number_from base most n (b ∷ rest) ≡ number_from base most m rest = λ rest. number_next n b rest h in
            elim (dec_lt most m) [
              | yes k ↦ next text ∙ number_past base some most m text k ∙ sym (ap (λ (p : Option ℕ). behind p text) (next [] ∙ number_past base some most m [] k))
              | no k ↦ next text ∙ sym (ap (λ (p : Option ℕ). behind p text) (next [] ∙ number_end m (omega arith)))
            ]
        | no h ↦ number_stop n b text (omega arith) ∙ sym (ap (λ (p : Option ℕ). behind p text) (number_stop n b [] (omega arith)))
      ]

  -- the byte at an index, and the text past it
  pub number_drop : 0 < base → (n : ℕ) (text : List ℕ) (i : ℕ) → i < length text
      → number_from base most n (drop i text) ≡ behind (number_from base most n (get_or text i 0 ∷ [])) (drop (i + 1) text)
  number_drop some n text i h = rw (add-one i, drop-cons text i 0 h) (number_step some n (get_or text i 0) (drop (suc i) text))

  module _ (some : 0 < base) (n : ℕ) (text : List ℕ) (i : ℕ) (h : i < length text) where
    pub drop_none : number_from base most n (get_or text i 0 ∷ []) ≡ None → number_from base most n (drop i text) ≡ None
    drop_none e = number_drop some n text i h ∙ rw e refl

    pub drop_some : (m : ℕ) → number_from base most n (get_or text i 0 ∷ []) ≡ Some m → number_from base most n (drop i text) ≡ number_from base most m (drop (i + 1) text)
    drop_some m e = number_drop some n text i h ∙ rw e refl

  -- a number that is read is not above the most
  from_small : (n : ℕ) (text : List ℕ) → Small most (number_from base most n text)
  unfolding number_from
  from_small n text =
      by_test (all_digits base text && leb (value_from base n text) most)
      (λ yes. rw yes (leb-true (value_from base n text) most (both (all_digits base text) (leb (value_from base n text) most) yes).1))
      (λ no. rw no (omega arith))

  pub number_most : (n : ℕ) (text : List ℕ) (m : ℕ) → number_from base most n text ≡ Some m → m ≤ most
  number_most n text m e = rw e at (from_small n text)

  -- a text that isn't empty
  pub base_some : (text : List ℕ) → 0 < length text → in_base base most text ≡ number_from base most 0 text
  unfolding in_base
  base_some [] h = absurd (omega arith)
  base_some (b ∷ text) h = refl

  pub base_none : (text : List ℕ) → length text ≡ 0 → in_base base most text ≡ None
  unfolding in_base
  base_none [] h = refl
  base_none (b ∷ text) h = absurd (omega arith)

  base_small : (text : List ℕ) → Small most (in_base base most text)
  unfolding in_base
  base_small [] = omega arith
  base_small (b ∷ text) = from_small 0 (b ∷ text)

-- ---- the base

pub hexadecimal_prefix : (text : List ℕ) → pointwise eqb (take 2 text) (ascii "0x") ≡ is_hexadecimal text
unfolding is_hexadecimal
hexadecimal_prefix [] = refl
hexadecimal_prefix (a ∷ []) = refl
hexadecimal_prefix (a ∷ b ∷ text) = rw (and-true (eqb b (code "x")))

module _ (most : ℕ) (text : List ℕ) where
  pub number_hexadecimal : is_hexadecimal text ≡ true → parse_number most text ≡ in_base 16 most (drop 2 text)
  unfolding parse_number
  number_hexadecimal e = rw e

  pub number_decimal : is_hexadecimal text ≡ false → parse_number most text ≡ in_base 10 most text
  unfolding parse_number
  number_decimal e = rw e

  pub number_small : Small most (parse_number most text)
  number_small =
      by_test (is_hexadecimal text)
      (λ yes. rw (number_hexadecimal yes) (base_small 16 most (drop 2 text)))
      (λ no. rw (number_decimal no) (base_small 10 most text))

-- ---- what is written is read back

decimal_digit : (d : ℕ) → d < 10 → digit_of (code "0" + d) ≡ d
decimal_digit d h = digit_decimal (code "0" + d) (omega arith) (omega arith) ∙ omega arith

digits_append : (text : List ℕ) (d : ℕ) → d < 10 → all_digits 10 text ≡ true → all_digits 10 (text ++ (code "0" + d) ∷ []) ≡ true
unfolding all_digits
digits_append [] d h e = rw (decimal_digit d h, lt-ltb d 10 h)
digits_append (b ∷ text) d h e =
    let parts = both (ltb (digit_of b) 10) (all_digits 10 text) e in
    and_both (ltb (digit_of b) 10) (all_digits 10 (text ++ (code "0" + d) ∷ [])) parts.0 (digits_append text d h parts.1)

value_append : (n : ℕ) (text : List ℕ) (d : ℕ) → d < 10 → value_from 10 n (text ++ (code "0" + d) ∷ []) ≡ 10 * value_from 10 n text + d
unfolding value_from
value_append n [] d h = rw (decimal_digit d h)
value_append n (b ∷ text) d h = value_append (10 * n + digit_of b) text d h

-- by the number's tenths; fuel above the number is enough
spelt : (fuel n : ℕ) → n < fuel → (all_digits 10 (decimal n) ≡ true) × (value_from 10 0 (decimal n) ≡ n)
unfolding all_digits value_from
spelt zero n h = absurd (omega arith)
spelt (suc fuel) n h =
    elim (dec_lt n 10) [
      | yes k ↦ rw (decimal_one n k) (digits_append [] n k refl, value_append 0 [] n k ∙ zero-add n)
      | no k ↦
          let tenth = spelt fuel (n / 10) (omega arith) in
          rw (decimal_again n (omega arith))
          (digits_append (decimal (n / 10)) (n % 10) (omega arith) tenth.0, value_append 0 (decimal (n / 10)) (n % 10) (omega arith) ∙ omega (arith, tenth.1))
    ]

-- an x is no digit
digits_decimal : (text : List ℕ) → all_digits 10 text ≡ true → is_hexadecimal text ≡ false
unfolding all_digits is_hexadecimal digit_of
digits_decimal [] e = refl
digits_decimal (a ∷ []) e = and-false (eqb a (code "0"))
digits_decimal (a ∷ b ∷ text) e =
    let rest = (both (ltb (digit_of a) 10) (all_digits 10 (b ∷ text)) e).1 in
    let small : digit_of b < 10 = ltb-true (digit_of b) 10 (both (ltb (digit_of b) 10) (all_digits 10 text) rest).0 in
    let other : ¬ (b ≡ code "x") = λ x. omega (arith, ap digit_of x) in
    rw (ne_eqb b (code "x") other, and-false (eqb a (code "0")))

pub number_back : (most n : ℕ) → n ≤ most → parse_number most (decimal n) ≡ Some n
unfolding number_from
number_back most n h =
    let s = spelt (suc n) n (omega arith) in
    number_decimal most (decimal n) (digits_decimal (decimal n) s.0)
    ∙ base_some 10 most (decimal n) (decimal_some n)
    ∙ rw (s.0, s.1, le-leb n most h)
