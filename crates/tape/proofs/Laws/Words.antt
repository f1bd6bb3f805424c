-- Words and their meanings: each lawful meaning is that of its word, and each word that means something is the word of its
-- meaning. A word is its kind times 2^28 and its payload, so the tests of `decoded` are arithmetic on the two.
use mathlib.Core.Path.{◌≡◌, refl, sym, ap, ◌∙◌, subst}
use mathlib.Core.Bool.{Bool, true, false, ◌&&◌, not, cond, true≢false}
use Prim.Native.Nat.{ℕ, ◌+◌, ◌*◌, ◌/◌, ◌%◌, ◌<◌}
use native.Mathlib.Omega.{arith}
use lib.Dec.{eqb, ltb}
use borrow.Author.Tests.{eqb-true, ltb-true, eqb-false, not-true}
use Rattle.tape.specs.declared.Step.{Step}
use Rattle.tape.specs.declared.Step.TheVariants.{Mul, Div, Swp}
use Rattle.tape.specs.declared.Decoded.{Decoded}
use Rattle.tape.specs.declared.Decoded.TheVariants.{Heading, P, R, K, Action, End, Bad}
use Rattle.tape.specs.Steps.{Distinct, Sound}
use Rattle.tape.specs.Words.{number_limit, variant_limit, kind_of, payload_of, packed_word, heading_in, action_in, swap_in, decoded, step_word, encoded}
use Rattle.tape.specs.Layout.{sort_of, value_of, step_of}
use Rattle.refusal.proofs.Laws.Tests.{both}
use Rattle.tape.proofs.Laws.Payloads.{heading_good, action_good, swap_good}

-- what a word can mean: the numbers fit their bits, and a step is sound
abbrev pub Lawful : Decoded → Type 0
Lawful (Heading variant) = variant < variant_limit
Lawful (P p) = p < number_limit
Lawful (R r) = r < number_limit
Lawful (K k) = k < number_limit
Lawful (Action step) = Sound step
Lawful (End count) = count < number_limit
Lawful Bad = Unit {0}

-- ---- from a meaning to its word and back

module _ (kind payload : ℕ) (fits : payload < number_limit) where
  pub word_kind : kind_of (packed_word kind payload) ≡ kind
  word_kind = omega arith

  pub word_payload : payload_of (packed_word kind payload) ≡ payload
  word_payload = omega arith

-- the payload of two registers has them in its bits
module _ {t s : ℕ} (a : Distinct t s) where
  pair_small : t + 4 * s < 16
  pair_small = omega arith

  pair_target : (t + 4 * s) % 4 ≡ t
  pair_target = omega arith

  pair_source : (t + 4 * s) / 4 ≡ s
  pair_source = omega arith

  action_pair : (step : ℕ → ℕ → Step) → action_in step (t + 4 * s) ≡ Action (step t s)
  action_pair step =
      action_good step (t + 4 * s) pair_small (λ e. a.differ (sym pair_target ∙ e ∙ pair_source))
      ∙ rw (pair_target, pair_source)

  swap_pair : t < s → swap_in (t + 4 * s) ≡ Action (Swp t s)
  swap_pair order = swap_good (t + 4 * s) pair_small (omega (arith, pair_target, pair_source)) ∙ rw (pair_target, pair_source)

pub decoded_step : (x : Step) → Sound x → decoded (step_word x) ≡ Action x
unfolding decoded step_word
decoded_step (Mul t s) a = rw (word_kind 5 (t + 4 * s) (omega arith), word_payload 5 (t + 4 * s) (omega arith)) (action_pair a Mul)
decoded_step (Div t s) a = rw (word_kind 6 (t + 4 * s) (omega arith), word_payload 6 (t + 4 * s) (omega arith)) (action_pair a Div)
decoded_step (Swp t s) a = rw (word_kind 7 (t + 4 * s) (omega arith), word_payload 7 (t + 4 * s) (omega arith)) (swap_pair a.0 a.1)

pub decoded_encoded : (d : Decoded) → Lawful d → decoded (encoded d) ≡ d
unfolding decoded encoded
decoded_encoded (Heading v) h =
    rw (word_kind 1 (1 + 256 * v) (omega arith), word_payload 1 (1 + 256 * v) (omega arith))
    (heading_good (1 + 256 * v) (omega arith) (omega arith) ∙ ap Heading (omega arith))
decoded_encoded (P p) h = rw (word_kind 2 p h, word_payload 2 p h)
decoded_encoded (R r) h = rw (word_kind 3 r h, word_payload 3 r h)
decoded_encoded (K k) h = rw (word_kind 4 k h, word_payload 4 k h)
decoded_encoded (Action step) h = decoded_step step h
decoded_encoded (End n) h = rw (word_kind 15 n h, word_payload 15 n h)
decoded_encoded Bad h = refl

-- ---- from a word to its meaning and back

record Means (w : ℕ) (d : Decoded) : Type 0 where
  lawful : Lawful d
  back : (sort_of d ≡ 0 → ⊥) → encoded d ≡ w

-- a test that guards a meaning; where it fails, the others stay
guarded : {w : ℕ} (t : Bool) {x y : Decoded} → (t ≡ true → Means w x) → Means w y → Means w (cond t x y)
guarded true f m = f refl
guarded false f m = m

module _ (w : ℕ) where
  means_nothing : Means w Bad
  means_nothing = record { lawful = tt; back = λ h. absurd (h refl) }

  means_heading : kind_of w ≡ 1 → Means w (heading_in (payload_of w))
  unfolding heading_in encoded
  means_heading k =
      let x = payload_of w in
      guarded (eqb (x % 256) 1 && ltb x 4096)
      (λ e.
      let t = both (eqb (x % 256) 1) (ltb x 4096) e in
      let format = eqb-true (x % 256) 1 t.0 in
      let low = ltb-true x 4096 t.1 in
      record { lawful = omega arith; back = λ h. omega arith })
      means_nothing

  means_action : (step : ℕ → ℕ → Step) (kind : ℕ) → ((t s : ℕ) → step_word (step t s) ≡ packed_word kind (t + 4 * s)) → ((t s : ℕ) → Distinct t s → Sound (step t s))
      → kind_of w ≡ kind → Means w (action_in step (payload_of w))
  unfolding action_in encoded
  means_action step kind its_word sound k =
      let x = payload_of w in
      let t = x % 4 in
      let s = x / 4 in
      guarded (ltb x 16 && not (eqb t s))
      (λ e.
      let b = both (ltb x 16) (not (eqb t s)) e in
      let low = ltb-true x 16 b.0 in
      record {
        lawful = sound t s (record { target_is_one = omega arith; source_is_one = omega arith; differ = eqb-false t s (not-true (eqb t s) b.1) });
        back = λ h. its_word t s ∙ omega arith;
      })
      means_nothing

  means_swap : kind_of w ≡ 7 → Means w (swap_in (payload_of w))
  unfolding swap_in encoded step_word
  means_swap k =
      let x = payload_of w in
      let t = x % 4 in
      let s = x / 4 in
      guarded (ltb x 16 && ltb t s)
      (λ e.
      let b = both (ltb x 16) (ltb t s) e in
      let low = ltb-true x 16 b.0 in
      let order = ltb-true t s b.1 in
      record {
        lawful = (record { target_is_one = omega arith; source_is_one = omega arith; differ = λ d. omega arith }, order);
        back = λ h. omega arith;
      })
      means_nothing

  means : Means w (decoded w)
  unfolding decoded encoded step_word
  means =
      let k = kind_of w in
      let x = payload_of w in
      guarded (eqb k 1) (λ e. means_heading (eqb-true k 1 e))
      (guarded (eqb k 2) {x = P x} (λ e. let is = eqb-true k 2 e in record { lawful = omega arith; back = λ h. omega arith })
      (guarded (eqb k 3) {x = R x} (λ e. let is = eqb-true k 3 e in record { lawful = omega arith; back = λ h. omega arith })
      (guarded (eqb k 4) {x = K x} (λ e. let is = eqb-true k 4 e in record { lawful = omega arith; back = λ h. omega arith })
      (guarded (eqb k 5) (λ e. means_action Mul 5 (λ t s. refl) (λ t s a. a) (eqb-true k 5 e))
      (guarded (eqb k 6) (λ e. means_action Div 6 (λ t s. refl) (λ t s a. a) (eqb-true k 6 e))
      (guarded (eqb k 7) (λ e. means_swap (eqb-true k 7 e))
      (guarded (eqb k 15) {x = End x} (λ e. let is = eqb-true k 15 e in record { lawful = omega arith; back = λ h. omega arith })
      means_nothing)))))))

pub decoded_lawful : (w : ℕ) → Lawful (decoded w)
decoded_lawful w = (means w).lawful

pub encoded_decoded : (w : ℕ) → (sort_of (decoded w) ≡ 0 → ⊥) → encoded (decoded w) ≡ w
encoded_decoded w = (means w).back

-- the word 0, which a list gives past its end, means nothing
pub decoded_zero : decoded 0 ≡ Bad
unfolding decoded
decoded_zero = refl

-- ---- a lawful meaning by its parts

distinct_default : Distinct 0 1
distinct_default = record { target_is_one = omega arith; source_is_one = omega arith; differ = λ e. omega arith }

pub value_small : (d : Decoded) → Lawful d → value_of d < number_limit
value_small (Heading v) h = omega arith
value_small (P p) h = h
value_small (R r) h = h
value_small (K k) h = h
value_small (Action step) h = omega arith
value_small (End n) h = h
value_small Bad h = omega arith

pub step_sound : (d : Decoded) → Lawful d → Sound (step_of d)
step_sound (Heading v) h = distinct_default
step_sound (P p) h = distinct_default
step_sound (R r) h = distinct_default
step_sound (K k) h = distinct_default
step_sound (Action step) h = h
step_sound (End n) h = distinct_default
step_sound Bad h = distinct_default

-- mul 0 1 stands for what is no step
pub step_none : (d : Decoded) → eqb (sort_of d) 5 ≡ false → step_of d ≡ Mul 0 1
step_none (Heading v) e = refl
step_none (P p) e = refl
step_none (R r) e = refl
step_none (K k) e = refl
step_none (Action step) e = absurd (true≢false e)
step_none (End n) e = refl
step_none Bad e = refl

-- the meaning of a sort with a value or a step
abbrev pub meaning_of : ℕ → ℕ → Step → Decoded
meaning_of sort value step =
    cond (eqb sort 1) (Heading value)
    (cond (eqb sort 2) (P value)
    (cond (eqb sort 3) (R value)
    (cond (eqb sort 4) (K value)
    (cond (eqb sort 5) (Action step)
    (cond (eqb sort 15) (End value)
    Bad)))))

meaning : (d : Decoded) → meaning_of (sort_of d) (value_of d) (step_of d) ≡ d
meaning (Heading v) = refl
meaning (P p) = refl
meaning (R r) = refl
meaning (K k) = refl
meaning (Action step) = refl
meaning (End n) = refl
meaning Bad = refl

pub meaning_sort : (d : Decoded) {sort : ℕ} → sort_of d ≡ sort → d ≡ meaning_of sort (value_of d) (step_of d)
meaning_sort d e = sym (meaning d) ∙ ap (λ (s : ℕ). meaning_of s (value_of d) (step_of d)) e

-- a word is the word of its sort and what it holds
pub word_again : (w : ℕ) {sort : ℕ} → sort_of (decoded w) ≡ sort → (sort ≡ 0 → ⊥) → encoded (meaning_of sort (value_of (decoded w)) (step_of (decoded w))) ≡ w
word_again w e some = ap encoded (sym (meaning_sort (decoded w) e)) ∙ encoded_decoded w (λ z. some (sym e ∙ z))

pub variant_small : (w : ℕ) → sort_of (decoded w) ≡ 1 → value_of (decoded w) < variant_limit
variant_small w e = subst Lawful (meaning_sort (decoded w) e) (decoded_lawful w)
