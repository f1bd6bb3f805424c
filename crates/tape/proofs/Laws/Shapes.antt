-- The words of steps by arithmetic: a payload of two registers, and a kind from 5 on of as many as take them. Such a word means a step,
-- and a word that means a step is one.
use mathlib.Core.Path.{◌≡◌, refl, sym, ◌∙◌, ap, ap₂}
use mathlib.Core.Bool.{◌&&◌}
use mathlib.Core.Logic.{⊎_elim}
use Prim.Native.Nat.{ℕ, zero, suc, ◌+◌, ◌-◌, ◌*◌, ◌/◌, ◌%◌, ◌≤◌, ◌<◌}
use native.Mathlib.Nat.{add-mul-mod_self_right, dvd-mul_right, eq-or-lt_of_le, mod-eq_of_lt, mod-mod_of_dvd}
use native.Mathlib.Omega.{arith}
use native.Mathlib.Decide.{ℕ_discrete}
use lib.Dec.{ltb}
use borrow.Author.Tests.{ltb-true, ltb-false, lt-ltb, le-ltb}
use Rattle.refusal.proofs.Laws.Tests.{by_test}
use Rattle.tape.specs.declared.Step.{Step}
use Rattle.tape.specs.declared.Step.TheVariants.{Mul, Div, Swp}
use Rattle.tape.specs.declared.Decoded.TheVariants.{Action, Bad}
use Rattle.tape.specs.Steps.{Sound}
use Rattle.tape.specs.Words.{kind_of, payload_of, packed_word, are_distinct, action_in, swap_in, kinds_of, decoded, step_word, encoded}
use Rattle.tape.specs.Layout.{sort_of, step_of}
use Rattle.tape.specs.declared.Opcode.TheVariants.{Swp as BySwp}
use Rattle.tape.specs.Inner.Operations.{step_by, opcode_of, raw_step}
use Rattle.tape.proofs.Laws.Payloads.{action_distinct, action_bad, action_good, swap_good}
use Rattle.tape.proofs.Laws.Words.{decoded_lawful, step_sound, word_again}

-- ---- how many kinds take two registers

module _ (t s : ℕ) where
  pub kinds_below : t < s → kinds_of t s ≡ 3
  unfolding kinds_of
  kinds_below h = rw (lt-ltb t s h)

  pub kinds_above : s < t → kinds_of t s ≡ 2
  unfolding kinds_of
  kinds_above h = rw (le-ltb t s (omega arith), lt-ltb s t h)

  pub kinds_none : t ≡ s → kinds_of t s ≡ 0
  unfolding kinds_of
  kinds_none e = rw (le-ltb t s (omega arith), le-ltb s t (omega arith))

  pub kinds_not_below : s ≤ t → kinds_of t s ≤ 2
  unfolding kinds_of
  kinds_not_below h = rw (le-ltb t s h) (by_test (ltb s t) (λ e. rw e (omega arith)) (λ e. rw e (omega arith)))

  pub kinds_most : kinds_of t s ≤ 3
  kinds_most =
      by_test (ltb t s)
      (λ e. omega (arith, kinds_below (ltb-true t s e)))
      (λ e. omega (arith, kinds_not_below (ltb-false t s e)))

  -- two that differ are taken by mul and div
  kinds_distinct : (t ≡ s → ⊥) → 1 < kinds_of t s
  kinds_distinct apart =
      by_test (ltb t s)
      (λ e. omega (arith, kinds_below (ltb-true t s e)))
      (λ e.
      by_test (ltb s t)
      (λ f. omega (arith, kinds_above (ltb-true s t f)))
      (λ f. absurd (apart (omega (arith, ltb-false t s e, ltb-false s t f)))))

-- ---- the shape of a step's word

pub record Shape (w : ℕ) : Type 0 where
  pub pair : payload_of w < 16
  pub first : 5 ≤ kind_of w
  pub taken : kind_of w < 5 + kinds_of (payload_of w % 4) (payload_of w / 4)

of_word : (t s kind w : ℕ) → t < 4 → s < 4 → 5 ≤ kind → kind < 5 + kinds_of t s → packed_word kind (t + 4 * s) ≡ w → Shape w
of_word t s kind w target source first taken e =
    let p : payload_of w ≡ t + 4 * s = omega (arith, e) in
    let k : kind_of w ≡ kind = omega (arith, e) in
    let t_is : payload_of w % 4 ≡ t = omega (arith, p) in
    let s_is : payload_of w / 4 ≡ s = omega (arith, p) in
    record { pair = omega (arith, p); first = omega (arith, k); taken = rw (k, t_is, s_is) taken }

of_step : (x : Step) (w : ℕ) → Sound x → step_word x ≡ w → Shape w
unfolding step_word
of_step (Mul t s) w a e = of_word t s 5 w a.target_is_one a.source_is_one (omega arith) (omega (arith, kinds_distinct t s a.differ)) e
of_step (Div t s) w a e = of_word t s 6 w a.target_is_one a.source_is_one (omega arith) (omega (arith, kinds_distinct t s a.differ)) e
of_step (Swp t s) w a e = of_word t s 7 w a.0.target_is_one a.0.source_is_one (omega arith) (omega (arith, kinds_below t s a.1)) e

pub step_shape : (w : ℕ) → sort_of (decoded w) ≡ 5 → Shape w
unfolding encoded
step_shape w e = of_step (step_of (decoded w)) w (step_sound (decoded w) (decoded_lawful w)) (word_again w e (λ z. omega arith))

-- ---- what a word of that shape means, by its kind

pub kind_7 : (kind : ℕ) → 5 ≤ kind → (kind ≡ 5 → ⊥) → (kind ≡ 6 → ⊥) → 7 ≤ kind
kind_7 kind first not_5 not_6 =
    ⊎_elim (λ e. absurd (not_5 (sym e))) (λ h. ⊎_elim (λ e. absurd (not_6 (sym e))) (λ k. k) (eq-or-lt_of_le h)) (eq-or-lt_of_le first)

pub exchanges : (n : ℕ) → 1 < n → opcode_of n ≡ BySwp
unfolding opcode_of
exchanges zero more = absurd (omega arith)
exchanges (suc zero) more = absurd (omega arith)
exchanges (suc (suc n)) more = refl

module _ (w : ℕ) (shape : Shape w) where
  differ : payload_of w % 4 ≡ payload_of w / 4 → ⊥
  differ e = omega (arith, kinds_none (payload_of w % 4) (payload_of w / 4) e, shape.taken, shape.first)

  order : 7 ≤ kind_of w → payload_of w % 4 < payload_of w / 4
  order last =
      let t = payload_of w % 4 in
      let s = payload_of w / 4 in
      by_test (ltb t s) (ltb-true t s) (λ e. absurd (omega (arith, kinds_not_below t s (ltb-false t s e), shape.taken)))

  pub means_5 : kind_of w ≡ 5 → decoded w ≡ Action (Mul (payload_of w % 4) (payload_of w / 4))
  unfolding decoded
  means_5 k = rw k (action_good Mul (payload_of w) shape.pair differ)

  pub means_6 : kind_of w ≡ 6 → decoded w ≡ Action (Div (payload_of w % 4) (payload_of w / 4))
  unfolding decoded
  means_6 k = rw k (action_good Div (payload_of w) shape.pair differ)

  pub means_7 : 7 ≤ kind_of w → decoded w ≡ Action (Swp (payload_of w % 4) (payload_of w / 4))
  unfolding decoded
  means_7 last =
      let k : kind_of w ≡ 7 = omega (arith, kinds_most (payload_of w % 4) (payload_of w / 4), shape.taken) in
      rw k (swap_good (payload_of w) shape.pair (order last))

  -- its kind from 5 on is the number of what it does
  means_operation : step_by (opcode_of (kind_of w - 5)) (payload_of w % 4) (payload_of w / 4) ≡ step_of (decoded w)
  unfolding step_by opcode_of
  means_operation =
      ⊎_elim (λ e. by_number 0 (omega arith) (means_5 (sym e)))
      (λ h.
      ⊎_elim (λ e. by_number 1 (omega arith) (means_6 (sym e)))
      (λ last. rw (exchanges (kind_of w - 5) (omega arith), means_7 last))
      (eq-or-lt_of_le h))
      (eq-or-lt_of_le shape.first)
    where
      by_number : (n : ℕ) → kind_of w - 5 ≡ n → decoded w ≡ Action (step_by (opcode_of n) (payload_of w % 4) (payload_of w / 4))
          → step_by (opcode_of (kind_of w - 5)) (payload_of w % 4) (payload_of w / 4) ≡ step_of (decoded w)
      by_number n number means = rw (number, means)

  pub shape_sort : sort_of (decoded w) ≡ 5
  shape_sort =
      ⊎_elim (λ e. ap sort_of (means_5 (sym e)))
      (λ h. ⊎_elim (λ e. ap sort_of (means_6 (sym e))) (λ last. ap sort_of (means_7 last)) (eq-or-lt_of_le h))
      (eq-or-lt_of_le shape.first)

-- ---- a word of a step's kind that is no step

module _ (w : ℕ) where
  no_action : (step : ℕ → ℕ → Step) → decoded w ≡ action_in step (payload_of w) → (sort_of (decoded w) ≡ 5 → ⊥) → decoded w ≡ Bad
  no_action step means none =
      by_test (are_distinct (payload_of w))
      (λ e. absurd (none (ap sort_of (means ∙ action_distinct step (payload_of w) e))))
      (λ e. means ∙ action_bad step (payload_of w) e)

  no_swap : kind_of w ≡ 7 → (sort_of (decoded w) ≡ 5 → ⊥) → decoded w ≡ Bad
  unfolding decoded swap_in
  no_swap k none =
      by_test (ltb (payload_of w) 16 && ltb (payload_of w % 4) (payload_of w / 4))
      (λ e. absurd (none (rw (k, e))))
      (λ e. rw (k, e))

  pub no_step : 5 ≤ kind_of w → kind_of w ≤ 7 → (sort_of (decoded w) ≡ 5 → ⊥) → decoded w ≡ Bad
  unfolding decoded
  no_step first last none =
      elim (ℕ_discrete (kind_of w) 5) [
        | yes k ↦ no_action Mul (rw k) none
        | no not_5 ↦ elim (ℕ_discrete (kind_of w) 6) [
          | yes k ↦ no_action Div (rw k) none
          | no not_6 ↦ no_swap (omega (arith, kind_7 (kind_of w) first not_5 not_6)) none
        ]
      ]

-- a step's word has nothing but its kind and its registers
pub raw_means : (w : ℕ) → sort_of (decoded w) ≡ 5 → raw_step w ≡ step_of (decoded w)
unfolding raw_step
raw_means w e =
    let shape = step_shape w e in
    let whole : w ≡ kind_of w * 268435456 + payload_of w = omega arith in
    let target : w % 4 ≡ payload_of w % 4 = sym (mod-mod_of_dvd 4 w (dvd-mul_right 4 67108864)) in
    let quarter : w / 4 ≡ payload_of w / 4 + kind_of w * 16777216 * 4 = omega (arith, whole) in
    let small : payload_of w / 4 < 4 = omega (arith, shape.pair) in
    let source : w / 4 % 4 ≡ payload_of w / 4 =
    ap (λ (n : ℕ). n % 4) quarter ∙ add-mul-mod_self_right (payload_of w / 4) (kind_of w * 16777216) 4 ∙ mod-eq_of_lt small in
    ap₂ (step_by (opcode_of (kind_of w - 5))) target source ∙ means_operation w shape
