-- Newton's iteration: where p v leaves 1 modulo x, p v (2 - p v) leaves 1 modulo x x, since (1 + e) (1 - e) = 1 - e e.
use mathlib.Core.Path.{◌≡◌, refl, sym, ◌∙◌, ap, subst}
use Prim.Native.Nat.{ℕ, ◌+◌, ◌-◌, ◌*◌, ◌/◌, ◌%◌, ◌<◌, ◌∣◌}
use native.Mathlib.Nat.{add-mul-mod_self_right, dvd-mul_right, mod-add-div', mod-eq_of_lt, mod-lt, mod-mod_of_dvd, mul_assoc}
use native.Mathlib.Omega.{arith}
use Rattle.modular.proofs.Laws.Residues.{mul_mod_left, mul_mod_right}
use Rattle.montgomery.specs.Inner.Forms.{word, lift, word_inverse}

module _ (x n z : ℕ) (square : n ≡ x * x) (whole : n * z ≡ word) (some : 1 < n) where
  squared : (w g e : ℕ) → w ≡ 1 + e * x → w + g ≡ word + 2 → w * g % n ≡ 1
  squared w g e unit sum =
      let split : w * g + e * e * n ≡ 1 + w * z * n =
      omega (arith, ap (λ (k : ℕ). w * k) sum, ap (λ (k : ℕ). k * k) unit, ap (λ (k : ℕ). e * e * k) square, ap (λ (k : ℕ). w * k) whole) in
      sym (add-mul-mod_self_right (w * g) (e * e) n)
      ∙ ap (λ (k : ℕ). k % n) split
      ∙ add-mul-mod_self_right 1 (w * z) n
      ∙ mod-eq_of_lt some

  lifted_up : (p v : ℕ) → p * v % x ≡ 1 → p * lift p v % n ≡ 1
  unfolding lift
  lifted_up p v one =
      let w : ℕ = p * v % word in
      let g : ℕ = word + 2 - w in
      let less : w < word = mod-lt (p * v) {m = word} (omega arith) in
      let by_n : n ∣ word = subst (λ (k : ℕ). n ∣ k) whole (dvd-mul_right n z) in
      let by_x : x ∣ word =
      subst (λ (k : ℕ). x ∣ k) (sym (mul_assoc x x z) ∙ ap (λ (k : ℕ). k * z) (sym square) ∙ whole) (dvd-mul_right x (x * z)) in
      let unit : w % x ≡ 1 = mod-mod_of_dvd x (p * v) by_x ∙ one in
      let by_word : p * (v * (g % word) % word) % word ≡ w * g % word =
      mul_mod_right p (v * (g % word)) word
      ∙ ap (λ (k : ℕ). k % word) (sym (mul_assoc p v (g % word)))
      ∙ mul_mod_right (p * v) g word
      ∙ sym (mul_mod_left (p * v) g word) in
      sym (mod-mod_of_dvd n (p * (v * (g % word) % word)) by_n)
      ∙ ap (λ (k : ℕ). k % n) by_word
      ∙ mod-mod_of_dvd n (w * g) by_n
      ∙ squared w g (w / x) (sym (ap (λ (k : ℕ). k + w / x * x) (sym unit) ∙ mod-add-div' w x)) (omega arith)

-- the turns take the inverse of an odd number from modulo 2 to modulo 4, 16, 256, 65536 and 2^32
pub word_inverse_lem : (p : ℕ) → p % 2 ≡ 1 → p * word_inverse p % word ≡ 1
unfolding word_inverse
word_inverse_lem p odd =
    lifted_up 65536 word 1 refl refl (omega arith) p _
    (lifted_up 256 65536 65536 refl refl (omega arith) p _
    (lifted_up 16 256 16777216 refl refl (omega arith) p _
    (lifted_up 4 16 268435456 refl refl (omega arith) p _
    (lifted_up 2 4 1073741824 refl refl (omega arith) p 1 (omega arith)))))
