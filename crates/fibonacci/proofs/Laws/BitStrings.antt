-- What the loop that sets the bits of a form, from its lowest place up, keeps: the row is the bit string of the form with the
-- places from index i of the list on, since setting a bit above a form puts that place on top of it.
use mathlib.Core.Path.{◌≡◌, refl, ap, ◌∙◌}
use mathlib.Core.Bool.{Bool}
use mathlib.Core.List.{List, [], ◌∷◌, map}
use Prim.Native.Nat.{ℕ, zero, suc, ◌-◌, ◌≤◌, ◌<◌, ◌^◌}
use native.Mathlib.Numerals.{sub-one}
use native.Mathlib.Omega.{arith}
use lib.ListN.{length, take, drop, get_or, set, replicate, drop_of_length-le}
use lib.Seq.{drop-cons}
use Rattle.fibonacci.specs.Forms.{Places, pad, top_at, zeckendorf}
use Rattle.fibonacci.specs.Services.{places_of, bit, bit_row}
use Rattle.fibonacci.proofs.Laws.Forms.{top_length}
use Rattle.fibonacci.proofs.Laws.Places.{places_at, zeckendorf_places_64, form_with, form_with_lem, form_zeckendorf}

-- the bit string of a form in a row of w
abbrev bits : ℕ → List Bool → List ℕ
bits w bs = map bit (pad w bs)

-- ---- reading the row

-- the first m bits are the form padded to m
pub take_bits : (m w : ℕ) (bs : List Bool) → m ≤ w → length bs ≤ m → take m (bits w bs) ≡ bits m bs
unfolding pad
take_bits zero w [] h l = refl
take_bits zero w (b ∷ bs) h l = absurd (omega arith)
take_bits (suc m) zero bs h l = absurd (omega arith)
take_bits (suc m) (suc w) [] h l = ap (λ (r : List ℕ). 0 ∷ r) (take_bits m w [] (omega arith) (omega arith))
take_bits (suc m) (suc w) (b ∷ bs) h l = ap (λ (r : List ℕ). bit b ∷ r) (take_bits m w bs (omega arith) (omega arith))

-- ---- setting its bits

set_bit : (m w : ℕ) (bs : List Bool) → length bs ≤ m → m < w → set (bits w bs) m 1 ≡ bits w (top_at m bs)
unfolding pad
set_bit m zero bs l h = absurd (omega arith)
set_bit zero (suc w) [] l h = refl
set_bit zero (suc w) (b ∷ bs) l h = absurd (omega arith)
set_bit (suc m) (suc w) [] l h = ap (λ (r : List ℕ). 0 ∷ r) (set_bit m w [] (omega arith) (omega arith))
set_bit (suc m) (suc w) (b ∷ bs) l h = ap (λ (r : List ℕ). bit b ∷ r) (set_bit m w bs (omega arith) (omega arith))

-- the form with the places from index i of the list of n on
abbrev form_from : ℕ → ℕ → List Bool
form_from n i = form_with (drop i (places_of n))

pub record Setting (n : ℕ) (row : List ℕ) (top i : ℕ) : Type 0 where
  pub small : n < 2 ^ 64
  pub within : i ≤ length (places_of n)
  pub top_is : top ≡ length (form_from n i)
  pub row_is : row ≡ bits 92 (form_from n i)

pub setting_starts : (n i : ℕ) → n < 2 ^ 64 → i ≡ length (places_of n) → Setting n (replicate 92 0) 0 i
unfolding pad form_with
setting_starts n i h e =
    let none : drop i (places_of n) ≡ [] = drop_of_length-le (places_of n) {i = i} (omega arith) in
    record { small = h; within = omega arith; top_is = rw none; row_is = rw none }

-- the next place is from 1 to 92, and the places so far lie below its neighbour
pub setting_place : {n : ℕ} {row : List ℕ} {top i place : ℕ} → Setting n row top i → 0 < i → place ≡ get_or (places_of n) (i - 1) 0 → Places 92 (place ∷ drop i (places_of n))
setting_place {i = zero} s h e = absurd (omega arith)
setting_place {n} {i = suc i} s h e =
    rw (e, sub-one (suc i)) (places_at 92 (places_of n) i (zeckendorf_places_64 n s.small) (omega (arith, s.within)))

pub setting_next : {n : ℕ} {row : List ℕ} {top i place : ℕ} → Setting n row top i → 0 < i → place ≡ get_or (places_of n) (i - 1) 0
    → Setting n (set row (place - 1) 1) place (i - 1)
unfolding form_with
setting_next {i = zero} s h e = absurd (omega arith)
setting_next {n} {row} {top} {i = suc i} {place} s h e =
    let below : List ℕ = drop (suc i) (places_of n) in
    let p : Places 92 (place ∷ below) = setting_place s h e in
    let l : length (form_with below) ≤ place - 1 = omega (arith, (form_with_lem (place - 2) below p.2).short) in
    let all : drop i (places_of n) ≡ place ∷ below = rw (e, sub-one (suc i)) (drop-cons (places_of n) i 0 (omega (arith, s.within))) in
    rw (sub-one (suc i))
    (record {
      small = s.small;
      within = omega (arith, s.within);
      top_is = rw all (omega (arith, top_length (place - 1) (form_with below) l));
      row_is = rw (s.row_is, all) (set_bit (place - 1) 92 (form_with below) l (omega arith));
    })

pub setting_ends : {n : ℕ} {row : List ℕ} {top i : ℕ} → Setting n row top i → i ≤ 0 → (top ≡ length (zeckendorf n)) × (row ≡ bit_row n)
setting_ends {i = suc i} s h = absurd (omega arith)
setting_ends {n} {i = zero} s h = (s.top_is ∙ ap length (form_zeckendorf n), s.row_is ∙ ap (bits 92) (form_zeckendorf n))
