-- A whole number by its sign: below 0 it is a minus sign and the number behind it, from 0 on it is a number.
use mathlib.Core.Path.{◌≡◌, refl, ap}
use mathlib.Core.Bool.{true, false, true≢false}
use mathlib.Core.List.{[], ◌∷◌, ◌++◌}
use Prim.Native.Nat.{suc, ◌+◌, ◌-◌, ◌<◌}
use Prim.Native.Char.{code}
use native.Mathlib.Omega.{arith}
use lib.IntN.{ℤ, pos, negsuc, nat_abs, ◌-ℤ◌}
use lib.Signed.{mag, lt_z}
use borrow.Author.Tests.{le-ltb, ltb-true}
use Rattle.text.specs.Text.{decimal, whole}

pub record Below (z : ℤ) : Type 0 where
  pub spelt : whole z ≡ (code "-" ∷ []) ++ decimal (nat_abs z)
  -- -1 - z is the number k with z = -(k + 1)
  pub complement : negsuc 0 -ℤ z ≡ pos (mag z)
  pub one_more : mag z + 1 ≡ nat_abs z

pub below : (z : ℤ) → lt_z z (pos 0) ≡ true → Below z
unfolding whole
below (pos n) t = absurd (let h : n < 0 = ltb-true n 0 t in omega arith)
below (negsuc k) t =
    record {
      spelt = refl;
      complement = rw (le-ltb (suc k) 1 (omega arith)) (ap pos (let e : suc k - 1 ≡ k = omega arith in e));
      one_more = omega arith;
    }

pub record Natural (z : ℤ) : Type 0 where
  pub spelt : whole z ≡ decimal (nat_abs z)
  pub itself : z ≡ pos (mag z)
  pub same : mag z ≡ nat_abs z

pub natural : (z : ℤ) → lt_z z (pos 0) ≡ false → Natural z
unfolding whole
natural (pos n) t = record { spelt = refl; itself = refl; same = refl }
natural (negsuc k) t = absurd (true≢false t)
