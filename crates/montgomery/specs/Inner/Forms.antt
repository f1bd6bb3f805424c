-- Montgomery's form: modulo p, x stands as x × 2^32. The laws of proofs/Laws/Forms say what this has to do with products modulo p.
use Rattle.std.specs.Prelude.{◌≡◌, cond, ℕ, ◌+◌, ◌-◌, ◌*◌, ◌/◌, ◌%◌, ltb}
use Rattle.modular.specs.Residues.{remainder}
use Rattle.modular.specs.Inverses.{inverse}
use Rattle.montgomery.specs.declared.Modulus.{Modulus}

-- 2^32
abbrev pub word : ℕ
word = 4294967296

-- the form of x
unfoldable pub form_of : ℕ → ℕ → ℕ
form_of p x = x * word % p

-- one turn of Newton's iteration
unfoldable pub lift : ℕ → ℕ → ℕ
lift p v = v * ((word + 2 - p * v % word) % word) % word

-- five turns from 1, which is the inverse modulo 2 of an odd number
unfoldable pub word_inverse : ℕ → ℕ
word_inverse p = lift p (lift p (lift p (lift p (lift p 1))))

-- 2^64 modulo p, from 1 to p; modulo 0 it is 1
unfoldable pub square_of : ℕ → ℕ
square_of p = remainder 18446744073709551615 p + 1

-- m is what `Modulus::new` makes of p
pub record IsModulus (p : ℕ) (m : Modulus) : Type 0 where
  pub value_is : m.value ≡ p
  pub inverse_is : m.inverse ≡ word_inverse p
  pub square_is : m.square ≡ square_of p

-- the multiple of p that has the low word of t, without that word
abbrev pub multiple_of : ℕ → ℕ → ℕ → ℕ
multiple_of p q t = t % word * q % word * p / word

-- t divided by 2^32 modulo p, where q is the inverse of p modulo 2^32
unfoldable pub reduction : ℕ → ℕ → ℕ → ℕ
reduction p q t = cond (ltb (t / word) (multiple_of p q t)) (t / word + (p - multiple_of p q t)) (t / word - multiple_of p q t)

-- the product of two numbers in the form, the form of a number, the number of a form, and the inverse in the form
unfoldable pub form_times : Modulus → ℕ → ℕ → ℕ
form_times m x y = reduction m.value m.inverse (x * y)

unfoldable pub enter : Modulus → ℕ → ℕ
enter m x = form_times m x m.square

unfoldable pub leave : Modulus → ℕ → ℕ
leave m x = reduction m.value m.inverse x

unfoldable pub form_inverse : Modulus → ℕ → ℕ
form_inverse m x = enter m (inverse m.value (leave m x))
