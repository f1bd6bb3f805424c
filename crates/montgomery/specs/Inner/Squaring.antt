-- What repeated squaring comes to by a product of numbers that stand for others, as forms do.
use Rattle.std.specs.Prelude.{◌≡◌, ℕ, ◌*◌, ◌^◌, ◌<◌}
use Rattle.montgomery.specs.Inner.Forms.{word}

-- the product of what stands for x and for y stands for x * y
pub record Carries (product : ℕ → ℕ → ℕ → Type 0) (image : ℕ → ℕ) : Type 0 where
  pub times : (x y r : ℕ) → image x < word → image y < word → product (image x) (image y) r → r ≡ image (x * y)

-- so the power of what stands for a base stands for the power of the base
pub record Power (product : ℕ → ℕ → ℕ → Type 0) (one base exponent r : ℕ) : Type 0 where
  pub of : (image : ℕ → ℕ) → Carries product image → (b : ℕ) → one ≡ image 1 → base ≡ image b → r ≡ image (b ^ exponent)
