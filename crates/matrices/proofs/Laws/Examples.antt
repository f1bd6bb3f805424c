-- Determinants and products worked out, computed from the definitions.
use mathlib.Core.Path.{◌≡◌, refl}
use mathlib.Core.List.{[], ◌∷◌}
use lib.IntN.{pos, negsuc}
use Rattle.matrices.specs.Matrices.{Matrix, alternating_sum, without, minor, entry_at, determinant, dot, matrix_product, identity_matrix}

abbrev two : Matrix
two = (pos 1 ∷ pos 2 ∷ []) ∷ (pos 3 ∷ pos 4 ∷ []) ∷ []

abbrev three : Matrix
three = (pos 2 ∷ pos 0 ∷ pos 1 ∷ []) ∷ (pos 1 ∷ pos 3 ∷ pos 2 ∷ []) ∷ (pos 1 ∷ pos 1 ∷ pos 4 ∷ []) ∷ []

abbrev four : Matrix
four =
    (pos 2 ∷ pos 1 ∷ pos 3 ∷ pos 1 ∷ [])
    ∷ (pos 1 ∷ pos 3 ∷ pos 1 ∷ pos 2 ∷ [])
    ∷ (pos 3 ∷ pos 2 ∷ pos 1 ∷ pos 1 ∷ [])
    ∷ (pos 1 ∷ pos 1 ∷ pos 2 ∷ pos 3 ∷ [])
    ∷ []

pub determinant_two : determinant 2 two ≡ negsuc 1
unfolding determinant alternating_sum entry_at minor without
determinant_two = refl

pub determinant_three : determinant 3 three ≡ pos 18
unfolding determinant alternating_sum entry_at minor without
determinant_three = refl

pub determinant_four : determinant 4 four ≡ negsuc 34
unfolding determinant alternating_sum entry_at minor without
determinant_four = refl

pub product_two : matrix_product 2 two ((pos 5 ∷ pos 6 ∷ []) ∷ (pos 7 ∷ pos 8 ∷ []) ∷ []) ≡ (pos 19 ∷ pos 22 ∷ []) ∷ (pos 43 ∷ pos 50 ∷ []) ∷ []
unfolding matrix_product dot
product_two = refl

pub product_wider : matrix_product 3 ((pos 2 ∷ pos 1 ∷ []) ∷ []) ((pos 1 ∷ pos 0 ∷ pos 4 ∷ []) ∷ (pos 3 ∷ pos 5 ∷ pos 2 ∷ []) ∷ []) ≡ (pos 5 ∷ pos 5 ∷ pos 10 ∷ []) ∷ []
unfolding matrix_product dot
product_wider = refl

pub identity_three : identity_matrix 3 ≡ (pos 1 ∷ pos 0 ∷ pos 0 ∷ []) ∷ (pos 0 ∷ pos 1 ∷ pos 0 ∷ []) ∷ (pos 0 ∷ pos 0 ∷ pos 1 ∷ []) ∷ []
unfolding identity_matrix
identity_three = refl
