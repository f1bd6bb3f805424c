-- The table of case A's eleven steps, three of them mul, three div and five swp, computed from the definitions.
use mathlib.Core.Path.{◌≡◌, refl}
use mathlib.Core.List.{List, [], ◌∷◌}
use lib.IntN.{pos, negsuc}
use Rattle.tape.specs.declared.Step.{Step}
use Rattle.tape.specs.declared.Step.TheVariants.{Mul, Div, Swp}
use Rattle.matrices.specs.Matrices.{alternating_sum, without, minor, entry_at, determinant}
use Rattle.machine.specs.Machine.{inverse_step, inverted}
use Rattle.machine.specs.Ways.{way, count_where, is_mul, is_div, is_swp, counts_of}
use Rattle.machine.specs.Exponents.{shift, shift_all}
use Rattle.tables.specs.Tables.{table_of, sign_of}

abbrev case_a : List Step
case_a =
    Mul 0 1
    ∷ Swp 0 1
    ∷ Mul 2 1
    ∷ Swp 0 1
    ∷ Div 0 1
    ∷ Swp 1 2
    ∷ Mul 0 1
    ∷ Swp 0 1
    ∷ Div 2 1
    ∷ Swp 0 1
    ∷ Div 0 1
    ∷ []

pub case_a_table : table_of case_a
    ≡ (pos 1 ∷ pos 0 ∷ pos 0 ∷ pos 0 ∷ [])
    ∷ (pos 1 ∷ pos 1 ∷ pos 1 ∷ pos 0 ∷ [])
    ∷ (negsuc 1 ∷ pos 0 ∷ negsuc 0 ∷ pos 0 ∷ [])
    ∷ (pos 0 ∷ pos 0 ∷ pos 0 ∷ pos 1 ∷ [])
    ∷ []
unfolding table_of shift_all shift
case_a_table = refl

pub case_a_determinant : determinant 4 (table_of case_a) ≡ negsuc 0
unfolding table_of shift_all shift determinant alternating_sum entry_at minor without
case_a_determinant = refl

pub case_a_sign : sign_of (count_where is_swp case_a) ≡ negsuc 0
unfolding sign_of count_where is_swp
case_a_sign = refl

-- the steps on the way from end to end; on that to position 4, and on the way back from there
pub case_a_counts : (counts_of (way case_a 0 11) ≡ 3 ∷ 3 ∷ 5 ∷ [])
    × (counts_of (way case_a 0 4) ≡ 2 ∷ 0 ∷ 2 ∷ [])
    × (counts_of (way case_a 4 0) ≡ 0 ∷ 2 ∷ 2 ∷ [])
unfolding way inverted inverse_step counts_of count_where is_mul is_div is_swp
case_a_counts = (refl, refl, refl)
