-- What the code holds of a named program's forms: rows of 92 bits, for the contracts of inner functions.
use Rattle.std.specs.Prelude.{◌≡◌, Bool, false, List, [], ◌∷◌, map, ℕ, ◌+◌, ◌*◌, ◌≤◌, ◌<◌, length, take}
use Rattle.modular.specs.Inverses.{inverse, bad_exponent}
use Rattle.fibonacci.specs.declared.BitString.{BitString}
use Rattle.fibonacci.specs.Forms.{pad, ones}
use Rattle.fibonacci.specs.Services.{last_place, bit}
use Rattle.tape.specs.Words.{number_limit}
use Rattle.named.specs.declared.Figure.{Figure}
use Rattle.named.specs.Generators.{Forms}
use Rattle.named.specs.Named.{forms_for}
use Rattle.program.specs.declared.FormRows.{FormRows}

-- numbers that build's tests of r and k let pass, with the inverse of k
pub record Invertible (r k K : ℕ) : Type 0 where
  pub order : r < number_limit
  pub exponent : bad_exponent k r ≡ false
  pub inverse_is : K ≡ inverse r k

abbrev pub bits_of : List Bool → List ℕ
bits_of bs = map bit (pad last_place bs)

-- a form as a bit string of n places
abbrev pub string_of : ℕ → List Bool → BitString
string_of n form = record { bits = bits_of form; length = n; count = ones form }

-- a first and a last form with nothing beside them
abbrev pub lone_rows : Figure → BitString → BitString → FormRows
lone_rows figure first last =
    record {
      figure = figure;
      first = first;
      beside = string_of first.length [];
      last = last;
      beside_last = string_of last.length [];
    }

-- the rows of forms
abbrev pub rows_of : Forms → FormRows
rows_of f =
    record {
      figure = f.figure;
      first = string_of (length f.first) f.first;
      beside = string_of (length f.first) f.beside;
      last = string_of (length f.last) f.last;
      beside_last = string_of (length f.last) f.beside_last;
    }

-- the bits of a string, as many as it is long
abbrev pub bits_in : BitString → List ℕ
bits_in string = take string.length string.bits

-- how many places are set in all
abbrev pub set_in : FormRows → ℕ
set_in rows = rows.first.count + rows.beside.count + rows.last.count + rows.beside_last.count

-- as many places and as many that are set as the forms of a named program have at most, and as many places of two forms side by side
pub record Whole (rows : FormRows) : Type 0 where
  pub first_most : rows.first.length ≤ last_place
  pub last_most : rows.last.length ≤ last_place
  pub first_same : length (bits_in rows.first) ≡ length (bits_in rows.beside)
  pub last_same : length (bits_in rows.last) ≡ length (bits_in rows.beside_last)
  pub set_most : set_in rows ≤ 4 * last_place

-- the rows of the forms that the table gives
pub record RowsFromTable (variant r k : ℕ) (rows : FormRows) : Type 0 where
  pub forms : Forms
  pub forms_are : forms_for variant r k ≡ forms ∷ []
  pub rows_are : rows ≡ rows_of forms
