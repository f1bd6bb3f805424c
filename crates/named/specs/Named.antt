-- The named programs: the table of variants, of which each picks the forms that its programs are drawn from.
use Rattle.std.specs.Prelude.{Bool, cond, List, [], ◌∷◌, map, ℕ, suc, ◌*◌, ◌%◌, leb, eqb, length, get_or}
use Rattle.text.specs.Text.{ascii}
use Rattle.modular.specs.Inverses.{inverse}
use Rattle.fibonacci.specs.Fibonacci.{fib}
use Rattle.fibonacci.specs.Forms.{pad, zeckendorf}
use Rattle.fibonacci.specs.Height.{height, odd_height}
use Rattle.tape.specs.declared.Step.{Step}
use Rattle.tape.specs.Layout.{Program, program_words}
use Rattle.named.specs.declared.Figure.TheVariants.{Two, Four, Six}
use Rattle.named.specs.Generators.{Forms, lone, generated}

-- ---- the forms of each variant, for r and k

-- basic: the Zeckendorf forms of k and K at their own lengths
unfoldable pub basic_forms : ℕ → ℕ → Forms
basic_forms r k = lone Two (zeckendorf k) (zeckendorf (inverse r k))

-- one of dual's four forms, of k × F_i modulo r, padded to h
abbrev pub dual_form : ℕ → ℕ → ℕ → List Bool
dual_form r k i = pad (height r) (zeckendorf (k * fib i % r))

-- dual: s and t from F_h and F_(h+1) with k, s' and t' with K
unfoldable pub dual_forms : ℕ → ℕ → Forms
dual_forms r k =
    record {
      figure = Four;
      first = dual_form r k (height r);
      beside = dual_form r k (suc (height r));
      last = dual_form r (inverse r k) (height r);
      beside_last = dual_form r (inverse r k) (suc (height r));
    }

-- hybrid: v = k × F_(ℓ'+1), not reduced; the form of K padded to ℓ'
unfoldable pub hybrid_forms : ℕ → ℕ → Forms
hybrid_forms r k = lone Six (zeckendorf (k * fib (suc (odd_height r)))) (pad (odd_height r) (zeckendorf (inverse r k)))

-- ---- the table of variants

-- a variant's number, its name, and the forms of the programs that it allows for r and k, of which build draws the first
pub record Variant : Type 0 where
  pub number : ℕ
  pub name : List ℕ
  pub forms : ℕ → ℕ → List Forms

-- numbered from 1; 0 is a free program, which nothing generates
abbrev pub variants : List Variant
variants =
    record { number = 1; name = ascii "basic"; forms = λ (r k : ℕ). basic_forms r k ∷ [] }
    ∷ record { number = 2; name = ascii "dual"; forms = λ (r k : ℕ). dual_forms r k ∷ [] }
    ∷ record { number = 3; name = ascii "hybrid"; forms = λ (r k : ℕ). hybrid_forms r k ∷ [] }
    ∷ []

abbrev pub last_variant : ℕ
last_variant = length variants

-- the variants' names, by their numbers
abbrev pub variant_names : List (List ℕ)
variant_names = ascii "free" ∷ map (λ (row : Variant). row.name) variants

abbrev pub variant_name : ℕ → List ℕ
variant_name variant = get_or variant_names variant []

-- how many bytes the longest of some names has
abbrev pub longest : List (List ℕ) → ℕ
longest [] = 0
longest (name ∷ names) = cond (leb (length name) (longest names)) (longest names) (length name)

-- the forms that a table gives for a variant's number, r and k; none for a number that it doesn't have
unfoldable pub forms_in : List Variant → ℕ → ℕ → ℕ → List Forms
forms_in [] variant r k = []
forms_in (row ∷ rows) variant r k = cond (eqb variant row.number) (row.forms r k) (forms_in rows variant r k)

abbrev pub forms_for : ℕ → ℕ → ℕ → List Forms
forms_for variant r k = forms_in variants variant r k

-- ---- the programs

-- those allowed for a variant, r and k: today exactly one
abbrev pub programs_for : ℕ → ℕ → ℕ → List (List Step)
programs_for variant r k = map generated (forms_for variant r k)

-- the steps of a named program, which build writes: the first that is allowed; none where the number names no variant
unfoldable pub named_steps : ℕ → ℕ → ℕ → List Step
named_steps variant r k = get_or (programs_for variant r k) 0 []

abbrev pub named_program : ℕ → ℕ → ℕ → ℕ → Program
named_program p r k variant =
    record { variant = variant; modulus = p; order = r; exponent = k; steps = named_steps variant r k }

-- the words of a named program
abbrev pub named_words : ℕ → ℕ → ℕ → ℕ → List ℕ
named_words p r k variant = program_words (named_program p r k variant)
