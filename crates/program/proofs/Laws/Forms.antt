-- The rows of bits that the code holds are a named program's forms, since the numbers are the program's and fit their widths; and the
-- forms fit the rows, since r is below 2^28.
use mathlib.Core.Path.{◌≡◌, refl, sym, ap, ap₂, ◌∙◌}
use mathlib.Core.Bool.{Bool, true, false, cond}
use mathlib.Core.List.{List, [], ◌∷◌, map}
use Prim.Native.Nat.{ℕ, min, zero, suc, ◌+◌, ◌*◌, ◌-◌, ◌%◌, ◌≤◌, ◌<◌, ◌^◌}
use native.Mathlib.Nat.{mod-lt}
use native.Mathlib.Omega.{arith}
use lib.ListN.{length, take, length-map, length-take}
use Rattle.modular.specs.Residues.{remainder}
use Rattle.modular.specs.Inverses.{inverse}
use Rattle.modular.proofs.Laws.Residues.{remainder_is}
use Rattle.modular.proofs.Laws.Inverses.{good_exponent_lem, inverse_order}
use Rattle.fibonacci.specs.declared.BitString.{BitString}
use Rattle.fibonacci.specs.Fibonacci.{fib, odd}
use Rattle.fibonacci.specs.Forms.{pad, zeckendorf, ones}
use Rattle.fibonacci.specs.Height.{height, odd_height}
use Rattle.fibonacci.specs.Services.{fibonacci_or_zero, bit, bit_row, places_of}
use Rattle.fibonacci.proofs.Laws.Fibonacci.{fib_monotone, odd_one, odd_zero, fibonacci_below_94}
use Rattle.fibonacci.proofs.Laws.Forms.{pad_length, ones_pad, ones_places}
use Rattle.fibonacci.proofs.Laws.BitStrings.{take_bits}
use Rattle.fibonacci.proofs.Laws.Height.{zeckendorf_height, height_28, height_le_odd, odd_height_is, odd_height_28}
use Rattle.fibonacci.proofs.Laws.Lengths.{multiple_64}
use Rattle.tape.specs.Words.{step_word}
use Rattle.named.specs.declared.Figure.TheVariants.{Two, Four}
use Rattle.named.specs.Generators.{Forms, lone, generated, steps_from}
use Rattle.named.specs.Promises.{FormsFit}
use Rattle.named.specs.Named.{basic_forms, dual_form, dual_forms, hybrid_forms, forms_in}
use Rattle.named.proofs.Laws.Lengths.{generated_count}
use Rattle.program.specs.declared.FormRows.{FormRows}
use Rattle.program.specs.Inner.Forms.{Invertible, bits_of, string_of, rows_of, set_in, Whole, RowsFromTable}
use Rattle.program.specs.Inner.Writing.{drawn_words}
use Rattle.program.proofs.Laws.Writing.{drawn_words_lem}

-- ---- the bit string of a form

-- what `bit_string` answers for n
abbrev pub Answers : ℕ → BitString → Type 0
Answers n b = (b.length ≡ length (zeckendorf n)) × ((b.bits ≡ bit_row n) × (b.count ≡ length (places_of n)))

pad_pad : (m n : ℕ) (bs : List Bool) → m ≤ n → pad n (pad m bs) ≡ pad n bs
unfolding pad
pad_pad zero n bs h = refl
pad_pad (suc m) zero bs h = absurd (omega arith)
pad_pad (suc m) (suc n) [] h = ap (λ (l : List Bool). false ∷ l) (pad_pad m n [] (omega arith))
pad_pad (suc m) (suc n) (b ∷ bs) h = ap (λ (l : List Bool). b ∷ l) (pad_pad m n bs (omega arith))

-- a bit string by its parts
same_string : {bits : List ℕ} {m n count : ℕ} (form : List Bool) → bits ≡ bits_of form → m ≡ n → count ≡ ones form
    → record { bits = bits; length = m; count = count } ≡ string_of n form
same_string form e f g = cc (e, f, g)

pub own_string : (n : ℕ) {m : ℕ} {b : BitString} → m ≡ n → Answers m b → b ≡ string_of (length (zeckendorf n)) (zeckendorf n)
own_string n e a =
    rw e at (same_string (zeckendorf _) a.1.0 a.0 (a.1.1 ∙ ones_places 1 (zeckendorf _)))

-- and given another length
pub string_padded : (n size : ℕ) {m : ℕ} {b : BitString} → m ≡ n → Answers m b
    → record { bits = b.bits; length = size; count = b.count } ≡ string_of size (zeckendorf n)
string_padded n size e a = rw e at (same_string {m = size} (zeckendorf _) a.1.0 refl (a.1.1 ∙ ones_places 1 (zeckendorf _)))

padded_same : (n m : ℕ) → m ≤ 92 → string_of m (zeckendorf n) ≡ string_of m (pad m (zeckendorf n))
padded_same n m high =
    let bits : bits_of (zeckendorf n) ≡ bits_of (pad m (zeckendorf n)) = ap (map bit) (sym (pad_pad m 92 (zeckendorf n) high)) in
    cc (bits, ones_pad m (zeckendorf n))

padded : (n m : ℕ) → m ≤ 92 → length (zeckendorf n) ≤ m → string_of m (zeckendorf n) ≡ string_of (length (pad m (zeckendorf n))) (pad m (zeckendorf n))
padded n m high low = padded_same n m high ∙ ap (λ (size : ℕ). string_of size (pad m (zeckendorf n))) (sym (pad_length m (zeckendorf n) low))

-- ---- the words of forms in rows

pad_same : (bs : List Bool) → pad (length bs) bs ≡ bs
unfolding pad
pad_same [] = refl
pad_same (b ∷ bs) = ap (λ (l : List Bool). b ∷ l) (pad_same bs)

own_bits : (bs : List Bool) → length bs ≤ 92 → take (length bs) (bits_of bs) ≡ map bit bs
own_bits bs h = take_bits (length bs) 92 bs h (omega arith) ∙ ap (map bit) (pad_same bs)

bits_length : (bs : List Bool) → length bs ≤ 92 → length (bits_of bs) ≡ 92
bits_length bs h = length-map (pad 92 bs) bit ∙ pad_length 92 bs h

ones_most : (bs : List Bool) → ones bs ≤ length bs
unfolding ones
ones_most [] = omega arith
ones_most (true ∷ bs) = omega (arith, ones_most bs)
ones_most (false ∷ bs) = omega (arith, ones_most bs)

module _ (f : Forms) (fits : FormsFit f) where
  pub rows_words : drawn_words (rows_of f) ≡ map step_word (generated f)
  rows_words =
      rw (own_bits f.first fits.first, take_bits (length f.first) 92 f.beside fits.first fits.beside)
      (rw (own_bits f.last fits.last, take_bits (length f.last) 92 f.beside_last fits.last fits.beside_last)
      (drawn_words_lem f.figure f.first f.beside f.last f.beside_last fits.alone fits.alone_last))

  pub rows_whole : Whole (rows_of f)
  rows_whole = record {
    first_most = fits.first;
    last_most = fits.last;
    first_same =
        length-take (length f.first) (bits_of f.first)
        ∙ ap (min (length f.first)) (bits_length f.first fits.first ∙ sym (bits_length f.beside (omega (arith, fits.first, fits.beside))))
        ∙ sym (length-take (length f.first) (bits_of f.beside));
    last_same =
        length-take (length f.last) (bits_of f.last)
        ∙ ap (min (length f.last)) (bits_length f.last fits.last ∙ sym (bits_length f.beside_last (omega (arith, fits.last, fits.beside_last))))
        ∙ sym (length-take (length f.last) (bits_of f.beside_last));
    set_most =
        omega (
          arith,
          ones_most f.first,
          ones_most f.beside,
          ones_most f.last,
          ones_most f.beside_last,
          fits.first,
          fits.beside,
          fits.last,
          fits.beside_last,
        );
  }

-- ---- the numbers

pub weight_fits : {i f : ℕ} → i ≤ 42 → f ≡ fibonacci_or_zero i → f < 2 ^ 32
unfolding fib
weight_fits {i} h e = omega (arith, fibonacci_below_94 e (omega arith), fib_monotone {m = i} {n = 42} h)

-- ℓ' as the code computes it
odd_height_lem : (r : ℕ) {h : ℕ} → h ≡ height r → h + 1 - h % 2 ≡ odd_height r
odd_height_lem r e = rw (e, odd_height_is r) (go (odd (height r)) refl)
  where
    go : (t : Bool) → odd (height r) ≡ t → height r + 1 - height r % 2 ≡ cond t (height r) (suc (height r))
    go true o = omega (arith, odd_one (height r) o)
    go false o = omega (arith, odd_zero (height r) o)

module _ {r k K : ℕ} (b : Invertible r k K) where
  exponent_below : k < r
  exponent_below = (good_exponent_lem k r b.exponent).high

  inverse_below : K < r
  inverse_below = rw b.inverse_is (inverse_order k r b.exponent).high

  pub height_small : {h : ℕ} → h ≡ height r → h ≤ 41
  height_small e = omega (arith, height_28 r b.order)

  -- variant 2: the form of x × F_i modulo r
  pub product_form : {h i f : ℕ} (x z j : ℕ) → h ≡ height r → i ≤ 93 → i ≡ j → x ≡ z → f ≡ fibonacci_or_zero i
      → string_of h (zeckendorf (remainder (x * f) r)) ≡ string_of (height r) (dual_form r z j)
  product_form {f = f} x z j e low same from w =
      let some : 0 < r = omega (arith, exponent_below) in
      let n_is : remainder (x * f) r ≡ z * fib j % r =
      remainder_is (x * f) r some ∙ ap₂ (λ (m n : ℕ). m * n % r) from (fibonacci_below_94 w low ∙ ap fib same) in
      rw (n_is, e) (padded_same (z * fib j % r) (height r) (omega (arith, height_28 r b.order)))

  dual_length : (z j : ℕ) → length (dual_form r z j) ≡ height r
  dual_length z j =
      pad_length (height r) (zeckendorf (z * fib j % r)) (zeckendorf_height r (z * fib j % r) (mod-lt (z * fib j) (omega (arith, exponent_below))))

  pub dual_rows : {s t s' t' : BitString}
      → s ≡ string_of (height r) (dual_form r k (height r)) → t ≡ string_of (height r) (dual_form r k (suc (height r)))
      → s' ≡ string_of (height r) (dual_form r (inverse r k) (height r)) → t' ≡ string_of (height r) (dual_form r (inverse r k) (suc (height r)))
      → record { figure = Four; first = s; beside = t; last = s'; beside_last = t' } ≡ rows_of (dual_forms r k)
  unfolding dual_forms
  dual_rows s t s' t' = cc (s, t, s', t', dual_length k (height r), dual_length (inverse r k) (height r))

  -- variant 3
  multiple_is : {h x f : ℕ} → x ≡ k → h ≡ height r → f ≡ fibonacci_or_zero (h + 1 - h % 2 + 1) → x * f ≡ k * fib (suc (odd_height r))
  multiple_is from e w = ap₂ (λ (m n : ℕ). m * n) from (fibonacci_below_94 w (omega (arith, height_small e)) ∙ ap fib (omega (arith, odd_height_lem r e)))

  pub multiple_fits : {h x f : ℕ} → x ≡ k → h ≡ height r → f ≡ fibonacci_or_zero (h + 1 - h % 2 + 1) → x * f < 2 ^ 64
  multiple_fits from e w = rw (multiple_is from e w) (omega (arith, multiple_64 r k b.order exponent_below))

  pub multiple_string : {h x f : ℕ} {v : BitString} → x ≡ k → h ≡ height r → f ≡ fibonacci_or_zero (h + 1 - h % 2 + 1) → Answers (x * f) v
      → v ≡ string_of (length (zeckendorf (k * fib (suc (odd_height r))))) (zeckendorf (k * fib (suc (odd_height r))))
  multiple_string from e w a = own_string (k * fib (suc (odd_height r))) (multiple_is from e w) a

  pub inverse_string : {h : ℕ} → h ≡ height r
      → string_of (h + 1 - h % 2) (zeckendorf K) ≡ string_of (length (pad (odd_height r) (zeckendorf (inverse r k)))) (pad (odd_height r) (zeckendorf (inverse r k)))
  inverse_string e =
      rw (odd_height_lem r e, ← b.inverse_is)
      (padded K (odd_height r) (omega (arith, odd_height_28 r b.order)) (omega (arith, zeckendorf_height r K inverse_below, height_le_odd r)))

-- ---- from the rows of a variant's forms to those that the table gives

module _ (variant r k : ℕ) {rows : FormRows} where
  pub given_basic : {K : ℕ} → K ≡ inverse r k → variant ≡ 1 → rows ≡ rows_of (lone Two (zeckendorf k) (zeckendorf K)) → RowsFromTable variant r k rows
  unfolding forms_in basic_forms
  given_basic inverse_is is e = record {
    forms = basic_forms r k;
    forms_are = rw is refl;
    rows_are = e ∙ ap (λ (n : ℕ). rows_of (lone Two (zeckendorf k) (zeckendorf n))) inverse_is;
  }

  pub given_dual : variant ≡ 2 → rows ≡ rows_of (dual_forms r k) → RowsFromTable variant r k rows
  unfolding forms_in
  given_dual is e = record { forms = dual_forms r k; forms_are = rw is refl; rows_are = e }

  pub given_hybrid : variant ≡ 3 → rows ≡ rows_of (hybrid_forms r k) → RowsFromTable variant r k rows
  unfolding forms_in
  given_hybrid is e = record { forms = hybrid_forms r k; forms_are = rw is refl; rows_are = e }

-- ---- how many steps they give

pub rows_count : (f : Forms) → FormsFit f → steps_from f.figure (length f.first) (length f.last) (set_in (rows_of f)) ≡ length (generated f)
rows_count f fits = sym (generated_count f fits)
