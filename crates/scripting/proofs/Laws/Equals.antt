-- Lines byte by byte: where a blank, an equals sign and a blank first stand is found by looking at three bytes from each place on; an empty line, or
-- one that begins with #, is copied; and a line's arguments are its bytes one by one.
use mathlib.Core.Path.{◌≡◌, refl, sym, ap, ◌∙◌}
use mathlib.Core.Bool.{true, false, cond}
use mathlib.Core.List.{List, [], ◌∷◌}
use Prim.Native.Nat.{ℕ, suc, ◌+◌, ◌≤◌, ◌<◌}
use Prim.Native.Char.{code}
use native.Mathlib.Nat.{add-zero}
use native.Mathlib.Numerals.{add-one}
use native.Mathlib.Omega.{arith}
use lib.Dec.{eqb}
use lib.ListN.{length, get_or, take, drop, set, drop_of_length-le, length-drop, length-map, get_or-map}
use lib.Seq.{drop-cons, get_or-drop}
use borrow.Author.Tests.{eq-eqb, ne_eqb}
use Rattle.text.specs.Text.{blank}
use Rattle.text.specs.Rows.{Put}
use Rattle.text.proofs.Laws.Puts.{put_next}
use Rattle.scripting.specs.Script.{arguments_of, is_equals, equals_in, is_copied}

-- ---- an equals sign between blanks

short_of : (l : List ℕ) → length l < 3 → is_equals l ≡ false
short_of [] h = refl
short_of (a ∷ []) h = refl
short_of (a ∷ b ∷ []) h = refl
short_of (a ∷ b ∷ c ∷ l) h = absurd (omega arith)

no_first : (l : List ℕ) → ¬ (get_or l 0 0 ≡ blank) → is_equals l ≡ false
no_first [] h = refl
no_first (a ∷ []) h = refl
no_first (a ∷ b ∷ []) h = refl
no_first (a ∷ b ∷ c ∷ l) h = rw (ne_eqb a blank h)

no_second : (l : List ℕ) → get_or l 0 0 ≡ blank → ¬ (get_or l 1 0 ≡ code "=") → is_equals l ≡ false
no_second [] e h = refl
no_second (a ∷ []) e h = refl
no_second (a ∷ b ∷ []) e h = refl
no_second (a ∷ b ∷ c ∷ l) e h = rw (eq-eqb a blank e, ne_eqb b (code "=") h)

third : (l : List ℕ) → 3 ≤ length l → get_or l 0 0 ≡ blank → get_or l 1 0 ≡ code "=" → is_equals l ≡ eqb (get_or l 2 0) blank
third [] h e f = absurd (omega arith)
third (a ∷ []) h e f = absurd (omega arith)
third (a ∷ b ∷ []) h e f = absurd (omega arith)
third (a ∷ b ∷ c ∷ l) h e f = rw (eq-eqb a blank e, eq-eqb b (code "=") f)

module _ (line : List ℕ) (i : ℕ) where
  here : get_or (drop i line) 0 0 ≡ get_or line i 0
  here = get_or-drop i line 0 0 ∙ ap (λ (n : ℕ). get_or line n 0) (add-zero i)

  pub equals_short : length line < i + 3 → is_equals (drop i line) ≡ false
  equals_short h = short_of (drop i line) (omega (arith, length-drop i line))

  pub equals_first : ¬ (get_or line i 0 ≡ blank) → is_equals (drop i line) ≡ false
  equals_first h = no_first (drop i line) (λ e. h (sym here ∙ e))

  module _ (first : get_or line i 0 ≡ blank) where
    pub equals_second : ¬ (get_or line (i + 1) 0 ≡ code "=") → is_equals (drop i line) ≡ false
    equals_second h = no_second (drop i line) (here ∙ first) (λ e. h (sym (get_or-drop i line 1 0) ∙ e))

    pub equals_third : i + 3 ≤ length line → get_or line (i + 1) 0 ≡ code "=" → is_equals (drop i line) ≡ eqb (get_or line (i + 2) 0) blank
    equals_third h second =
        third (drop i line) (omega (arith, length-drop i line)) (here ∙ first) (get_or-drop i line 1 0 ∙ second)
        ∙ ap (λ (n : ℕ). eqb n blank) (get_or-drop i line 2 0)

  -- where it first stands
  module _ (inside : i < length line) where
    pub equals_here : is_equals (drop i line) ≡ true → equals_in (drop i line) ≡ 0
    unfolding equals_in
    equals_here e =
        let it = drop-cons line i 0 inside in
        ap equals_in it ∙ rw (rw it at e)

    pub equals_next : is_equals (drop i line) ≡ false → i + equals_in (drop i line) ≡ i + 1 + equals_in (drop (i + 1) line)
    unfolding equals_in
    equals_next e =
        let it = drop-cons line i 0 inside in
        let one : equals_in (drop i line) ≡ suc (equals_in (drop (suc i) line)) = ap equals_in it ∙ rw (rw it at e) in
        rw (one, add-one i) (omega arith)

  pub equals_nowhere : length line ≤ i → equals_in (drop i line) ≡ 0
  unfolding equals_in
  equals_nowhere h = ap equals_in (drop_of_length-le line {i = i} h)

-- ---- a copied line

pub copied_none : (line : List ℕ) → length line ≡ 0 → is_copied line ≡ true
copied_none [] h = refl
copied_none (b ∷ line) h = absurd (omega arith)

pub copied_by : (line : List ℕ) → 0 < length line → is_copied line ≡ eqb (get_or line 0 0) (code "#")
copied_by [] h = absurd (omega arith)
copied_by (b ∷ line) h = refl

-- ---- arguments

pub arguments_length : (line : List ℕ) → length (arguments_of line) ≡ length line
arguments_length line = simp length-map

-- the byte at i, behind those in front of it
pub arguments_next : {a b : List ℕ} {x : ℕ} (line : List ℕ) (i : ℕ) → i < length line → i < length b → x ≡ cond (eqb (get_or line i 0) blank) 0 (get_or line i 0)
    → Put a 0 (take i (arguments_of line)) i b → Put a 0 (take (i + 1) (arguments_of line)) (i + 1) (set b i x)
arguments_next line i h room e w =
    let byte : ℕ → ℕ = λ n. cond (eqb n blank) 0 n in
    rw (e, ← get_or-map byte line i 0) (put_next (arguments_of line) i (omega (arith, length-map line byte)) room w)
