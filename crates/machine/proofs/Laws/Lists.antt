-- Laws of lists for registers as for exponents: two places exchanged twice are as they were, since writes to different places
-- commute; and reading and writing go through a function on the entries.
use mathlib.Core.Path.{◌≡◌, refl, sym, ◌∙◌, ap}
use mathlib.Core.Logic.{◌≢◌}
use mathlib.Core.List.{List, [], ◌∷◌, map}
use Prim.Native.Nat.{ℕ, zero, suc, ◌<◌}
use native.Mathlib.Nat.{not-suc-le-zero, le_of_suc-le-suc}
use native.Mathlib.Omega.{arith}
use lib.ListN.{length, get_or, set, take, drop, length-set}
use lib.Seq.{slice, set-set, set_comm, set-get_or, get_or-set_same, get_or-set_other}

-- ---- four entries

-- a fact of every four entries holds of a list of four
pub of_four : {A : Type 0} (P : List A → Type 0) → ((a b c d : A) → P (a ∷ b ∷ c ∷ d ∷ [])) → (v : List A) → length v ≡ 4 → P v
of_four P h [] n = absurd (omega arith)
of_four P h (a ∷ []) n = absurd (omega arith)
of_four P h (a ∷ b ∷ []) n = absurd (omega arith)
of_four P h (a ∷ b ∷ c ∷ []) n = absurd (omega arith)
of_four P h (a ∷ b ∷ c ∷ d ∷ []) n = h a b c d
of_four P h (a ∷ b ∷ c ∷ d ∷ e ∷ v) n = absurd (omega arith)

-- they are the first four
pub four_first : {A : Type 0} (d : A) (v : List A) → length v ≡ 4 → get_or v 0 d ∷ get_or v 1 d ∷ get_or v 2 d ∷ get_or v 3 d ∷ [] ≡ v
four_first d = of_four (λ v. get_or v 0 d ∷ get_or v 1 d ∷ get_or v 2 d ∷ get_or v 3 d ∷ [] ≡ v) (λ x y z w. refl)

-- ---- an entry changed and changed back

-- x is stored at t; f of it and of another entry is what stood there before
pub changed_back : {A : Type 0} (d : A) (f : A → A → A) (v : List A) (t s : ℕ) (x : A) → t < length v → s ≢ t → f x (get_or v s d) ≡ get_or v t d
    → set (set v t x) t (f (get_or (set v t x) t d) (get_or (set v t x) s d)) ≡ v
changed_back d f v t s x inside ne e = simp (get_or-set_same, get_or-set_other, set-set, e, set-get_or)

-- ---- two places exchanged

module _ {A : Type 0} (d : A) where
  abbrev pub exchange : List A → ℕ → ℕ → List A
  exchange v t s = set (set v t (get_or v s d)) s (get_or v t d)

  written_twice : (v : List A) (t s : ℕ) (a b : A) → t ≢ s → get_or v t d ≡ a → get_or v s d ≡ b → set (set (set (set v t b) s a) t a) s b ≡ v
  written_twice v t s a b ne ea eb =
      ap (λ (l : List A). set (set l t a) s b) (set_comm v t s b a ne)
      ∙ ap (λ (l : List A). set l s b) (set-set (set v s a) t b a ∙ sym (set_comm v t s a a ne))
      ∙ set-set (set v t a) s a b
      ∙ ap (λ (x : A). set (set v t x) s b) (sym ea)
      ∙ ap (λ (l : List A). set l s b) (set-get_or v t d)
      ∙ ap (λ (x : A). set v s x) (sym eb)
      ∙ set-get_or v s d

  pub exchange_twice : (v : List A) (t s : ℕ) → t < length v → s < length v → t ≢ s → exchange (exchange v t s) t s ≡ v
  exchange_twice v t s ht hs ne =
      let ks : s < length (set v t (get_or v s d)) = rw (length-set v t (get_or v s d)) hs in
      let es : get_or (exchange v t s) s d ≡ get_or v t d = get_or-set_same (set v t (get_or v s d)) s (get_or v t d) d ks in
      let et : get_or (exchange v t s) t d ≡ get_or v s d =
      get_or-set_other (set v t (get_or v s d)) s t (get_or v t d) d ne ∙ get_or-set_same v t (get_or v s d) d ht in
      rw (es, et) (written_twice v t s (get_or v t d) (get_or v s d) ne refl refl)

-- ---- a list read and written through a function

module _ {A B : Type 0} (f : A → B) where
  pub get_d_map : (l : List A) (i : ℕ) (d : A) (e : B) → i < length l → get_or (map f l) i e ≡ f (get_or l i d)
  get_d_map [] i d e h = absurd (not-suc-le-zero h)
  get_d_map (x ∷ xs) zero d e h = refl
  get_d_map (x ∷ xs) (suc i) d e h = get_d_map xs i d e (le_of_suc-le-suc h)

  pub map_set : (l : List A) (i : ℕ) (y : A) → map f (set l i y) ≡ set (map f l) i (f y)
  map_set [] i y = refl
  map_set (x ∷ xs) zero y = refl
  map_set (x ∷ xs) (suc i) y = ap (λ (l : List B). f x ∷ l) (map_set xs i y)

  map_take : (n : ℕ) (v : List A) → map f (take n v) ≡ take n (map f v)
  map_take zero v = refl
  map_take (suc n) [] = refl
  map_take (suc n) (x ∷ v) = ap (λ (l : List B). f x ∷ l) (map_take n v)

  map_drop : (n : ℕ) (v : List A) → map f (drop n v) ≡ drop n (map f v)
  map_drop zero v = refl
  map_drop (suc n) [] = refl
  map_drop (suc n) (x ∷ v) = map_drop n v

  pub map_slice : (i j : ℕ) (v : List A) → map f (slice i j v) ≡ slice i j (map f v)
  map_slice i j v = map_drop i (take j v) ∙ ap (drop i) (map_take j v)
