-- A step on four of anything that can be added and subtracted: on exponents, on residues, where a sum is a product, and on rows of exponents.
-- What is said of it once holds of each: a step and its opposite undo each other where differences undo sums, and what keeps sums and
-- differences keeps steps.
use mathlib.Core.Path.{◌≡◌, refl, sym, ap, ◌∙◌}
use mathlib.Core.List.{List, [], ◌∷◌, ◌++◌, map}
use Prim.Native.Nat.{ℕ, ◌<◌}
use lib.ListN.{length, get_or, set, length-set}
use lib.IntN.{ℤ, pos, ◌+ℤ◌, ◌-ℤ◌}
use Rattle.modular.specs.Residues.{times}
use Rattle.modular.specs.Inverses.{inverse}
use Rattle.tape.specs.declared.Step.{Step}
use Rattle.tape.specs.declared.Step.TheVariants.{Mul, Div, Swp}
use Rattle.tape.specs.Steps.{Sound, AllSound}
use Rattle.machine.specs.Machine.{apply, do_all, inverse_step, inverted}
use Rattle.machine.specs.Exponents.{shift, shift_all}
use Rattle.machine.proofs.Laws.Lists.{changed_back, exchange_twice, get_d_map, map_set}

module _ {A : Type 0} (default : A) (plus less : A → A → A) where
  unfoldable pub act : Step → List A → List A
  act (Mul t s) v = set v t (plus (get_or v t default) (get_or v s default))
  act (Div t s) v = set v t (less (get_or v t default) (get_or v s default))
  act (Swp t s) v = set (set v t (get_or v s default)) s (get_or v t default)

  unfoldable pub act_all : List Step → List A → List A
  act_all [] v = v
  act_all (x ∷ xs) v = act_all xs (act x v)

  pub length_act : (x : Step) (v : List A) → length (act x v) ≡ length v
  unfolding act
  length_act (Mul t s) v = simp length-set
  length_act (Div t s) v = simp length-set
  length_act (Swp t s) v = simp length-set

  pub length_act_all : (xs : List Step) (v : List A) → length (act_all xs v) ≡ length v
  unfolding act_all
  length_act_all [] v = refl
  length_act_all (x ∷ xs) v = length_act_all xs (act x v) ∙ length_act x v

  -- ---- back

  act_all_append : (xs ys : List Step) (v : List A) → act_all (xs ++ ys) v ≡ act_all ys (act_all xs v)
  unfolding act_all
  act_all_append [] ys v = refl
  act_all_append (x ∷ xs) ys v = act_all_append xs ys (act x v)

  -- a difference undoes a sum of two, and a sum a difference
  abbrev pub Undoes : A → A → Type 0
  Undoes a b = (less (plus a b) b ≡ a) × (plus (less a b) b ≡ a)

  pub act_inverse : (x : Step) (v : List A) → Sound x → length v ≡ 4
      → ((t s : ℕ) → t < 4 → s < 4 → Undoes (get_or v t default) (get_or v s default)) → act (inverse_step x) (act x v) ≡ v
  unfolding act inverse_step
  act_inverse (Mul t s) v a n undoes =
      changed_back default less v t s _ (rw n a.target_is_one) (λ e. a.differ (sym e)) (undoes t s a.target_is_one a.source_is_one).0
  act_inverse (Div t s) v a n undoes =
      changed_back default plus v t s _ (rw n a.target_is_one) (λ e. a.differ (sym e)) (undoes t s a.target_is_one a.source_is_one).1
  act_inverse (Swp t s) v a n undoes = exchange_twice default v t s (rw n a.0.target_is_one) (rw n a.0.source_is_one) a.0.differ

  -- steps and the steps taken back
  pub act_back : ((a b : A) → Undoes a b) → (xs : List Step) (v : List A) → AllSound xs → length v ≡ 4 → act_all (inverted xs) (act_all xs v) ≡ v
  unfolding act_all inverted
  act_back undoes [] v a n = refl
  act_back undoes (x ∷ xs) v a n =
      act_all_append (inverted xs) (inverse_step x ∷ []) (act_all xs (act x v))
      ∙ ap (act (inverse_step x)) (act_back undoes xs (act x v) a.1 (length_act x v ∙ n))
      ∙ act_inverse x v a.0 n (λ t s h k. undoes _ _)

-- ---- what keeps sums and differences

module _ {A B : Type 0} (default : A) (plus less : A → A → A) (default' : B) (plus' less' : B → B → B) (f : A → B)
    (keeps_plus : (a b : A) → f (plus a b) ≡ plus' (f a) (f b)) (keeps_less : (a b : A) → f (less a b) ≡ less' (f a) (f b)) where
  at : (v : List A) (i : ℕ) → length v ≡ 4 → i < 4 → f (get_or v i default) ≡ get_or (map f v) i default'
  at v i n h = sym (get_d_map f v i default default' (rw n h))

  map_act : (x : Step) (v : List A) → Sound x → length v ≡ 4 → map f (act default plus less x v) ≡ act default' plus' less' x (map f v)
  unfolding act
  map_act (Mul t s) v a n = simp (map_set, keeps_plus, at v t n a.target_is_one, at v s n a.source_is_one)
  map_act (Div t s) v a n = simp (map_set, keeps_less, at v t n a.target_is_one, at v s n a.source_is_one)
  map_act (Swp t s) v a n = simp (map_set, at v t n a.0.target_is_one, at v s n a.0.source_is_one)

  pub map_act_all : (xs : List Step) (v : List A) → AllSound xs → length v ≡ 4
      → map f (act_all default plus less xs v) ≡ act_all default' plus' less' xs (map f v)
  unfolding act_all
  map_act_all [] v a n = refl
  map_act_all (x ∷ xs) v a n =
      map_act_all xs (act default plus less x v) a.1 (length_act default plus less x v ∙ n)
      ∙ ap (act_all default' plus' less' xs) (map_act x v a.0 n)

-- ---- on exponents

pub shift_act : (x : Step) (z : List ℤ) → shift x z ≡ act (pos 0) ◌+ℤ◌ ◌-ℤ◌ x z
unfolding act shift
shift_act (Mul t s) z = refl
shift_act (Div t s) z = refl
shift_act (Swp t s) z = refl

pub shift_all_act : (xs : List Step) (z : List ℤ) → shift_all xs z ≡ act_all (pos 0) ◌+ℤ◌ ◌-ℤ◌ xs z
unfolding act_all shift_all
shift_all_act [] z = refl
shift_all_act (x ∷ xs) z = ap (shift_all xs) (shift_act x z) ∙ shift_all_act xs (act (pos 0) ◌+ℤ◌ ◌-ℤ◌ x z)

-- ---- on residues

module _ (p : ℕ) where
  -- a quotient
  abbrev pub quotient : ℕ → ℕ → ℕ
  quotient a b = times p a (inverse p b)

  pub apply_act : (x : Step) (v : List ℕ) → apply p x v ≡ act 0 (times p) quotient x v
  unfolding act apply
  apply_act (Mul t s) v = refl
  apply_act (Div t s) v = refl
  apply_act (Swp t s) v = refl

  pub do_all_act : (xs : List Step) (v : List ℕ) → do_all p xs v ≡ act_all 0 (times p) quotient xs v
  unfolding act_all do_all
  do_all_act [] v = refl
  do_all_act (x ∷ xs) v = ap (do_all p xs) (apply_act x v) ∙ do_all_act xs (act 0 (times p) quotient x v)
