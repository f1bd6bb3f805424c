-- Taking inverses is an automorphism of the residues modulo a prime: the inverse of a product is the product of the inverses. So a
-- step on the inverses makes the inverses of what the step makes of the registers, and a division needs no search for one. Where the
-- registers stand in a form whose product is that of the numbers, the steps on the forms make the forms of what they make of the numbers.
use Rattle.std.specs.Prelude.{◌≢◌}
use mathlib.Core.Path.{◌≡◌, refl, sym, ◌∙◌, ap, ap₂}
use mathlib.Core.Bool.{Bool, true, false, cond}
use mathlib.Core.List.{List, [], ◌∷◌, map}
use Prim.Native.Nat.{ℕ}
use native.Mathlib.Omega.{arith}
use lib.ListN.{length, get_or, set, get_or-map, length-set}
use Rattle.modular.specs.Primes.{Prime}
use Rattle.modular.specs.Residues.{Residue, times}
use Rattle.modular.specs.Inverses.{inverse}
use Rattle.modular.proofs.Laws.Inverses.{inverse_zero}
use Rattle.modular.proofs.Laws.Residues.{times_comm}
use Rattle.modular.proofs.Laws.Group.{residue_inverse, residue_times, div_mul, inverse_inverse, inverse_product}
use Rattle.tape.specs.declared.Step.{Step}
use Rattle.tape.specs.declared.Step.TheVariants.{Mul, Div, Swp}
use Rattle.tape.specs.Steps.{Sound, AllSound}
use Rattle.tape.specs.declared.Opcode.{Opcode}
use Rattle.tape.specs.declared.Opcode.TheVariants.{Mul as ByMul, Div as ByDiv, Swp as BySwp}
use Rattle.tape.specs.Inner.Operations.{step_by}
use Rattle.machine.specs.Machine.{reg, apply, do_all, Residues}
use Rattle.machine.specs.Inner.Carried.{inverses, apply_with, do_all_with, inverses_with}
use Rattle.machine.proofs.Laws.Lists.{four_first, map_set}
use Rattle.machine.proofs.Laws.Steps.{residues_apply}

pub reg_map : (f : ℕ → ℕ) → f 0 ≡ 0 → (v : List ℕ) (i : ℕ) → reg (map f v) i ≡ f (reg v i)
reg_map f none v i = ap (get_or (map f v) i) (sym none) ∙ get_or-map f v i 0

-- ---- with the product modulo p

module _ (p : ℕ) where
  inverse_at : (v : List ℕ) (i : ℕ) → reg (inverses p v) i ≡ inverse p (reg v i)
  inverse_at = reg_map (inverse p) (inverse_zero p)

  with_inverses : (x : Step) (v : List ℕ) → apply_with (times p) x v (inverses p v) ≡ apply p x v
  unfolding apply_with apply
  with_inverses (Mul t s) v = refl
  with_inverses (Div t s) v = ap (λ (n : ℕ). set v t (times p (reg v t) n)) (inverse_at v s)
  with_inverses (Swp t s) v = refl

  module _ (pr : Prime p) where
    -- the same step on the inverses, with the registers beside them
    inverses_with_lem : (x : Step) (v : List ℕ) → Sound x → Residues p v → apply_with (times p) x (inverses p v) v ≡ inverses p (apply p x v)
    unfolding apply_with apply
    inverses_with_lem (Mul t s) v a g =
        let rt = g.residue t a.target_is_one in
        let rs = g.residue s a.source_is_one in
        sym
        (map_set (inverse p) v t _
        ∙ ap (set (inverses p v) t) (inverse_product p pr _ _ rt rs ∙ sym (ap₂ (times p) (inverse_at v t) (inverse_at v s))))
    inverses_with_lem (Div t s) v a g =
        let rt = g.residue t a.target_is_one in
        let rs = g.residue s a.source_is_one in
        sym
        (map_set (inverse p) v t _
        ∙ ap (set (inverses p v) t)
        (inverse_product p pr _ _ rt (residue_inverse p pr _ rs) ∙ ap₂ (times p) (sym (inverse_at v t)) (inverse_inverse p pr _ rs)))
    inverses_with_lem (Swp t s) v a g =
        sym
        (map_set (inverse p) (set v t (reg v s)) s (reg v t)
        ∙ ap (λ (l : List ℕ). set l s (inverse p (reg v t))) (map_set (inverse p) v t (reg v s))
        ∙ ap₂ (λ (x y : ℕ). set (set (inverses p v) t y) s x) (sym (inverse_at v t)) (sym (inverse_at v s)))

    -- so registers that set out beside their inverses stay beside them
    pub do_with_inverses : (xs : List Step) (v : List ℕ) → AllSound xs → Residues p v → do_all_with (times p) xs v (inverses p v) ≡ do_all p xs v
    unfolding do_all_with do_all
    do_with_inverses [] v a g = refl
    do_with_inverses (x ∷ xs) v a g =
        ap₂ (do_all_with (times p) xs) (with_inverses x v) (inverses_with_lem x v a.0 g)
        ∙ do_with_inverses xs (apply p x v) a.1 (residues_apply p pr x v a.0 g)

    -- the inverse of a product, times one factor, is the inverse of the other
    module _ (x y : ℕ) (rx : Residue p x) (ry : Residue p y) where
      without_first : times p (inverse p (times p x y)) x ≡ inverse p y
      without_first =
          ap (λ (n : ℕ). times p n x) (inverse_product p pr x y rx ry ∙ times_comm p (inverse p x) (inverse p y))
          ∙ div_mul p pr (inverse p y) x (residue_inverse p pr y ry) rx

      without_second : times p (inverse p (times p x y)) y ≡ inverse p x
      without_second = ap (λ (n : ℕ). times p n y) (inverse_product p pr x y rx ry) ∙ div_mul p pr (inverse p x) y (residue_inverse p pr x rx) ry

    pub inverses_are : (v : List ℕ) → Residues p v → inverses_with (times p) (inverse p) v ≡ inverses p v
    unfolding inverses_with
    inverses_are v g =
        let ra = g.residue 0 (omega arith) in
        let rb = g.residue 1 (omega arith) in
        let rc = g.residue 2 (omega arith) in
        let rab = residue_times p pr _ _ ra rb in
        let rabc = residue_times p pr _ _ rab rc in
        let three = without_second _ _ rabc (g.residue 3 (omega arith)) in
        let two = ap (λ (n : ℕ). times p n (reg v 2)) three ∙ without_second _ _ rab rc in
        let a = ap (λ (n : ℕ). times p n (reg v 1)) two ∙ without_second _ _ ra rb in
        let b = ap (λ (n : ℕ). times p n (reg v 0)) two ∙ without_first _ _ ra rb in
        let c = ap (λ (n : ℕ). times p n (times p (reg v 0) (reg v 1))) three ∙ without_first _ _ rab rc in
        let d = without_first _ _ rabc (g.residue 3 (omega arith)) in
        cc (a, b, c, d, ap (inverses p) (four_first 0 v g.four))

-- ---- with the product of a form

module _ (f : ℕ → ℕ) (none : f 0 ≡ 0) (product form_product : ℕ → ℕ → ℕ) (same : (x y : ℕ) → form_product (f x) (f y) ≡ f (product x y)) where
  at : (v : List ℕ) (i : ℕ) → reg (map f v) i ≡ f (reg v i)
  at = reg_map f none

  form_with_lem : (x : Step) (v w : List ℕ) → apply_with form_product x (map f v) (map f w) ≡ map f (apply_with product x v w)
  unfolding apply_with
  form_with_lem (Mul t s) v w =
      ap (set (map f v) t) (ap₂ form_product (at v t) (at v s) ∙ same (reg v t) (reg v s)) ∙ sym (map_set f v t _)
  form_with_lem (Div t s) v w =
      ap (set (map f v) t) (ap₂ form_product (at v t) (at w s) ∙ same (reg v t) (reg w s)) ∙ sym (map_set f v t _)
  form_with_lem (Swp t s) v w =
      ap₂ (λ (x y : ℕ). set (set (map f v) t x) s y) (at v s) (at v t)
      ∙ sym (map_set f (set v t (reg v s)) s (reg v t) ∙ ap (λ (l : List ℕ). set l s (f (reg v t))) (map_set f v t (reg v s)))

  pub do_forms : (xs : List Step) (v w : List ℕ) → do_all_with form_product xs (map f v) (map f w) ≡ map f (do_all_with product xs v w)
  unfolding do_all_with
  do_forms [] v w = refl
  do_forms (x ∷ xs) v w = ap₂ (do_all_with form_product xs) (form_with_lem x v w) (form_with_lem x w v) ∙ do_forms xs _ _

  pub inverses_forms : (invert form_invert : ℕ → ℕ) (v : List ℕ)
      → ((x y : ℕ) → form_invert (f (product x y)) ≡ f (invert (product x y)))
      → inverses_with form_product form_invert (map f v) ≡ map f (inverses_with product invert v)
  unfolding inverses_with
  inverses_forms invert form_invert v inverted =
      let a = at v 0 in
      let b = at v 1 in
      let c = at v 2 in
      let d = at v 3 in
      let ab = ap₂ form_product a b ∙ same _ _ in
      let abc = ap₂ form_product ab c ∙ same _ _ in
      let all = ap form_invert (ap₂ form_product abc d ∙ same _ _) ∙ inverted _ _ in
      let three = ap₂ form_product all d ∙ same _ _ in
      let two = ap₂ form_product three c ∙ same _ _ in
      let first = ap₂ form_product two b ∙ same _ _ in
      let second = ap₂ form_product two a ∙ same _ _ in
      let third = ap₂ form_product three ab ∙ same _ _ in
      let fourth = ap₂ form_product all abc ∙ same _ _ in
      cc (first, second, third, fourth)

-- ---- a step whatever the product

pub length_with : (product : ℕ → ℕ → ℕ) (x : Step) (v w : List ℕ) → length (apply_with product x v w) ≡ length v
unfolding apply_with
length_with product (Mul t s) v w = length-set v t _
length_with product (Div t s) v w = length-set v t _
length_with product (Swp t s) v w = length-set (set v t (reg v s)) s _ ∙ length-set v t _

-- by its opcode

module _ (product : ℕ → ℕ → ℕ) (t s : ℕ) (v w : List ℕ) where
  pub factor_by : (o : Opcode) → o ≢ BySwp → (divides : Bool) → (divides ≡ true → o ≡ ByDiv) → (divides ≡ false → o ≢ ByDiv)
      → apply_with product (step_by o t s) v w ≡ set v t (product (reg v t) (cond divides (reg w s) (reg v s)))
  unfolding apply_with step_by
  factor_by ByMul apart true does other = let never = does refl in cc
  factor_by ByMul apart false does other = refl
  factor_by ByDiv apart true does other = refl
  factor_by ByDiv apart false does other = absurd (other refl refl)
  factor_by BySwp apart divides does other = absurd (apart refl)

  pub exchange_by : (o : Opcode) → o ≡ BySwp → apply_with product (step_by o t s) v w ≡ set (set v t (reg v s)) s (reg v t)
  unfolding apply_with step_by
  exchange_by o is = rw is
