-- Registers carried with their inverses, so that a division has its inverse at hand. The product is a parameter: it is the one modulo p,
-- or that of the forms in which the registers stand. proofs/Laws/Carried says what this has to do with `apply` and `do_all`.
use Rattle.std.specs.Prelude.{Bool, cond, List, [], ◌∷◌, map, ℕ, set}
use Rattle.modular.specs.Inverses.{inverse}
use Rattle.tape.specs.declared.Step.{Step}
use Rattle.tape.specs.declared.Step.TheVariants.{Mul, Div, Swp}
use Rattle.machine.specs.Machine.{reg, inverted}

-- the first four of some values
abbrev pub first_four : List ℕ → List ℕ
first_four v = reg v 0 ∷ reg v 1 ∷ reg v 2 ∷ reg v 3 ∷ []

-- the inverses of registers v modulo p
abbrev pub inverses : ℕ → List ℕ → List ℕ
inverses p v = map (inverse p) v

-- a step on registers v beside w: a division multiplies by w's source
unfoldable pub apply_with : (ℕ → ℕ → ℕ) → Step → List ℕ → List ℕ → List ℕ
apply_with product (Mul t s) v w = set v t (product (reg v t) (reg v s))
apply_with product (Div t s) v w = set v t (product (reg v t) (reg w s))
apply_with product (Swp t s) v w = set (set v t (reg v s)) s (reg v t)

-- the steps of a list, each on v beside w and on w beside v
unfoldable pub do_all_with : (ℕ → ℕ → ℕ) → List Step → List ℕ → List ℕ → List ℕ
do_all_with product [] v w = v
do_all_with product (x ∷ xs) v w = do_all_with product xs (apply_with product x v w) (apply_with product x w v)

-- steps in their order, or inverted from the last
abbrev pub directed_steps : Bool → List Step → List Step
directed_steps undone xs = cond undone (inverted xs) xs

-- the inverses of four registers, by the inverse of their product and products
unfoldable pub inverses_with : (ℕ → ℕ → ℕ) → (ℕ → ℕ) → List ℕ → List ℕ
inverses_with product invert v =
    let cd : ℕ = product (reg v 0) (reg v 1) in
    let cde : ℕ = product cd (reg v 2) in
    let of_all : ℕ = invert (product cde (reg v 3)) in
    let of_cde : ℕ = product of_all (reg v 3) in
    let of_cd : ℕ = product of_cde (reg v 2) in
    product of_cd (reg v 1) ∷ product of_cd (reg v 0) ∷ product of_cde cd ∷ product of_all cde ∷ []
