-- `inverses` meets its contract: its products are those of the definition.
use mathlib.Core.Path.{◌≡◌, ap}
use mathlib.Core.List.{List, [], ◌∷◌}
use Prim.Native.Nat.{ℕ}
use Rattle.machine.specs.Machine.{reg}
use Rattle.machine.specs.Inner.Carried.{first_four, inverses_with}
use Rattle.register_forms.proofs.inverses.Goals as goal

module _ (product : ℕ → ℕ → ℕ) (invert : ℕ → ℕ) (v : List ℕ) {a b c d ab abc abcd all three two i j k l : ℕ} where
  by_products : a ≡ reg v 0 → b ≡ reg v 1 → c ≡ reg v 2 → d ≡ reg v 3 → ab ≡ product a b → abc ≡ product ab c → abcd ≡ product abc d
      → all ≡ invert abcd → three ≡ product all d → two ≡ product three c → i ≡ product two b → j ≡ product two a → k ≡ product three ab
      → l ≡ product all abc → i ∷ j ∷ k ∷ l ∷ [] ≡ inverses_with product invert v
  unfolding inverses_with
  by_products ea eb ec ed eab eabc eabcd eall ethree etwo ei ej ek el =
      rw (ei, ej, ek, el, etwo, ethree, eall, eabcd, eabc, eab, ea, eb, ec, ed)

pub returns : goal.returns
returns c =
    let at : (i : ℕ) → reg c.first_four.result i ≡ reg (first_four c.args.forms.now) i = λ i. ap (λ (l : List ℕ). reg l i) c.first_four.ensures in
    by_products _ _ _ (at 0) (at 1) (at 2) (at 3)
    c.multiply-cd.ensures c.multiply-cde.ensures c.multiply.ensures c.invert-inverse_of_all.ensures c.multiply-inverse_of_cde.ensures
    c.multiply-inverse_of_cd.ensures c.multiply-2.ensures c.multiply-3.ensures c.multiply-4.ensures c.multiply-5.ensures
