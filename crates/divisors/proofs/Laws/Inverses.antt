-- One list has the inverses of another, as one test computes: each entry passes it, in turn.
use mathlib.Core.Path.{◌≡◌, refl, ap}
use mathlib.Core.Bool.{Bool, true, false, ◌&&◌, false≢true}
use mathlib.Core.List.{List, [], ◌∷◌}
use Prim.Native.Nat.{ℕ, zero, suc, ◌*◌, ◌%◌, ◌<◌}
use native.Mathlib.Omega.{arith}
use lib.Dec.{eqb, leb}
use lib.ListN.{length, get_or}
use borrow.Author.Tests.{eqb-true, leb-true}
use Rattle.divisors.specs.Small.{limit}
use Rattle.divisors.specs.Inner.Inverted.{half_word, HalfWordInverse, Inverses}
use Rattle.refusal.proofs.Laws.Tests.{both}

-- the lists are as long as each other, and at each place has the one a number from 2 to 2^14, and the other its inverse
unfoldable pub are_inverses : List ℕ → List ℕ → Bool
are_inverses [] [] = true
are_inverses [] (x ∷ xs) = false
are_inverses (d ∷ ds) [] = false
are_inverses (d ∷ ds) (x ∷ xs) = leb 2 d && leb d limit && eqb (d * x % half_word) 1 && are_inverses ds xs

pub inverses : (ds xs : List ℕ) → are_inverses ds xs ≡ true → Inverses ds xs
unfolding are_inverses
inverses [] [] t = record { same = refl; each = λ j inside. absurd (omega arith) }
inverses [] (x ∷ xs) t = absurd (false≢true t)
inverses (d ∷ ds) [] t = absurd (false≢true t)
inverses (d ∷ ds) (x ∷ xs) t =
    let tests : (leb 2 d && leb d limit && eqb (d * x % half_word) 1 ≡ true) × (are_inverses ds xs ≡ true) = both _ _ t in
    let rest : Inverses ds xs = inverses ds xs tests.1 in
    let first : (leb 2 d && leb d limit ≡ true) × (eqb (d * x % half_word) 1 ≡ true) = both _ _ tests.0 in
    let ends : (leb 2 d ≡ true) × (leb d limit ≡ true) = both _ _ first.0 in
    let here : HalfWordInverse d x =
    record { low = leb-true 2 d ends.0; high = leb-true d limit ends.1; one = eqb-true (d * x % half_word) 1 first.1 } in
    record { same = ap suc rest.same; each = each here rest.each }
  where
    each : HalfWordInverse d x → ((j : ℕ) → j < length ds → HalfWordInverse (get_or ds j 0) (get_or xs j 0)) → (j : ℕ) → j < length (d ∷ ds) → HalfWordInverse (get_or (d ∷ ds) j 0) (get_or (x ∷ xs) j 0)
    each here rest zero inside = here
    each here rest (suc j) inside = rest j (omega arith)
