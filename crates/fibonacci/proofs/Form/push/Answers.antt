-- `Form::push` meets its contract: the list is the front of the row, whose next entry is the place.
use Rattle.std.proofs.Common.{◌≡◌, ℕ, List, [], ◌∷◌, ◌++◌, ◌+◌, ◌<◌, ◌≤◌, take, set, length, sym, ◌∙◌, arith, rules, add-one, length-append, length-set, length-take-le}
use Rattle.std.proofs.Math.Seq.{take-suc-set, take_at}
use Rattle.std.proofs.lemmas.List.{take_all}
use Rattle.refusal.proofs.Laws.Zeros.{zeros_more}
use Rattle.fibonacci.proofs.Form.push.Goals as goal

module _ (row : List ℕ) (count place : ℕ) (size : length row ≡ 46) where
  pushed : count < 46 → take (count + 1) (set row count place) ≡ take 46 (take count row ++ place ∷ [])
  pushed room =
      let front : length (take count row) ≡ count = length-take-le count row (omega arith) in
      let fits : length (take count row ++ place ∷ []) ≤ 46 = omega (arith, length-append (take count row) (place ∷ [])) in
      rw (add-one, take-suc-set row count place (omega arith)) (sym (take_all _ _ fits))

  full : count ≤ 46 → 46 ≤ count → take count row ≡ take 46 (take count row ++ place ∷ [])
  full low high = sym (take_at (take count row) _ 46 (length-take-le count row (omega arith) ∙ omega arith))

pub invariant_of-self : goal.invariant_of-self
invariant_of-self c =
    let held = c.self.invariant in
    (omega (arith, c.if-self-lt-MAX_PLACES.true), length-set _ _ _ ∙ held.1, zeros_more _ _ _ held.2 _)

pub returns-then-self-lt-MAX_PLACES : goal.returns-then-self-lt-MAX_PLACES
returns-then-self-lt-MAX_PLACES c = rw (← c.self.view_is) (pushed _ _ _ (search rules) c.if-self-lt-MAX_PLACES.true)

pub returns-else-self-lt-MAX_PLACES : goal.returns-else-self-lt-MAX_PLACES
returns-else-self-lt-MAX_PLACES c = rw (← c.self.view_is) (full _ _ _ (search rules) c.self.invariant.0 c.if-self-lt-MAX_PLACES.false)
