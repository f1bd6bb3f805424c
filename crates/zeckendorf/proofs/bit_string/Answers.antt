-- `bit_string` meets its contract: the loop sets the bits of the places of n, lowest first (Laws/BitStrings).
use Rattle.std.proofs.Common.{◌≡◌, ◌-◌, ◌<◌, List, [], ◌∷◌, ◌++◌, ℕ, length, get_or, reverse, ap, ◌∙◌, arith}
use Rattle.std.proofs.lemmas.List.{length_push, length-reverse, get_or-reverse}
use Rattle.std.proofs.lemmas.Grind.{get_or_default_zero}
use Rattle.std.proofs.lemmas.Iterator.Adapters.{YieldsList-from_rev_slice}
use Rattle.std.proofs.lemmas.Iterator.Consumers.{YieldsList-turn, YieldsList-end}
use Rattle.fibonacci.specs.Services.{places_of}
use Rattle.fibonacci.proofs.Laws.BitStrings.{setting_starts, setting_place, setting_next, setting_ends}
use Rattle.zeckendorf.proofs.bit_string.Goals as goal
use Rattle.zeckendorf.proofs.bit_string.Goals.{In-Some}

pub loop-place-init : goal.loop-place-init
loop-place-init c = setting_starts _ _ (omega arith) (omega arith)

from_end : (xs : List ℕ) (k p : ℕ) → (k < length (reverse xs)) × (p ≡ get_or (reverse xs) k p) → (0 < length xs - k) × (p ≡ get_or xs (length xs - k - 1) 0)
from_end xs k p t =
    let inside : k < length xs = omega (arith, t.0, length-reverse xs) in
    let same : length xs - 1 - k ≡ length xs - k - 1 = omega arith in (
      omega arith,
      t.1 ∙ get_or-reverse xs k p inside ∙ ap (λ i. get_or xs i p) same ∙ get_or_default_zero xs _ p (omega arith),
    )

-- the place of a turn is that of the list at the same distance from its end
item : (c : In-Some) → c.places.result.now ≡ places_of c.args.n
    → let k = length c.loop-place.yielded in
    (0 < length (places_of c.args.n) - k) × (c.in-Some.place.now ≡ get_or (places_of c.args.n) (length (places_of c.args.n) - k - 1) 0)
item c listed =
    from_end (places_of c.args.n) _ _
    (YieldsList-turn (YieldsList-from_rev_slice (places_of c.args.n) cc) c.loop-place.yielded _ c.loop-place.yielded_by _ c.next.new.self _ c.in-Some.is c.next.ensures.steps)

pub overflow_sub-bits : goal.overflow_sub-bits
overflow_sub-bits c =
    let at = item (goal.at.overflow_sub-bits c).In-Some (c.places.ensures ∙ c.zeckendorf-form.ensures) in omega (arith, setting_place c.loop-place.invariant at.0 at.1)

pub bounds-bits-length : goal.bounds-bits-length
bounds-bits-length c =
    let at = item (goal.at.bounds-bits-length c).In-Some (c.places.ensures ∙ c.zeckendorf-form.ensures) in omega (arith, setting_place c.loop-place.invariant at.0 at.1)

pub loop-place-preserved : goal.loop-place-preserved
loop-place-preserved c =
    let at = item (goal.at.loop-place-preserved c).In-Some (c.places.ensures ∙ c.zeckendorf-form.ensures) in
    let next : length (places_of c.args.n) - length (c.loop-place.yielded ++ c.in-Some.place ∷ []) ≡ length (places_of c.args.n) - length c.loop-place.yielded - 1 = omega (arith, length_push c.loop-place.yielded c.in-Some.place) in
    rw next (setting_next c.loop-place.invariant at.0 at.1)

pub returns : goal.returns
returns c =
    let end = YieldsList-end (YieldsList-from_rev_slice (places_of c.args.n) cc) c.loop-place.yielded _ c.loop-place.yielded_by _ c.next.new.self c.in-None.is c.next.ensures.steps in
    let e = setting_ends c.loop-place.invariant (omega (arith, end.1, length-reverse (places_of c.args.n))) in
    record { length_value = e.0; bits_value = e.1; count_value = ap length (c.places-2.ensures ∙ c.zeckendorf-form.ensures) }
