-- `room` meets its contract: no parameter is no room, and the first one is the room, held to the most.
use Rattle.std.proofs.Common.{◌≡◌, ℕ, List, [], ◌∷◌, None, slice_get, length, get_or, min, refl, sym, ap, ◌∙◌, arith, rules}
use Rattle.std.proofs.lemmas.Option.{slice_get_within, get_or_from_slice_get}
use Rattle.tool.specs.Verbs.{max_room}
use Rattle.tool.specs.Inner.Held.{held_to}
use Rattle.tool.proofs.Laws.Held.{held_length, held_at}
use Rattle.scripting.proofs.Laws.Edits.{did_unroom, did_room}
use Rattle.putting.proofs.Laws.Buffers.{puts_fresh}
use Rattle.edits.proofs.room.Goals as goal

empty : (values : List ℕ) → None ≡ slice_get values 0 → length values ≡ 0
empty [] e = refl
empty (n ∷ values) e = cc

pub returns-in_default : goal.returns-in_default
returns-in_default c =
    let values = c.args.values.now in
    did_unroom c.requires (held_to max_room values) (held_length max_room values ∙ empty values (rw c.in_default.is at c.first.ensures.value)) refl c.put.ensures

pub returns : goal.returns
returns c =
    let values = c.args.values.now in
    let is = sym c.in-Some.ensures.value in
    let held : c.min-room.result ≡ get_or (held_to max_room values) 0 0 =
    c.min-room.ensures ∙ ap (λ (n : ℕ). min n max_room) (sym (get_or_from_slice_get values 0 c.in-Some.first.now 0 is)) ∙ sym (held_at max_room values 0) in
    let line = rw held at (puts_fresh c.new-line.ensures c.number_line.ensures.put) in
    did_room c.requires (held_to max_room values) (omega (arith, held_length max_room values, slice_get_within values 0 c.in-Some.first.now is))
    (omega (arith, held_at max_room values 0)) (rw held) (search rules)
