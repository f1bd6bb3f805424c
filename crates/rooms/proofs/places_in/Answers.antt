-- `places_in` meets its contract: the part of the buffer that is lent is a buffer of the room.
use Rattle.std.specs.Prelude.{unwrap_or}
use Rattle.std.proofs.Common.{◌≡◌, ℕ, Option, min, get_or, ap, ◌∙◌, arith}
use Rattle.std.proofs.lemmas.Option.{unwrap_or-slice_get}
use Rattle.tool.specs.Verbs.{max_room}
use Rattle.scripting.specs.Script.{filled}
use Rattle.scripting.proofs.Laws.Rooms.{filled_part, put_places_in}
use Rattle.rooms.proofs.places_in.Goals as goal

pub returns : goal.returns
returns c =
    let held = c.min-held.ensures in
    let n : c.unwrap_or-n.result ≡ get_or c.args.values.now 0 0 =
    c.unwrap_or-n.ensures ∙ ap (λ (o : Option ℕ). unwrap_or o 0) (c.copied.ensures ∙ c.first.ensures.value) ∙ unwrap_or-slice_get c.args.values.now 0 0 in
    let both = put_places_in (min c.args.room max_room) c.args.own _ c.args.values.now _ (filled_part max_room c.min-held.result (omega (arith, held)) ∙ ap filled held) n (c.places_into.ensures.put, c.places_into.ensures.short) in
    record { put = both.0; short = both.1 }
