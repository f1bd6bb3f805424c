-- The tape at hand as a part of the row, and what build does by the room.
use Rattle.std.specs.Prelude.{Option, Some, None, option_to_list}
use mathlib.Core.Path.{◌≡◌, sym, ap}
use mathlib.Core.List.{List}
use Prim.Native.Nat.{ℕ, min, ◌-◌, ◌≤◌}
use native.Mathlib.Nat.{min-eq_left}
use native.Mathlib.Omega.{arith}
use lib.ListN.{length, take, drop, length-take}
use lib.Seq.{take_all}
use Rattle.tape.proofs.Laws.Rows.{slice_from}
use Rattle.tool.specs.Verbs.{max_room}
use Rattle.scripting.specs.declared.Marks.{Marks}
use Rattle.scripting.specs.Script.{State, at_hand, build_line, build_in, build_by, list_in}
use Rattle.scripting.specs.States.{room_in, state_in, Inside, capacity_of}

-- the tape at hand is the part between the marks
pub at_hand_lem : (m : Marks) (row : List ℕ) → take (m.end - m.begin) (drop m.begin row) ≡ at_hand (state_in m row)
unfolding at_hand
at_hand_lem m row = sym (slice_from m.begin m.end row)

-- it is no longer than what is used of a tape, and a room no larger than the most
pub list_whole : {m : Marks} {row : List ℕ} (room : ℕ) → Inside m row → room ≤ max_room
    → let tape = take (m.end - m.begin) (drop m.begin row) in
    list_in (min room max_room) (take (capacity_of tape) tape) ≡ list_in room (at_hand (state_in m row))
list_whole {m} {row} room inside most =
    let tape = take (m.end - m.begin) (drop m.begin row) in
    let few : length tape ≤ capacity_of tape = omega (arith, inside.size, inside.end, length-take (m.end - m.begin) (drop m.begin row)) in
    rw (min-eq_left most, take_all (capacity_of tape) tape few, at_hand_lem m row)

-- ---- the room

module _ (capacity own : ℕ) (v : List ℕ) (m : Marks) (s : State) where
  pub build_free : m.room ≡ None → build_by capacity (room_in m) own v s ≡ build_line capacity own v s
  build_free e = ap (λ (room : Option ℕ). build_by capacity (option_to_list room) own v s) e

  pub build_room : {room : ℕ} → m.room ≡ Some room → build_by capacity (room_in m) own v s ≡ build_in capacity room own v s
  build_room e = ap (λ (room : Option ℕ). build_by capacity (option_to_list room) own v s) e
