-- The words of a row that are used: marks brought into the row stand there for the same state, so what is done to those words is done to the row. Marks
-- that stand in the row stay as they are.
use Rattle.std.specs.Prelude.{Option, Some, None, IfSome, option_map}
use mathlib.Core.Path.{◌≡◌, refl, ap, ◌∙◌}
use mathlib.Core.List.{List, ◌++◌}
use Prim.Native.Nat.{ℕ, min, ◌≤◌}
use native.Mathlib.Nat.{min-eq_left}
use native.Mathlib.Omega.{arith}
use lib.ListN.{length, take, drop, length-take}
use lib.Seq.{take-take, take_at, take_all, drop_at}
use Rattle.tool.specs.Verbs.{max_room}
use Rattle.scripting.specs.declared.Marks.{Marks}
use Rattle.scripting.specs.declared.Printed.{Printed}
use Rattle.scripting.specs.Script.{State, Done}
use Rattle.scripting.specs.States.{state_in, Inside, capacity_of, inside_of, DidWithin}

-- a room is held to the most, and one that is no larger stays as it is
room_most : (room : Option ℕ) → IfSome (option_map (λ (n : ℕ). min n max_room) room) (λ (n : ℕ). n ≤ max_room)
room_most None = tt
room_most (Some n) = omega arith

room_kept : (room : Option ℕ) → IfSome room (λ (n : ℕ). n ≤ max_room) → option_map (λ (n : ℕ). min n max_room) room ≡ room
room_kept None h = refl
room_kept (Some n) h = ap (λ (i : ℕ). Some i) (min-eq_left h)

-- marks in a row stay as they are
pub marks_kept : (m : Marks) (capacity : ℕ) → m.begin ≤ m.end → m.end ≤ capacity → IfSome m.room (λ n. n ≤ max_room) → inside_of m capacity ≡ m
unfolding inside_of
marks_kept m capacity begin end room = rw (min-eq_left end, min-eq_left begin, room_kept m.room room)

module _ (m : Marks) (row : List ℕ) where
  used : length (take (capacity_of row) row) ≡ capacity_of row
  used = length-take (capacity_of row) row ∙ omega arith

  inside_row : Inside (inside_of m (capacity_of row)) (take (capacity_of row) row)
  unfolding inside_of
  inside_row = record { size = omega (arith, used); begin = omega arith; end = omega (arith, used); room = room_most m.room }

  state_used : state_in (inside_of m (capacity_of row)) (take (capacity_of row) row) ≡ state_in (inside_of m (capacity_of row)) row
  unfolding inside_of
  state_used = rw (take-take (min m.end (capacity_of row)) (capacity_of row) row (omega arith))

  -- a part of the row, and the marks in it
  module _ {n : ℕ} {k : Marks} (part : n ≡ capacity_of row) (marks : k ≡ inside_of m n) where
    pub inside_used : Inside k (take n row)
    inside_used = rw (marks, part) inside_row

    pub did_used : {most : ℕ} {before after row' : List ℕ} {r : Printed} (does : ℕ → State → Done) → length row' ≡ length (take n row)
        → DidWithin most (does (length (take n row)) (state_in k (take n row))) before r row' after
        → DidWithin most (does (capacity_of row) (state_in (inside_of m (capacity_of row)) row)) before r (take (capacity_of row) (row' ++ drop n row)) after
        × (drop (capacity_of row) (row' ++ drop n row) ≡ drop (capacity_of row) row)
    did_used {row' = row'} does same did =
        let size : length row' ≡ capacity_of row = same ∙ ap (λ (i : ℕ). length (take i row)) part ∙ used in (
          rw (take_at row' (drop n row) (capacity_of row) size, ← state_used) (rw used at (rw (marks, part) at did)),
          drop_at row' (drop n row) (capacity_of row) size ∙ ap (λ (i : ℕ). drop i row) part,
        )

-- what is done to a row of any length with any marks is done to one that is no longer than is used, with marks in it
pub did_kept : {most : ℕ} {m : Marks} {row row' before after : List ℕ} {r : Printed} (does : ℕ → State → Done) → Inside m row → length row' ≡ length row
    → DidWithin most (does (capacity_of row) (state_in (inside_of m (capacity_of row)) row)) before r (take (capacity_of row) row') after
    → DidWithin most (does (length row) (state_in m row)) before r row' after
did_kept {m = m} {row} {row'} does inside same did =
    let size : capacity_of row ≡ length row = min-eq_left inside.size in
    rw (take_all (length row) row' (omega arith)) at (rw (marks_kept m (length row) inside.begin inside.end inside.room) at (rw size at did))
