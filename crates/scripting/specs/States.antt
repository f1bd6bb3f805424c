-- The state of a script as the code holds it: a row of words, and marks in it; for contracts.
use Rattle.std.specs.Prelude.{◌≡◌, List, [], ◌∷◌, ◌++◌, ℕ, min, ◌≤◌, length, take, IfSome, option_map, option_to_list, Result, Ok, Err}
use Rattle.refusal.specs.declared.Refusal.{Refusal}
use Rattle.text.specs.Rows.{Put}
use Rattle.tool.specs.Verbs.{max_room}
use Rattle.scripting.specs.declared.Marks.{Marks}
use Rattle.scripting.specs.declared.Printed.{Printed}
use Rattle.scripting.specs.Script.{State, Done, line_done, max_tapes, max_printed, max_commanded}

abbrev pub room_in : Marks → List ℕ
room_in m = option_to_list m.room

-- the state that marks in a row stand for, where they stand in it
abbrev pub state_in : Marks → List ℕ → State
state_in m row = record { tapes = take m.end row; begin = m.begin; room = room_in m }

pub record Inside (m : Marks) (row : List ℕ) : Type 0 where
  pub size : length row ≤ max_tapes
  pub begin : m.begin ≤ m.end
  pub end : m.end ≤ length row
  pub room : IfSome m.room (λ n. n ≤ max_room)

-- how many words of a row are used
abbrev pub capacity_of : List ℕ → ℕ
capacity_of row = min (length row) max_tapes

-- marks brought into a row
unfoldable pub inside_of : Marks → ℕ → Marks
inside_of m capacity =
    let end = min m.end capacity in
    record { begin = min m.begin end; end = end; room = option_map (λ n. min n max_room) m.room }

-- the words that an answer counts
abbrev pub count_in : Result ℕ Refusal → ℕ
count_in (Ok n) = n
count_in (Err e) = 0

-- what a line did: the state that the code left, and what it printed, which is never too long. Where the row of the text is shorter, what
-- doesn't fit is dropped.
pub record DidWithin (most : ℕ) (done : Done) (text : List ℕ) (r : Printed) (row' text' : List ℕ) : Type 0 where
  pub state : state_in r.marks row' ≡ done.state
  pub inside : Inside r.marks row'
  pub printed : Put text 0 done.text r.length text'
  pub short : length done.text ≤ most

-- a command, and any line
abbrev pub Did : Done → List ℕ → Printed → List ℕ → List ℕ → Type 0
Did = DidWithin max_commanded

abbrev pub DidLine : Done → List ℕ → Printed → List ℕ → List ℕ → Type 0
DidLine = DidWithin max_printed

-- Lines done one after another, each as the contract of a line says, on the marks and the row that those before it left: the lines, the
-- marks and the row at first, and what all of them print.
pub data Runs (capacity : ℕ) : List (List ℕ) → Marks → List ℕ → List ℕ → Type 0 where
  no_lines : {m : Marks} {row : List ℕ} → Runs capacity [] m row []
  one_line : {line : List ℕ} {lines : List (List ℕ)} {m : Marks} {r : Printed} {row row' text text' printed : List ℕ}
      → DidLine (line_done capacity line (state_in (inside_of m capacity) row)) text r (take capacity row') text' → Runs capacity lines r.marks row' printed
      → Runs capacity (line ∷ lines) m row ((line_done capacity line (state_in (inside_of m capacity) row)).text ++ printed)
