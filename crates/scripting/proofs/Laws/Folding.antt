-- Lines done one after another print what the script is: each begins in the state that the one before it left.
use mathlib.Core.Path.{◌≡◌, refl, sym, ap, ◌∙◌}
use mathlib.Core.List.{List, ◌++◌}
use Prim.Native.Nat.{ℕ, ◌≤◌}
use native.Mathlib.Omega.{arith}
use lib.ListN.{take, length-take}
use lib.Seq.{take-take}
use Rattle.scripting.specs.declared.Marks.{Marks}
use Rattle.scripting.specs.declared.Printed.{Printed}
use Rattle.scripting.specs.Script.{Done, line_done, script_from}
use Rattle.scripting.specs.States.{state_in, Inside, inside_of, DidLine, Runs, no_lines, one_line}
use Rattle.scripting.proofs.Laws.Used.{marks_kept}

module _ (m : Marks) (capacity : ℕ) (row : List ℕ) (inside : Inside m (take capacity row)) where
  within : m.end ≤ capacity
  within = omega (arith, inside.end, length-take capacity row)

  state_kept : state_in (inside_of m capacity) row ≡ state_in m (take capacity row)
  state_kept = ap (λ (k : Marks). state_in k row) (marks_kept m capacity inside.begin within inside.room) ∙ ap (λ (l : List ℕ). record { tapes = l; begin = m.begin; room = (state_in m row).room }) (sym (take-take m.end capacity row within))

-- the next line begins in the state that this one left
next_state : (capacity : ℕ) (row : List ℕ) {done : Done} {text text' : List ℕ} {r : Printed} → DidLine done text r (take capacity row) text' → state_in (inside_of r.marks capacity) row ≡ done.state
next_state capacity row {r = r} did = state_kept r.marks capacity row did.inside ∙ did.state

pub runs_fold : (capacity : ℕ) {lines : List (List ℕ)} {m : Marks} {row printed : List ℕ} → Runs capacity lines m row printed
    → printed ≡ script_from capacity lines (state_in (inside_of m capacity) row)
unfolding script_from
runs_fold capacity no_lines = refl
runs_fold capacity (one_line {line} {lines} {m} {r} {row} {row'} did more) =
    ap (λ (l : List ℕ). (line_done capacity line (state_in (inside_of m capacity) row)).text ++ l)
    (runs_fold capacity more ∙ ap (script_from capacity lines) (next_state capacity row' did))
