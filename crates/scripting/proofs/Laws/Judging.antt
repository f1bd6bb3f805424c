-- A line by what it is: each kind of line is a case of the definition.
use mathlib.Core.Path.{◌≡◌, ap, ◌∙◌}
use mathlib.Core.Bool.{true, false}
use mathlib.Core.List.{List, [], ◌∷◌, ◌++◌}
use Prim.Native.Nat.{ℕ, ◌≤◌, ◌<◌, ◌+◌}
use native.Mathlib.Omega.{arith}
use lib.ListN.{length, take, drop, length-append}
use borrow.Author.Tests.{lt-ltb, le-ltb}
use Rattle.text.specs.Text.{newline}
use Rattle.text.specs.Reading.{split_words}
use Rattle.text.specs.Rows.{Put}
use Rattle.text.proofs.Laws.Puts.{put_taken}
use Rattle.tool.specs.Calls.{asked_by}
use Rattle.scripting.specs.declared.Marks.{Marks}
use Rattle.scripting.specs.declared.Printed.{Printed}
use Rattle.scripting.specs.Script.{State, Done, prints, commanded, arguments_of, command_done, equals_in, is_copied, verdict, judged, max_line, long_line, max_printed, line_done}
use Rattle.scripting.specs.States.{state_in, Did, DidLine}
use Rattle.scripting.proofs.Laws.Verdicts.{verdict_short}

-- a command line is its arguments
pub did_command : {before row after : List ℕ} {r : Printed} (capacity : ℕ) (line : List ℕ) (s : State) {arguments : List ℕ} → arguments ≡ arguments_of line
    → Did (commanded capacity (asked_by true (split_words arguments)) s) before r row after → Did (command_done capacity line s) before r row after
unfolding command_done
did_command capacity line s e did = rw e at did

-- what a command printed, and the verdict on it
pub did_judged : {space space' before after row : List ℕ} {made r : Printed} (done : Done) (said : List ℕ) → Did done space made row space'
    → length space ≡ max_printed → length said ≤ max_line → r.marks ≡ made.marks
    → Put before 0 (take made.length space' ++ verdict (take made.length space') said) r.length after → DidLine (judged done said) before r row after
did_judged {space} {row = row} {made} done said did size few marks put =
    let text = put_taken did.printed (omega (arith, did.short)) in
    record {
      state = ap (λ (m : Marks). state_in m row) marks ∙ did.state;
      inside = rw marks did.inside;
      printed = rw text at put;
      short = rw (length-append done.text (verdict done.text said)) (omega (arith, did.short, verdict_short done.text said));
    }

-- more room for a text
pub did_line : {done : Done} {before row after : List ℕ} {r : Printed} → Did done before r row after → DidLine done before r row after
did_line did = record { state = did.state; inside = did.inside; printed = did.printed; short = omega (arith, did.short) }

-- ---- the kinds of a line

module _ (capacity : ℕ) (line : List ℕ) (s : State) where
  pub line_long : max_line < length line → line_done capacity line s ≡ prints s long_line
  unfolding line_done
  line_long h = rw (lt-ltb max_line (length line) h)

  module _ (few : length line ≤ max_line) where
    pub line_copied : is_copied line ≡ true → line_done capacity line s ≡ prints s (line ++ newline ∷ [])
    unfolding line_done
    line_copied e = rw (le-ltb max_line (length line) few, e)

    module _ (other : is_copied line ≡ false) where
      pub line_judged : equals_in line < length line
          → line_done capacity line s ≡ judged (command_done capacity (take (equals_in line) line) s) (drop (equals_in line + 3) line)
      unfolding line_done
      line_judged h = rw (le-ltb max_line (length line) few, other, lt-ltb (equals_in line) (length line) h)

      pub line_command : length line ≤ equals_in line → line_done capacity line s ≡ command_done capacity line s
      unfolding line_done
      line_command h = rw (le-ltb max_line (length line) few, other, le-ltb (equals_in line) (length line) h)
