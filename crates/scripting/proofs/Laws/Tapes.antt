-- Another tape at hand, in the row that holds it: its words stand behind those of the tapes in front, and its marks end past them.
use mathlib.Core.Path.{◌≡◌, sym, ap, ◌∙◌}
use mathlib.Core.List.{List, [], ◌∷◌, ◌++◌, append_assoc}
use Prim.Native.Nat.{ℕ, zero, suc, ◌+◌, ◌-◌, ◌≤◌, ◌<◌}
use native.Mathlib.Omega.{arith}
use lib.ListN.{length, get_or, take, drop, set, length-append, take-append-drop}
use lib.Seq.{sets-eq, take-take, take_at, take-add, take-set-le, take-set-lt, drop-set-add, length-take-le}
use borrow.Author.Tests.{le-leb, lt-leb}
use Rattle.refusal.specs.Rows.{Wrote}
use Rattle.text.specs.Text.{ascii, decimal, newline, number_line}
use Rattle.text.specs.Rows.{Put}
use Rattle.text.proofs.Laws.Decimal.{decimal_32}
use Rattle.text.proofs.Laws.Puts.{puts_join}
use Rattle.text.proofs.Laws.Lines.{numbers_most}
use Rattle.scripting.specs.declared.Marks.{Marks}
use Rattle.scripting.specs.declared.Printed.{Printed}
use Rattle.scripting.specs.Script.{State, prints, full_line, with_tape, edited, max_commanded}
use Rattle.scripting.specs.States.{room_in, state_in, Inside, DidWithin, Did}

-- marks with another end
abbrev pub ended : Marks → ℕ → Marks
ended m end = record { begin = m.begin; end = end; room = m.room }

-- the state of such marks
abbrev leaves : Marks → List ℕ → State
leaves m tapes = record { tapes = tapes; begin = m.begin; room = room_in m }

-- a number on a line
one_small : (n : ℕ) → n < 4294967296 → (i : ℕ) → get_or (n ∷ []) i 0 < 4294967296
one_small n h zero = h
one_small n h (suc i) = omega arith

pub number_short : (n : ℕ) → n < 4294967296 → length (number_line n) ≤ max_commanded
number_short n h = omega (arith, numbers_most (n ∷ []) (one_small n h))

-- what changes nothing
pub did_print : {m : Marks} {row before after : List ℕ} {r : Printed} {most : ℕ} (text : List ℕ) → Inside m row → r.marks ≡ m
    → Put before 0 text r.length after → length text ≤ most → DidWithin most (prints (state_in m row) text) before r row after
did_print {row = row} text inside marks put short =
    record { state = ap (λ (k : Marks). state_in k row) marks; inside = rw marks inside; printed = put; short = short }

-- a row of tapes that is full
pub full_line_lem : {a b c d : List ℕ} {at m n end : ℕ} (capacity : ℕ) → Put a at (ascii "fibexp: a row of tapes has at most ") m b
    → Put b m (decimal capacity) n c → Put c n (ascii " words" ++ newline ∷ []) end d → Put a at (full_line capacity) end d
unfolding full_line
full_line_lem capacity v w x =
    rw (append_assoc (ascii "fibexp: a row of tapes has at most " ++ decimal capacity) (ascii " words") (newline ∷ [])) (puts_join (puts_join v w) x)

full_short : (capacity : ℕ) → capacity < 4294967296 → length (full_line capacity) ≤ max_commanded
unfolding full_line
full_short capacity h =
    simp length-append (omega (arith, decimal_32 capacity h))

module _ {m : Marks} {row : List ℕ} (inside : Inside m row) (tape : List ℕ) where
  front : take m.begin (take m.end row) ≡ take m.begin row
  front = take-take m.begin m.end row inside.begin

  size : length (take m.begin row ++ tape) ≡ m.begin + length tape
  size = length-append (take m.begin row) tape ∙ ap (λ (n : ℕ). n + length tape) (length-take-le m.begin row (omega (arith, inside.begin, inside.end)))

  tape_left : (text : List ℕ) → m.begin + length tape ≤ length row
      → with_tape (length row) (state_in m row) tape text ≡ prints (leaves m (take m.begin row ++ tape)) text
  unfolding with_tape
  tape_left text h = rw (front, le-leb (length (take m.begin row ++ tape)) (length row) (omega (arith, size)))

  tape_full : (text : List ℕ) → length row < m.begin + length tape
      → with_tape (length row) (state_in m row) tape text ≡ prints (state_in m row) (full_line (length row))
  unfolding with_tape
  tape_full text h = rw (front, lt-leb (length (take m.begin row ++ tape)) (length row) (omega (arith, size)))

  -- there is no room for it
  pub did_full : {before after : List ℕ} {r : Printed} (text : List ℕ) → length row < m.begin + length tape → r.marks ≡ m
      → Put before 0 (full_line (length row)) r.length after → Did (with_tape (length row) (state_in m row) tape text) before r row after
  did_full text h marks put =
      rw (tape_full text h) (did_print (full_line (length row)) inside marks put (full_short (length row) (omega (arith, inside.size))))

  module _ {before after row' : List ℕ} {r : Printed} (end : ℕ) (end_is : end ≡ m.begin + length tape) (fits : end ≤ length row)
      (same : length row' ≡ length row) (words : take end row' ≡ take m.begin row ++ tape) where
    -- it is left in the row
    pub did_tape : (text : List ℕ) → r.marks ≡ ended m end → Put before 0 text r.length after → length text ≤ max_commanded
        → Did (with_tape (length row) (state_in m row) tape text) before r row' after
    did_tape text marks put short =
        rw (tape_left text (omega arith))
        (record {
          state = ap (λ (k : Marks). state_in k row') marks ∙ ap (leaves m) words;
          inside = rw marks (record { size = omega (arith, inside.size); begin = omega arith; end = omega arith; room = inside.room });
          printed = put;
          short = short;
        })

    -- and the count of its words is printed
    pub did_edited : {k : Marks} → k ≡ ended m end → (r.marks ≡ k) × Put before 0 (number_line (k.end - k.begin)) r.length after
        → Did (edited (length row) (state_in m row) tape) before r row' after
    did_edited {k} marks p =
        let count : k.end - k.begin ≡ length tape = omega (arith, ap (λ (x : Marks). x.end) marks, ap (λ (x : Marks). x.begin) marks) in
        did_tape (number_line (length tape)) (p.0 ∙ marks) (rw count at p.1) (number_short (length tape) (omega (arith, inside.size)))

-- ---- what the row then begins with

-- words written behind the first ones
pub wrote_behind : {a b : List ℕ} {at n : ℕ} {words : List ℕ} → Wrote a at words n b → at + length words ≤ length a → take n b ≡ take at a ++ words
wrote_behind {a} {b} {at} {n} {words} w h =
    ap (take n) (w.after_is ∙ sets-eq words a at h)
    ∙ take_at (take at a ++ words) _ n (length-append (take at a) words ∙ omega (arith, w.next_is, length-take-le at a (omega arith)))

module _ (row : List ℕ) (begin : ℕ) where
  -- the words of a tape up to `at`, and others behind them
  pub words_behind : (at : ℕ) (words : List ℕ) → begin ≤ at → take at row ++ words ≡ take begin row ++ (drop begin (take at row) ++ words)
  words_behind at words h =
      ap (λ (l : List ℕ). l ++ words) (sym (take-append-drop begin (take at row)) ∙ ap (λ (l : List ℕ). l ++ drop begin (take at row)) (take-take begin at row h))
      ∙ append_assoc (take begin row) (drop begin (take at row)) words

  -- a tape of which one word is another
  pub word_changed : (end i x : ℕ) → begin + i < end → take end (set row (begin + i) x) ≡ take begin row ++ set (drop begin (take end row)) i x
  word_changed end i x h =
      take-set-lt end row (begin + i) x h
      ∙ sym (take-append-drop begin (set (take end row) (begin + i) x))
      ∙ rw (take-set-le begin (take end row) (begin + i) x (omega arith), drop-set-add begin (take end row) i x, take-take begin end row (omega arith))

  -- a tape without its last words
  pub words_dropped : (end n : ℕ) → begin + n ≤ end → take (begin + n) row ≡ take begin row ++ take n (drop begin (take end row))
  words_dropped end n h =
      sym (take-take (begin + n) end row h)
      ∙ take-add begin n (take end row)
      ∙ ap (λ (l : List ℕ). l ++ take n (drop begin (take end row))) (take-take begin end row (omega arith))
