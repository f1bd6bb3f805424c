-- What each verb of a script does to the row and its marks: the tape it leaves is the definition's, word by word.
use mathlib.Core.Path.{◌≡◌, refl, sym, ap, ◌∙◌}
use mathlib.Core.List.{List, [], ◌∷◌, ◌++◌}
use Prim.Native.Nat.{ℕ, ◌+◌, ◌-◌, ◌≤◌, ◌<◌}
use native.Mathlib.Omega.{arith}
use lib.ListN.{length, get_or, take, drop, set, length-append, length-take, length-drop, length-set, drop_of_length-le}
use lib.Seq.{length-take-le}
use borrow.Author.Tests.{lt-ltb, le-ltb}
use Rattle.refusal.specs.Rows.{Wrote}
use Rattle.refusal.proofs.Laws.Rows.{wrote_length}
use Rattle.std.specs.Prelude.{Some, None}
use Rattle.text.specs.Text.{number_line, newline, line}
use Rattle.text.specs.Rows.{Put}
use Rattle.tool.specs.Verbs.{max_room}
use Rattle.tool.specs.declared.ScriptVerb.TheVariants.{Tape, Append, Change, Drop, Behind, Room}
use Rattle.scripting.specs.declared.Marks.{Marks}
use Rattle.scripting.specs.declared.Printed.{Printed}
use Rattle.scripting.specs.Script.{prints, at_hand, full_line, no_word_line, edited, in_script}
use Rattle.scripting.specs.States.{state_in, Inside, Did}
use Rattle.scripting.proofs.Laws.Tapes.{ended, number_short, did_full, did_edited, wrote_behind, words_behind, word_changed, words_dropped}

-- how many words a tape has up to a place, and the tape at hand
up_to : (row : List ℕ) (begin at : ℕ) → at ≤ length row → length (drop begin (take at row)) ≡ at - begin
up_to row begin at h = length-drop begin (take at row) ∙ ap (λ (n : ℕ). n - begin) (length-take-le at row h)

hand : {m : Marks} {row : List ℕ} → Inside m row → length (drop m.begin (take m.end row)) ≡ m.end - m.begin
hand {m} {row} inside = up_to row m.begin m.end inside.end

module _ {m : Marks} {row : List ℕ} (inside : Inside m row) {before after : List ℕ} {r : Printed} where
  -- words behind those up to `at`
  pub did_words : {at next : ℕ} {words row' : List ℕ} {k : Marks} → m.begin ≤ at → at + length words ≤ length row → Wrote row at words next row'
      → k ≡ ended m (at + length words) → (r.marks ≡ k) × Put before 0 (number_line (k.end - k.begin)) r.length after
      → Did (edited (length row) (state_in m row) (drop m.begin (take at row) ++ words)) before r row' after
  did_words {at} {next} {words} {row'} begins fits w marks p =
      let part = drop m.begin (take at row) in
      did_edited inside (part ++ words) (at + length words) (omega (arith, length-append part words, up_to row m.begin at (omega arith))) fits (wrote_length w)
      (ap (λ (n : ℕ). take n row') (sym w.next_is) ∙ wrote_behind w fits ∙ words_behind row m.begin at words begins)
      marks p

  pub did_no_words : {at : ℕ} (words : List ℕ) → m.begin ≤ at → at ≤ m.end → length row - at < length words → r.marks ≡ m
      → Put before 0 (full_line (length row)) r.length after
      → Did (edited (length row) (state_in m row) (drop m.begin (take at row) ++ words)) before r row after
  did_no_words {at} words begins ends long marks put =
      let part = drop m.begin (take at row) in
      did_full inside (part ++ words) _ (omega (arith, length-append part words, up_to row m.begin at (omega (arith, inside.end)))) marks put

  -- from the start of the tape at hand on, or from its end on
  pub did_set : {row' : List ℕ} (v : List ℕ)
      → Did (edited (length row) (state_in m row) (drop m.begin (take m.begin row) ++ v)) before r row' after
      → Did (in_script (length row) Tape v (state_in m row)) before r row' after
  unfolding in_script
  did_set v did = rw (drop_of_length-le (take m.begin row) {i = m.begin} (omega (arith, length-take m.begin row))) at did

  pub did_appended : {row' : List ℕ} (v : List ℕ)
      → Did (edited (length row) (state_in m row) (drop m.begin (take m.end row) ++ v)) before r row' after
      → Did (in_script (length row) Append v (state_in m row)) before r row' after
  unfolding in_script at_hand
  did_appended v did = did

  -- one word
  pub did_changed : (v : List ℕ) → get_or v 0 0 < m.end - m.begin → (r.marks ≡ m) × Put before 0 (number_line (m.end - m.begin)) r.length after
      → Did (in_script (length row) Change v (state_in m row)) before r (set row (m.begin + get_or v 0 0) (get_or v 1 0)) after
  unfolding in_script at_hand
  did_changed v h p =
      let i = get_or v 0 0 in
      let x = get_or v 1 0 in
      let part = drop m.begin (take m.end row) in
      rw (lt-ltb i (length part) (omega (arith, hand inside)))
      (did_edited inside (set part i x) m.end (omega (arith, inside.begin, hand inside, length-set part i x)) inside.end (length-set row (m.begin + i) x)
      (word_changed row m.begin m.end i x (omega (arith, inside.begin))) refl p)

  pub did_not_change : (v : List ℕ) → m.end - m.begin ≤ get_or v 0 0 → Did (prints (state_in m row) no_word_line) before r row after
      → Did (in_script (length row) Change v (state_in m row)) before r row after
  unfolding in_script at_hand
  did_not_change v h did = rw (le-ltb (get_or v 0 0) (length (drop m.begin (take m.end row))) (omega (arith, hand inside))) did

  -- the last words dropped
  pub did_dropped : (v : List ℕ) (end : ℕ) {k : Marks} → end ≡ m.begin + (m.end - m.begin - get_or v 0 0) → k ≡ ended m end
      → (r.marks ≡ k) × Put before 0 (number_line (k.end - k.begin)) r.length after
      → Did (in_script (length row) Drop v (state_in m row)) before r row after
  unfolding in_script at_hand
  did_dropped v end e marks p =
      let part = drop m.begin (take m.end row) in
      let n = m.end - m.begin - get_or v 0 0 in
      rw (hand inside)
      (did_edited inside (take n part) end (e ∙ ap (λ (x : ℕ). m.begin + x) (sym (length-take-le n part (omega (arith, hand inside)))))
      (omega (arith, inside.begin, inside.end)) refl
      (ap (λ (x : ℕ). take x row) e ∙ words_dropped row m.begin m.end n (omega (arith, inside.begin))) marks p)

  -- another tape behind
  pub did_behind : (v : List ℕ) {k : Marks} → k ≡ record { begin = m.end; end = m.end; room = m.room }
      → (r.marks ≡ k) × Put before 0 (number_line (k.end - k.begin)) r.length after → Did (in_script (length row) Behind v (state_in m row)) before r row after
  unfolding in_script
  did_behind v {k} e p =
      let marks : r.marks ≡ record { begin = m.end; end = m.end; room = m.room } = p.0 ∙ e in
      let none : k.end - k.begin ≡ 0 = omega (arith, ap (λ (x : Marks). x.end) e, ap (λ (x : Marks). x.begin) e) in
      record {
        state = rw (marks, length-take-le m.end row inside.end);
        inside = rw marks (record { size = inside.size; begin = omega arith; end = inside.end; room = inside.room });
        printed = rw none at p.1;
        short = number_short 0 (omega arith);
      }

  -- no room, or one
  pub did_unroom : (v : List ℕ) → length v ≡ 0 → r.marks ≡ record { begin = m.begin; end = m.end; room = None }
      → Put before 0 (newline ∷ []) r.length after → Did (in_script (length row) Room v (state_in m row)) before r row after
  unfolding in_script line
  did_unroom [] none marks put =
      record {
        state = rw marks;
        inside = rw marks (record { size = inside.size; begin = inside.begin; end = inside.end; room = tt });
        printed = put;
        short = omega arith;
      }
  did_unroom (n ∷ v) none marks put = absurd (omega arith)

  pub did_room : (v : List ℕ) → 0 < length v → get_or v 0 0 ≤ max_room
      → r.marks ≡ record { begin = m.begin; end = m.end; room = Some (get_or v 0 0) }
      → Put before 0 (number_line (get_or v 0 0)) r.length after → Did (in_script (length row) Room v (state_in m row)) before r row after
  unfolding in_script
  did_room [] some most marks put = absurd (omega arith)
  did_room (n ∷ v) some most marks put =
      record {
        state = rw marks;
        inside = rw marks (record { size = inside.size; begin = inside.begin; end = inside.end; room = most });
        printed = put;
        short = number_short n (omega arith);
      }
