-- Build's tape, and what is put into a buffer: what the code counts in its buffer are the words of the named program, and a part of a buffer whose
-- elements are one number is a buffer of that number.
use Rattle.std.specs.Prelude.{Result, Ok, Err}
use mathlib.Core.Path.{◌≡◌, sym, ap, ◌∙◌}
use mathlib.Core.List.{List, [], ◌∷◌, ◌++◌}
use Prim.Native.Nat.{ℕ, ◌+◌, ◌-◌, ◌*◌, ◌≤◌}
use native.Mathlib.Omega.{arith}
use lib.ListN.{length, get_or, take, length-append, length-replicate, replicate-append-replicate}
use lib.Seq.{take_at}
use Rattle.refusal.specs.declared.Refusal.{Refusal}
use Rattle.refusal.specs.Outcomes.{outcome_of}
use Rattle.refusal.proofs.Laws.Rows.{wrote_length}
use Rattle.text.specs.Text.{number_line, numbers_line}
use Rattle.text.specs.Rows.{Put}
use Rattle.text.proofs.Laws.Puts.{puts_join, put_fits}
use Rattle.fibonacci.specs.Services.{places_outcome, places_buffer}
use Rattle.encoding.specs.Encoding.{bytes_of}
use Rattle.named.specs.Named.{named_words}
use Rattle.program.specs.Services.{build_outcome, build_buffer}
use Rattle.program.proofs.Laws.Checking.{build_count, build_words}
use Rattle.listing.specs.declared.Listed.{Listed}
use Rattle.listing.specs.Listing.{listing_answer, listing_buffer}
use Rattle.tool.specs.Verbs.{max_room}
use Rattle.tool.specs.declared.Reply.{Reply}
use Rattle.tape.specs.Layout.{max_words}
use Rattle.tool.specs.Replies.{at, printed}
use Rattle.tool.specs.Rows.{Told}
use Rattle.scripting.specs.declared.Marks.{Marks}
use Rattle.scripting.specs.declared.Printed.{Printed}
use Rattle.scripting.specs.Script.{State, with_tape, built_as, filled, build_into, places_into, list_into, build_line, build_in, places_in, list_in, max_commanded}
use Rattle.scripting.specs.States.{state_in, Inside, count_in, Did}
use Rattle.scripting.proofs.Laws.Tapes.{ended, did_tape, wrote_behind}

-- words written from where the tape at hand begins
pub did_left : {m : Marks} {row row' before after : List ℕ} {r : Printed} {end : ℕ} → Inside m row → (words text : List ℕ)
    → m.begin + length words ≤ length row → Put row m.begin words end row' → r.marks ≡ ended m end → Put before 0 text r.length after
    → length text ≤ max_commanded → Did (with_tape (length row) (state_in m row) words text) before r row' after
did_left {end = end} inside words text fits there marks put short =
    let w = put_fits there fits in
    did_tape inside words end w.next_is (omega (arith, w.next_is)) (wrote_length w) (wrote_behind w fits) text marks put short

-- ---- a buffer

pub filled_part : (n room : ℕ) → room ≤ n → take room (filled n) ≡ filled room
filled_part n room h =
    let whole : filled room ++ filled (n - room) ≡ filled n =
    replicate-append-replicate {A = ℕ} room (n - room) 255 ∙ ap filled (let e : room + (n - room) ≡ n = omega arith in e) in
    ap (take room) (sym whole) ∙ take_at (filled room) (filled (n - room)) room (length-replicate {A = ℕ} room 255)

-- ---- build

module _ (p r k variant : ℕ) (row : List ℕ) where
  pub built_count : (answer : Result ℕ Refusal) → outcome_of answer ≡ build_outcome p r k variant (length row) → count_in answer ≤ length row
  built_count (Ok n) e = omega (arith, build_count p r k variant (length row) n (sym e))
  built_count (Err x) e = omega arith

  pub built_as_lem : (capacity : ℕ) (s : State) (answer : Result ℕ Refusal) (refusal text : List ℕ) → outcome_of answer ≡ build_outcome p r k variant (length row)
      → built_as capacity s (outcome_of answer) (take (count_in answer) (build_buffer p r k variant row)) refusal text
      ≡ built_as capacity s (build_outcome p r k variant (length row)) (named_words p r k variant) refusal text
  built_as_lem capacity s (Ok n) refusal text e =
      rw (← e) (ap (λ (words : List ℕ). with_tape capacity s words text) (build_words p r k variant n row (sym e)))
  built_as_lem capacity s (Err x) refusal text e = rw (← e)

  pub did_built_into : {before after row' : List ℕ} {x : Printed} (capacity own : ℕ) (v : List ℕ) (s : State) (answer : Result ℕ Refusal)
      → p ≡ at v 0 → r ≡ at v 1 → k ≡ at v 2 → variant ≡ at v 3 → outcome_of answer ≡ build_outcome p r k variant (length row)
      → Did
      (built_as capacity s (outcome_of answer) (take (count_in answer) (build_buffer p r k variant row))
      ((printed own (outcome_of answer) number_line).text ++ numbers_line (build_buffer p r k variant row))
      ((printed own (outcome_of answer) number_line).text ++ numbers_line (build_buffer p r k variant row)))
      before x row' after
      → Did (build_into capacity row own v s) before x row' after
  unfolding build_into
  did_built_into capacity own v s answer a b c d e did =
      rw (← a, ← b, ← c, ← d) (rw e at (rw (built_as_lem capacity s answer ((printed own (outcome_of answer) number_line).text ++ numbers_line (build_buffer p r k variant row)) ((printed own (outcome_of answer) number_line).text ++ numbers_line (build_buffer p r k variant row)) e) at did))

  pub did_built_line : {before after row' : List ℕ} {x : Printed} (capacity own : ℕ) (v : List ℕ) (s : State) (answer : Result ℕ Refusal) → length row ≡ max_words
      → p ≡ at v 0 → r ≡ at v 1 → k ≡ at v 2 → variant ≡ at v 3 → outcome_of answer ≡ build_outcome p r k variant (length row)
      → Did
      (built_as capacity s (outcome_of answer) (take (count_in answer) (build_buffer p r k variant row)) (printed own (outcome_of answer) number_line).text
      (numbers_line (take (count_in answer) (build_buffer p r k variant row))))
      before x row' after
      → Did (build_line capacity own v s) before x row' after
  unfolding build_line
  did_built_line capacity own v s (Ok n) size a b c d e did =
      rw (← a, ← b, ← c, ← d, ← size, ← e) (rw (build_words p r k variant n row (sym e)) at did)
  did_built_line capacity own v s (Err x) size a b c d e did = rw (← a, ← b, ← c, ← d, ← size, ← e) did

-- ---- in a room

pub did_built_in : {before after row' : List ℕ} {x : Printed} (capacity room own : ℕ) (v : List ℕ) (s : State) (row : List ℕ) → row ≡ filled room
    → Did (build_into capacity row own v s) before x row' after → Did (build_in capacity room own v s) before x row' after
unfolding build_in
did_built_in capacity room own v s row e did = rw e at did

-- what is put, and that it is short
abbrev pub Prints : List ℕ → List ℕ → ℕ → List ℕ → Type 0
Prints before text next after = Put before 0 text next after × (length text ≤ max_commanded)

-- a verb's first parameter is all that places looks at
pub put_places_in : {before after : List ℕ} {next : ℕ} (room own n : ℕ) (v row : List ℕ) → row ≡ filled room → n ≡ get_or v 0 0
    → Prints before (places_into row own (n ∷ [])) next after → Prints before (places_in room own v) next after
unfolding places_in places_into
put_places_in room own n v row e f p = rw f at (rw e at p)

pub put_list_in : {before after : List ℕ} {next : ℕ} (room : ℕ) (tape row bytes : List ℕ) → row ≡ filled room → bytes ≡ bytes_of tape
    → Prints before (list_into row bytes) next after → Prints before (list_in room tape) next after
unfolding list_in
put_list_in room tape row bytes e f p = rw f at (rw e at p)

pub put_places_into : {before mid after : List ℕ} {told : Reply} {next : ℕ} (row : List ℕ) (n own : ℕ) (found : Result ℕ Refusal)
    → length (places_buffer n row) ≤ max_room
    → outcome_of found ≡ places_outcome n (length row) → Told before (printed own (outcome_of found) number_line) told mid
    → Put mid told.length (numbers_line (places_buffer n row)) next after → length (numbers_line (places_buffer n row)) ≤ 4 * length (places_buffer n row) + 1
    → Prints before (places_into row own (n ∷ [])) next after
unfolding places_into
put_places_into row n own found size e told w few =
    let text = (printed own (outcome_of found) number_line).text in
    rw (← e)
    (puts_join told.text w, omega (arith, length-append text (numbers_line (places_buffer n row)), told.short))

pub put_list_into : {before mid after : List ℕ} {listed : Listed} {middle next : ℕ} (row bytes : List ℕ) → length (listing_buffer bytes row) ≤ max_room
    → listed ≡ listing_answer bytes (length row)
    → Put before 0 (numbers_line (listed.written ∷ listed.number ∷ [])) middle mid → length (numbers_line (listed.written ∷ listed.number ∷ [])) ≤ 23
    → Put mid middle (numbers_line (listing_buffer bytes row)) next after → length (numbers_line (listing_buffer bytes row)) ≤ 4 * length (listing_buffer bytes row) + 1
    → Prints before (list_into row bytes) next after
unfolding list_into
put_list_into {listed = listed} row bytes size e v one w few =
    rw (← e)
    (puts_join v w, omega (arith, length-append (numbers_line (listed.written ∷ listed.number ∷ [])) (numbers_line (listing_buffer bytes row))))
