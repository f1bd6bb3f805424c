-- A call whose result is a program's words: it is refused where the row is too short; else the tape is laid out in the row and the words
-- of its steps are written, and that row is what the definition leaves.
use Rattle.std.specs.Prelude.{Ok, Err}
use mathlib.Core.Path.{◌≡◌, refl, sym, ap, ◌∙◌}
use mathlib.Core.Logic.{inl}
use mathlib.Core.List.{List, [], map}
use Prim.Native.Nat.{ℕ, ◌+◌, ◌≤◌, ◌<◌}
use native.Mathlib.Omega.{arith}
use native.Mathlib.Decide.{dec_lt}
use mathlib.Core.Bool.{true, false, true≢false}
use Rattle.refusal.proofs.Laws.Tests.{both}
use borrow.Author.Tests.{leb-true, lt-ltb, le-ltb}
use lib.ListN.{length, get_or, length-map}
use Rattle.refusal.specs.declared.Refusal.TheVariants.{Room}
use Rattle.refusal.specs.Outcomes.{refused, answered, gives, passes, answers, row_kept, row_written}
use Rattle.std.proofs.lemmas.List.Edits.{sets}
use Rattle.modular.proofs.Laws.Inverses.{good_exponent_lem}
use Rattle.tape.specs.declared.Header.{Header}
use Rattle.tape.specs.Words.{step_word}
use lib.Dec.{leb}
use Rattle.tape.specs.Layout.{has_place, numbers_fit, max_words, Program, header_for, program_words, word_count, lay_begin, laid_buffer}
use Rattle.tape.proofs.Laws.Layout.{LawfulProgram, program_length}
use Rattle.tape.proofs.Laws.Writing.{fits_numbers, place_there, none_laid, steps_fit, program_laid}
use Rattle.named.specs.Generators.{Forms, generated, steps_from}
use Rattle.named.specs.Named.{named_steps, named_program, named_words}
use Rattle.named.specs.Promises.{FormsFit}
use Rattle.named.proofs.Laws.Parameters.{named_some, named_most}
use Rattle.named.proofs.Laws.Table.{member_fits, named_program_lem}
use Rattle.program.specs.declared.FormRows.{FormRows}
use Rattle.program.specs.Services.{room_outcome}
use Rattle.program.specs.Inner.Forms.{Whole, set_in, RowsFromTable}
use Rattle.program.specs.Inner.Writing.{drawn_words}
use Rattle.program.specs.Inner.Building.{Writable, Built}
use Rattle.program.proofs.Laws.Forms.{rows_words, rows_whole, rows_count}

-- ---- the room

pub short : (words : List ℕ) (room : ℕ) → room < length words → room_outcome words room ≡ refused 5
unfolding room_outcome
short words room h = gives Room [] (length words) (lt-ltb room (length words) h)

pub enough : (words : List ℕ) (room : ℕ) → length words ≤ room → room_outcome words room ≡ answered (length words)
unfolding room_outcome
enough words room h = passes Room [] (length words) (le-ltb room (length words) h) ∙ answers (length words)

-- ---- a named program's words can be read back, and fit the longest tape

module _ (p r k variant : ℕ) (w : Writable p r k variant) where
  pub named_lawful : LawfulProgram (named_program p r k variant)
  named_lawful =
      let q = named_program_lem variant r k w.exponent w.named in
      let below = (good_exponent_lem k r w.exponent).high in
      record {
        fits =
            record {
              variant_small = omega (arith, named_most variant w.named);
              modulus_small = w.modulus;
              order_small = w.order;
              exponent_small = omega (arith, w.order);
              count_small = omega (arith, q.short w.order);
            };
        free = λ zero. absurd (named_some variant w.named zero);
        sound = q.sound;
      }

  pub named_short : length (named_words p r k variant) ≤ max_words
  named_short =
      omega (arith, program_length (named_program p r k variant), (named_program_lem variant r k w.exponent w.named).short w.order)

-- ---- writing it

-- a row that has a place for a header's tape is as long as the tape
pub place_room : (h : Header) (room : ℕ) → has_place h room ≡ true → word_count h ≤ room
unfolding has_place
place_room h room there = leb-true (word_count h) room (both (leb (word_count h) room) (numbers_fit h) there).0

module _ {p r k variant : ℕ} {rows : FormRows} (w : Writable p r k variant) (g : RowsFromTable variant r k rows) where
  abbrev q : Program
  q = named_program p r k variant

  steps_are : named_steps variant r k ≡ generated g.forms
  unfolding named_steps
  steps_are = ap (λ (fs : List Forms). get_or (map generated fs) 0 []) g.forms_are

  fits : FormsFit g.forms
  fits = member_fits variant r k w.exponent w.order g.forms (rw g.forms_are (inl refl))

  pub words_are : drawn_words rows ≡ map step_word (named_steps variant r k)
  words_are = ap drawn_words g.rows_are ∙ rows_words g.forms fits ∙ ap (map step_word) (sym steps_are)

  pub whole : Whole rows
  whole = rw g.rows_are (rows_whole g.forms fits)

  pub count_is : {n : ℕ} → n ≡ steps_from rows.figure rows.first.length rows.last.length (set_in rows) → n ≡ length (named_steps variant r k)
  count_is e =
      e ∙ ap (λ (f : FormRows). steps_from f.figure f.first.length f.last.length (set_in f)) g.rows_are
      ∙ rows_count g.forms fits ∙ ap length (sym steps_are)

  module _ {h : Header} (header_is : h ≡ header_for q) where
    total_is : word_count h ≡ length (program_words q)
    total_is = ap word_count header_is ∙ sym (program_length q)

    pub built_short : {row after : List ℕ} → has_place h (length row) ≡ false → after ≡ laid_buffer h row → Built (program_words q) row (Err Room) after
    built_short {row} none is =
        elim (dec_lt (length row) (word_count h)) [
          | yes less ↦
              let e = short (program_words q) (length row) (omega (arith, less, total_is)) in
              record { outcome_is = sym e; row_is = is ∙ sym (none_laid h row none).1 ∙ sym (row_kept (program_words q) row e) }
          | no long ↦
              absurd (true≢false (sym (place_there h (length row) (omega arith) (rw header_is (fits_numbers (header_for q) (named_lawful p r k variant w).fits))) ∙ none))
        ]

    module _ (row : List ℕ) (room : word_count h ≤ length row) where
      long : length (program_words q) ≤ length row
      long = omega (arith, total_is)

      pub steps_room : lay_begin h (length row) + length (drawn_words rows) ≤ length (laid_buffer h row)
      steps_room =
          rw (header_is, words_are, length-map (named_steps variant r k) step_word) (steps_fit q (named_lawful p r k variant w) row long)

      pub built_written : {laid after : List ℕ} {at n : ℕ} → at ≡ lay_begin h (length row) → laid ≡ laid_buffer h row
          → after ≡ sets laid at (drawn_words rows) → n ≡ word_count h → Built (program_words q) row (Ok n) after
      built_written begin is drawn e =
          let done = enough (program_words q) (length row) long in
          record {
            outcome_is = ap answered (e ∙ total_is) ∙ sym done;
            row_is =
                drawn
                ∙ rw (begin, is, header_is, words_are) (program_laid q (named_lawful p r k variant w) row long)
                ∙ sym (row_written (program_words q) row done);
          }
