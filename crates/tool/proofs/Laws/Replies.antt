-- No text of a reply is empty, so standard output is empty exactly where the call was refused or not understood. Where the bytes that came
-- are whole words, the refusal whose reason is a verb's own is that of its row.
use mathlib.Core.Path.{◌≡◌}
use mathlib.Core.Bool.{Bool, true, false, and-false}
use mathlib.Core.List.{List, [], ◌∷◌, ◌++◌}
use Prim.Native.Nat.{ℕ, ◌<◌}
use native.Mathlib.Omega.{arith}
use borrow.Author.Tests.{eq-eqb, ne_eqb}
use lib.ListN.{length, length-append}
use Rattle.refusal.specs.Outcomes.{Outcome, refused, answered}
use Rattle.text.specs.Text.{newline, blank, line, number_line, numbers_line}
use Rattle.tape.specs.declared.Step.{Step}
use Rattle.tape.specs.declared.Step.TheVariants.{Mul, Div, Swp}
use Rattle.tape.specs.declared.Header.{Header}
use Rattle.tape.specs.declared.Decoded.{Decoded}
use Rattle.tape.specs.declared.Decoded.TheVariants.{Heading, P, R, K, Action, End, Bad}
use Rattle.modular.specs.Inverses.{inverse_outcome}
use Rattle.fibonacci.specs.Services.{fibonacci_outcome, number_outcome}
use Rattle.tape.specs.Words.{decoded}
use Rattle.tape.specs.Layout.{max_words, steps_of, program_words}
use Rattle.encoding.specs.Encoding.{bytes_of}
use Rattle.named.specs.Named.{named_words}
use Rattle.program.specs.Services.{build_outcome, check_outcome, accept_outcome}
use Rattle.machine.specs.Machine.{reg}
use Rattle.sequencer.specs.Records.{record_in}
use Rattle.sequencer.specs.Services.{load_outcome, run_outcome, forward_outcome, trace_outcome, cut_outcome}
use Rattle.sequencer.specs.Bases.{raise_outcome}
use Rattle.sequencer.specs.Tables.{table_outcome}
use Rattle.sequencer.specs.Sessions.{step_outcome, is_backward}
use Rattle.sequencer.specs.Previews.{preview_outcome}
use Rattle.listing.specs.Listing.{first_line, step_lines, lines_for}
use Rattle.tool.specs.declared.TapeVerb.{TapeVerb}
use Rattle.tool.specs.declared.TapeVerb.TheVariants.{Check, Listing, Load, Run, SingleStep, Preview, Power, Raise, Trace, Table, Cut, Play}
use Rattle.tool.specs.declared.NumberVerb.{NumberVerb}
use Rattle.tool.specs.declared.NumberVerb.TheVariants.{Decode, Fibonacci, Places, NumberOf, Hofstadter, Inverse, Height, Prime, MulMod, PowMod}
use Rattle.tool.specs.declared.Verb.{Verb}
use Rattle.tool.specs.declared.Verb.TheVariants.{Build, Script, Help, Version, OnTape, OnNumbers, InScript}
use Rattle.tool.specs.declared.Row.{Row}
use Rattle.tool.specs.Verbs.{takes_tape}
use Rattle.tool.specs.Texts.{exponents_line, row_line, table_lines, record_line, preview_lines, power_lines, meaning, step_meaning, refusal_line, no_verb_line, wrong_count_line, unread_line, lines, usage}
use Rattle.tool.specs.Calls.{Asked, no_word, no_verb, wrong_count, unread, known, asked_by}
use Rattle.tool.specs.Replies.{Replied, printed, at, Streams, built, number_reply, tape_reply, means, own_in, reply_to, reply, is_whole}

-- ---- texts

-- some bytes in front, or some behind
front : (a b : List ℕ) → 0 < length a → 0 < length (a ++ b)
front a b h = omega (arith, length-append a b)

behind : (a b : List ℕ) → 0 < length b → 0 < length (a ++ b)
behind a b h = omega (arith, length-append a b)

some_line : (words : List (List ℕ)) → 0 < length (line words)
unfolding line
some_line [] = omega arith
some_line (w ∷ []) = behind w (newline ∷ []) (omega arith)
some_line (w ∷ v ∷ words) = behind (w ++ blank ∷ []) (line (v ∷ words)) (some_line (v ∷ words))

some_refusal : (own n : ℕ) → 0 < length (refusal_line own n)
unfolding refusal_line
some_refusal own n = omega arith

some_step : (step : Step) → 0 < length (step_meaning step)
some_step (Mul target source) = some_line _
some_step (Div target source) = some_line _
some_step (Swp target source) = some_line _

some_meaning : (word : Decoded) → 0 < length (meaning word)
some_meaning (Heading variant) = some_line _
some_meaning (P n) = some_line _
some_meaning (R n) = some_line _
some_meaning (K n) = some_line _
some_meaning (Action step) = some_step step
some_meaning (End count) = some_line _
some_meaning Bad = some_line _

some_usage : 0 < length usage
unfolding usage lines
some_usage = omega arith

some_words : (p r k variant : ℕ) → 0 < length (bytes_of (named_words p r k variant))
unfolding program_words bytes_of
some_words p r k variant = omega arith

some_listing : (o : Outcome Header) (steps : List Step) → 0 < length (lines_for o steps)
some_listing (refused n) steps = some_line _
some_listing (answered h) steps = front (first_line h) (step_lines 1 steps) (some_line _)

-- ---- replies

some_printed : {A : Type 0} (own : ℕ) (o : Outcome A) (show : A → List ℕ) → ((x : A) → 0 < length (show x)) → 0 < length (printed own o show).text
some_printed own (refused n) show h = some_refusal own n
some_printed own (answered x) show h = h x

on_numbers_some : (verb : NumberVerb) (own : ℕ) (v : List ℕ) → 0 < length (number_reply verb own v).text
unfolding number_reply
on_numbers_some Decode own v = some_meaning (decoded (at v 0))
on_numbers_some Fibonacci own v = some_printed own (fibonacci_outcome (at v 0)) number_line (λ n. some_line _)
on_numbers_some Places own v = some_line _
on_numbers_some NumberOf own v = some_printed own (number_outcome v) number_line (λ n. some_line _)
on_numbers_some Hofstadter own v = some_line _
on_numbers_some Inverse own v = some_printed own (inverse_outcome (at v 0) (at v 1)) number_line (λ n. some_line _)
on_numbers_some Height own v = some_line _
on_numbers_some Prime own v = some_line _
on_numbers_some MulMod own v = some_line _
on_numbers_some PowMod own v = some_line _

on_tape_some : (verb : TapeVerb) (own : ℕ) (v tape tapes : List ℕ) → 0 < length (tape_reply verb own v tape tapes).text
unfolding tape_reply
on_tape_some Check own v tape tapes = some_printed own (check_outcome tape) number_line (λ n. some_line _)
on_tape_some Listing own v tape tapes = some_listing (accept_outcome tape) (steps_of tape)
on_tape_some Load own v tape tapes = some_printed own (load_outcome tape (at v 0)) record_line (λ s. some_line _)
on_tape_some Run own v tape tapes = some_printed own (run_outcome tape (record_in v) (at v 5)) record_line (λ s. some_line _)
on_tape_some SingleStep own v tape tapes = some_printed own (step_outcome tape (record_in v) (is_backward (at v 5))) record_line (λ s. some_line _)
on_tape_some Preview own v tape tapes = some_printed own (preview_outcome tape (record_in v) (at v 5)) preview_lines (λ w. front (numbers_line w.registers) (numbers_line w.counts) (some_line _))
on_tape_some Power own v tape tapes = some_printed own (forward_outcome tape (at v 0)) power_lines (λ s. front (number_line (reg s.registers 1)) (record_line s) (some_line _))
on_tape_some Raise own v tape tapes = some_printed own (raise_outcome tape v) _ (λ n. some_line _)
on_tape_some Trace own v tape tapes = some_printed own (trace_outcome tape (at v 0)) exponents_line (λ n. some_line _)
on_tape_some Table own v tape tapes = some_printed own (table_outcome tape (at v 0)) table_lines (λ m. behind (row_line m 0 ++ row_line m 1 ++ row_line m 2) (row_line m 3) (some_line _))
on_tape_some Cut own v tape tapes = some_printed own (cut_outcome tape (at v 0) (at v 1)) numbers_line (λ n. some_line _)
on_tape_some Play own v tape tapes = some_line _

built_some : (own : ℕ) (v : List ℕ) → 0 < length (built own v).text
unfolding built
built_some own v =
    some_printed own (build_outcome (at v 0) (at v 1) (at v 2) (at v 3) max_words) (λ (n : ℕ). bytes_of (named_words (at v 0) (at v 1) (at v 2) (at v 3))) (λ n. some_words (at v 0) (at v 1) (at v 2) (at v 3))

means_some : (verb : Verb) (own : ℕ) (v tape tapes : List ℕ) → 0 < length (means verb own v tape tapes).text
means_some Build own v tape tapes = built_some own v
means_some Script own v tape tapes = omega arith
means_some Help own v tape tapes = some_usage
means_some Version own v tape tapes = omega arith
means_some (OnTape verb) own v tape tapes = on_tape_some verb own v tape tapes
means_some (OnNumbers verb) own v tape tapes = on_numbers_some verb own v
means_some (InScript verb) own v tape tapes = some_usage

pub reply_some : (asked : Asked) (is_whole : Bool) (tape tapes : List ℕ) → 0 < length (reply_to asked is_whole tape tapes).text
unfolding no_verb_line wrong_count_line unread_line
reply_some no_word w tape tapes = some_usage
reply_some (no_verb word) w tape tapes = omega arith
reply_some (wrong_count name row given) w tape tapes = omega arith
reply_some (unread word row place) w tape tapes = omega arith
reply_some (known row values) w tape tapes = means_some row.verb (own_in row w) values tape tapes

-- ---- the streams

streams : (r : Replied) → 0 < length r.text → Streams r
streams r some =
    record {
      some = some;
      results = λ e. rw (eq-eqb r.status 0 e);
      empty = λ e. rw (ne_eqb r.status 0 e);
      silent = λ e. rw (eq-eqb r.status 0 e);
      told = λ e. rw (ne_eqb r.status 0 e);
    }

pub reply_empty : (words : List (List ℕ)) (input : List ℕ) → Streams (reply words input)
unfolding reply
reply_empty words input = streams (reply words input) (reply_some (asked_by false words) (is_whole input) _ _)

-- ---- the refusal whose reason is a verb's own

pub own_whole : (row : Row) → row.own ≡ own_in row true
own_whole row = rw (and-false (takes_tape row.verb))
