-- The reply to a command line: a status and a text, which goes to standard output where the call is answered, else to standard error.
use Rattle.std.specs.Prelude.{Option, Some, None, ◌≡◌, Bool, true, false, not, ◌&&◌, cond, List, [], ◌++◌, ℕ, ◌*◌, ◌^◌, ◌%◌, ◌<◌, eqb, length, get_or, drop}
use Rattle.refusal.specs.Outcomes.{Outcome, refused, answered}
use Rattle.text.specs.Text.{number_line, numbers_line}
use Rattle.modular.specs.Residues.{remainder}
use Rattle.modular.specs.Primes.{is_prime}
use Rattle.modular.specs.Inverses.{inverse_outcome}
use Rattle.fibonacci.specs.Hofstadter.{G}
use Rattle.fibonacci.specs.Height.{height}
use Rattle.fibonacci.specs.Services.{fibonacci_outcome, places_of, number_outcome, bit}
use Rattle.tape.specs.Words.{decoded}
use Rattle.tape.specs.Layout.{max_words, steps_of}
use Rattle.encoding.specs.Encoding.{bytes_of, tape_in, word_bytes}
use Rattle.named.specs.Named.{named_words}
use Rattle.program.specs.Services.{build_outcome, check_outcome, accept_outcome}
use Rattle.sequencer.specs.Records.{Record, record_numbers, row_of, record_in}
use Rattle.sequencer.specs.Services.{load_outcome, run_outcome, forward_outcome, trace_outcome, cut_outcome}
use Rattle.sequencer.specs.Bases.{raise_outcome, raised_bases}
use Rattle.sequencer.specs.Tables.{table_outcome}
use Rattle.sequencer.specs.Sessions.{step_outcome, is_backward}
use Rattle.sequencer.specs.Previews.{preview_outcome}
use Rattle.sequencer.specs.Lists.{Request, after_all, numbers_all, requests_of}
use Rattle.listing.specs.Listing.{lines_for}
use Rattle.tool.specs.declared.TapeVerb.{TapeVerb}
use Rattle.tool.specs.declared.TapeVerb.TheVariants.{Check, Listing, Load, Run, SingleStep, Preview, Power, Raise, Trace, Table, Cut, Play}
use Rattle.tool.specs.declared.NumberVerb.{NumberVerb}
use Rattle.tool.specs.declared.NumberVerb.TheVariants.{Decode, Fibonacci, Places, NumberOf, Hofstadter, Inverse, Height, Prime, MulMod, PowMod}
use Rattle.tool.specs.declared.Verb.{Verb}
use Rattle.tool.specs.declared.Verb.TheVariants.{Build, Script, Help, Version, OnTape, OnNumbers, InScript}
use Rattle.tool.specs.declared.Row.{Row}
use Rattle.tool.specs.Verbs.{takes_tape, takes_lines, gives_tape}
use Rattle.tool.specs.Calls.{Asked, no_word, no_verb, wrong_count, unread, known, asked_by}
use Rattle.tool.specs.Texts.{exponents_line, table_lines, record_line, preview_lines, power_lines, meaning, version_line, refusal_line, no_verb_line, wrong_count_line, unread_line, script_line, usage}

pub record Replied : Type 0 where
  -- 0 answered, 1 refused, 2 not understood
  pub status : ℕ
  pub text : List ℕ

abbrev pub answers : List ℕ → Replied
answers text = record { status = 0; text = text }

abbrev pub refuses : ℕ → ℕ → Replied
refuses own n = record { status = 1; text = refusal_line own n }

abbrev pub complains : List ℕ → Replied
complains text = record { status = 2; text = text }

-- what a service comes to: its refusal, else its answer as it is shown
abbrev pub printed : {A : Type 0} → ℕ → Outcome A → (A → List ℕ) → Replied
printed own (refused n) show = refuses own n
printed own (answered x) show = answers (show x)

-- ---- the two streams

abbrev pub stdout : Replied → List ℕ
stdout r = cond (eqb r.status 0) r.text []

abbrev pub stderr : Replied → List ℕ
stderr r = cond (eqb r.status 0) [] r.text

-- Standard output has the text of what is answered and nothing else, standard error every other text. No text is empty, so standard output
-- is empty exactly where the call was refused or not understood.
pub record Streams (r : Replied) : Type 0 where
  pub some : 0 < length r.text
  pub results : r.status ≡ 0 → stdout r ≡ r.text
  pub empty : ¬ (r.status ≡ 0) → stdout r ≡ []
  pub silent : r.status ≡ 0 → stderr r ≡ []
  pub told : ¬ (r.status ≡ 0) → stderr r ≡ r.text

-- ---- what each verb prints for its parameters

-- a parameter by its place
abbrev pub at : List ℕ → ℕ → ℕ
at values place = get_or values place 0

-- the tape's bytes
unfoldable pub built : ℕ → List ℕ → Replied
built own v =
    printed own (build_outcome (at v 0) (at v 1) (at v 2) (at v 3) max_words) (λ (n : ℕ). bytes_of (named_words (at v 0) (at v 1) (at v 2) (at v 3)))

unfoldable pub number_reply : NumberVerb → ℕ → List ℕ → Replied
number_reply Decode own v = answers (meaning (decoded (at v 0)))
number_reply Fibonacci own v = printed own (fibonacci_outcome (at v 0)) number_line
number_reply Places own v = answers (numbers_line (places_of (at v 0)))
number_reply NumberOf own v = printed own (number_outcome v) number_line
number_reply Hofstadter own v = answers (number_line (G (at v 0)))
number_reply Inverse own v = printed own (inverse_outcome (at v 0) (at v 1)) number_line
number_reply Height own v = answers (number_line (height (at v 0)))
number_reply Prime own v = answers (number_line (bit (is_prime (at v 0))))
number_reply MulMod own v = answers (number_line (remainder (at v 0 * at v 1) (at v 2)))
number_reply PowMod own v = answers (number_line (remainder (at v 0 ^ at v 1) (at v 2)))

-- many bases: the row afterwards
abbrev pub raised_all : ℕ → List ℕ → List ℕ → Replied
raised_all own bases tape = printed own (raise_outcome tape bases) (λ (n : ℕ). numbers_line (raised_bases tape bases))

-- a list of runs: the record at its end, then each run's number
abbrev pub runs_told : List Request → Record → List ℕ
runs_told requests s = row_of (after_all requests s) ++ numbers_all requests s

-- the first parameters are the record, and those behind it the requests
abbrev pub played : List ℕ → List ℕ → Replied
played v tapes = answers (numbers_line (runs_told (requests_of tapes (drop record_numbers v)) (record_in v)))

-- on a tape; a list of runs is on a row of tapes
unfoldable pub tape_reply : TapeVerb → ℕ → List ℕ → List ℕ → List ℕ → Replied
tape_reply Check own v tape tapes = printed own (check_outcome tape) number_line
tape_reply Listing own v tape tapes = answers (lines_for (accept_outcome tape) (steps_of tape))
tape_reply Load own v tape tapes = printed own (load_outcome tape (at v 0)) record_line
tape_reply Run own v tape tapes = printed own (run_outcome tape (record_in v) (at v 5)) record_line
tape_reply SingleStep own v tape tapes = printed own (step_outcome tape (record_in v) (is_backward (at v 5))) record_line
tape_reply Preview own v tape tapes = printed own (preview_outcome tape (record_in v) (at v 5)) preview_lines
tape_reply Power own v tape tapes = printed own (forward_outcome tape (at v 0)) power_lines
tape_reply Raise own v tape tapes = raised_all own v tape
tape_reply Trace own v tape tapes = printed own (trace_outcome tape (at v 0)) exponents_line
tape_reply Table own v tape tapes = printed own (table_outcome tape (at v 0)) table_lines
tape_reply Cut own v tape tapes = printed own (cut_outcome tape (at v 0) (at v 1)) numbers_line
tape_reply Play own v tape tapes = played v tapes

abbrev pub means : Verb → ℕ → List ℕ → List ℕ → List ℕ → Replied
means Build own v tape tapes = built own v
means Script own v tape tapes = complains script_line
means Help own v tape tapes = answers usage
means Version own v tape tapes = answers version_line
means (OnTape verb) own v tape tapes = tape_reply verb own v tape tapes
means (OnNumbers verb) own v tape tapes = number_reply verb own v
means (InScript verb) own v tape tapes = complains usage

-- ---- the reply

-- the refusal whose reason is not the usual one: 6 where a tape was to come and its bytes weren't whole words
abbrev pub own_in : Row → Bool → ℕ
own_in row is_whole = cond (takes_tape row.verb && not is_whole) 6 row.own

-- to what is asked, with the tape at hand and the row of tapes
abbrev pub reply_to : Asked → Bool → List ℕ → List ℕ → Replied
reply_to no_word is_whole tape tapes = complains usage
reply_to (no_verb word) is_whole tape tapes = complains (no_verb_line word)
reply_to (wrong_count name row given) is_whole tape tapes = complains (wrong_count_line name row given)
reply_to (unread word row place) is_whole tape tapes = complains (unread_line word row place)
reply_to (known row values) is_whole tape tapes = means row.verb (own_in row is_whole) values tape tapes

-- bytes that are whole words
abbrev pub is_whole : List ℕ → Bool
is_whole bytes = eqb (length bytes % word_bytes) 0

-- the reply of the tool to the words after its name, and standard input
unfoldable pub reply : List (List ℕ) → List ℕ → Replied
reply words input = reply_to (asked_by false words) (is_whole input) (tape_in input) (tape_in input)

-- the verb, where one is known
abbrev pub verb_of : Asked → Option Verb
verb_of no_word = None
verb_of (no_verb word) = None
verb_of (wrong_count name row given) = None
verb_of (unread word row place) = None
verb_of (known row values) = Some row.verb

abbrev pub verb_in : List (List ℕ) → Option Verb
verb_in words = verb_of (asked_by false words)

-- a known verb of which something holds
abbrev pub is_verb : (Verb → Bool) → Option Verb → Bool
is_verb holds None = false
is_verb holds (Some verb) = holds verb

-- no known verb, or one of which something holds
abbrev pub is_none_or : (Verb → Bool) → Option Verb → Bool
is_none_or holds None = true
is_none_or holds (Some verb) = holds verb

-- standard input is read for a tape
unfoldable pub reads_tape : List (List ℕ) → Bool
reads_tape words = is_verb takes_tape (verb_in words)

-- standard input is a script
unfoldable pub reads_script : List (List ℕ) → Bool
reads_script words = is_verb takes_lines (verb_in words)

-- what is answered is a tape
unfoldable pub writes_tape : List (List ℕ) → Bool
writes_tape words = is_verb gives_tape (verb_in words)
