-- One command line for each verb, and what the tool replies to it, computed from the definitions: the verb finds its row, its parameters
-- are read, and each goes where it belongs. The tape is one step by hand, mul 0 1, for p = 7; raise, which takes named programs alone,
-- has the basic one of p = 7, r = 3 and k = 2.
use mathlib.Core.Path.{◌≡◌, refl}
use mathlib.Core.List.{List, [], ◌∷◌, map}
use Prim.Native.Nat.{ℕ}
use Prim.Native.String.{String}
use Rattle.refusal.specs.Outcomes.{outcome}
use Rattle.text.specs.Text.{ascii, decimal_within, decimal, whole, line}
use Rattle.text.specs.Reading.{digit_of, all_digits, value_from, number_from, in_base, is_hexadecimal, parse_number}
use Rattle.modular.specs.Search.{greatest}
use Rattle.modular.specs.Primes.{is_prime}
use Rattle.modular.specs.Residues.{remainder, times}
use Rattle.modular.specs.Inverses.{gcd, inverse, bad_exponent, inverse_outcome}
use Rattle.orders.specs.Orders.{is_order}
use Rattle.fibonacci.specs.Fibonacci.{fib, lucas}
use Rattle.fibonacci.specs.Forms.{pad, greedy, zeckendorf, places_from, weight, are_places}
use Rattle.fibonacci.specs.Height.{reaches, first_from, height}
use Rattle.fibonacci.specs.Hofstadter.{hofstadter_to, G}
use Rattle.fibonacci.specs.Services.{fibonacci_outcome, number_outcome}
use Rattle.tape.specs.Words.{heading_in, action_in, swap_in, decoded, step_word, encoded}
use Rattle.tape.specs.Layout.{is_length, is_header, is_free_or_named, all_steps, is_end, laid_out, part, program_words}
use Rattle.encoding.specs.Encoding.{tape_of, bytes_of, no_tape, tape_in}
use Rattle.machine.specs.Machine.{apply, inverse_step, do_all, undo_all, run, inverted}
use Rattle.machine.specs.Ways.{way, count_where, is_mul, is_div, is_swp, counts_of}
use Rattle.machine.specs.Exponents.{shift, shift_all, in_range, all_in_range, stays_in_range}
use Rattle.tables.specs.Tables.{table_of, table_stays}
use Rattle.named.specs.Generators.{ascend, basic, drawn}
use Rattle.named.specs.Named.{basic_forms, forms_in, named_steps, named_words}
use Rattle.named.specs.Members.{same_step, same_steps, is_one_of}
use Rattle.named.specs.Parameters.{bad_modulus, bad_order, bad_variant}
use Rattle.program.specs.Services.{build_outcome, check_rules}
use Rattle.program.specs.Door.{on_tape}
use Rattle.program.specs.Same.{same_words}
use Rattle.sequencer.specs.Services.{bad_register, bad_registers, allowed, bad_base, base_rules, load_outcome, record_rules, goal_rules, run_outcome, forward_outcome, trace_rules, trace_outcome, bad_cut, cut_rules, cut_outcome}
use Rattle.sequencer.specs.Bases.{row_rules, raise_rules, raised, on_row, raise_outcome, raised_bases}
use Rattle.sequencer.specs.Tables.{table_rules, table_outcome}
use Rattle.sequencer.specs.Sessions.{neighbour, past_end, step_rules, step_outcome}
use Rattle.sequencer.specs.Previews.{preview_outcome}
use Rattle.sequencer.specs.Lists.{after_all, numbers_all, requests_of}
use Rattle.listing.specs.Listing.{step_lines}
use Rattle.tool.specs.Verbs.{entries, names, rows, index_in, row_named, variant_in, parameter_in}
use Rattle.tool.specs.Calls.{numbers_from, asked_by}
use Rattle.tool.specs.Texts.{usage, script_line}
use Rattle.tool.specs.Replies.{Replied, built, number_reply, tape_reply, reply, answers, refuses, complains}

-- the reply that the definitions give, and what is said of it
pub record Example : Type 0 where
  pub given : Replied
  pub said : Replied

-- every row of a table holds
abbrev pub AllHold : List Example → Type 0
AllHold [] = Unit {0}
AllHold (row ∷ table) = (row.given ≡ row.said) × AllHold table

-- on no tape
abbrev replies : List String → Replied → Example
replies words said = record { given = reply (map ascii words) []; said = said }

abbrev prints : List String → String → Example
prints words text = replies words (answers (ascii text))

abbrev pub one_step : List ℕ
one_step = 0x10000001 ∷ 0x20000007 ∷ 0x30000000 ∷ 0x40000000 ∷ 0x50000004 ∷ 0xF0000001 ∷ []

-- on that tape
abbrev tape_replies : List String → Replied → Example
tape_replies words said = record { given = reply (map ascii words) (bytes_of one_step); said = said }

abbrev tape_prints : List String → String → Example
tape_prints words text = tape_replies words (answers (ascii text))

-- on a named program
abbrev named_prints : List String → String → Example
named_prints words text = record { given = reply (map ascii words) (bytes_of (named_words 7 3 2 1)); said = answers (ascii text) }

abbrev pub examples : List Example
examples =
    replies ("build" ∷ "7" ∷ "3" ∷ "2" ∷ "free" ∷ []) (refuses 4 4)
    ∷ replies ("script" ∷ []) (complains script_line)
    ∷ replies ("help" ∷ []) (answers usage)
    ∷ prints ("version" ∷ []) "fibexp 3.0.0\n"
    ∷ tape_prints ("check" ∷ []) "0\n"
    ∷ tape_prints ("list" ∷ []) "free p=7 r=0 k=0 steps=1\n1 mul 0 1\n"
    ∷ tape_prints ("load" ∷ "3" ∷ []) "1 3 1 1 0\n"
    ∷ tape_prints ("run" ∷ "1" ∷ "3" ∷ "1" ∷ "1" ∷ "0" ∷ "1" ∷ []) "3 3 1 1 1\n"
    ∷ tape_prints ("step" ∷ "3" ∷ "3" ∷ "1" ∷ "1" ∷ "1" ∷ "1" ∷ []) "1 3 1 1 0\n"
    ∷ tape_replies ("step" ∷ "3" ∷ "3" ∷ "1" ∷ "1" ∷ "1" ∷ "0" ∷ []) (refuses 9 10)
    ∷ tape_prints ("preview" ∷ "3" ∷ "3" ∷ "1" ∷ "1" ∷ "1" ∷ "0" ∷ []) "1 3 1 1\n0 1 0\n"
    ∷ tape_prints ("power" ∷ "3" ∷ []) "3\n3 3 1 1 1\n"
    ∷ named_prints ("raise" ∷ "2" ∷ "4" ∷ []) "4 2\n"
    ∷ tape_prints ("trace" ∷ "1" ∷ []) "1 1 0 0\n"
    ∷ tape_prints ("table" ∷ "1" ∷ []) "1 1 0 0\n0 1 0 0\n0 0 1 0\n0 0 0 1\n"
    ∷ tape_replies ("cut" ∷ "1" ∷ "0" ∷ []) (refuses 10 10)
    ∷ tape_prints ("play" ∷ "1" ∷ "3" ∷ "1" ∷ "1" ∷ "1" ∷ "0" ∷ "6" ∷ "1" ∷ "1" ∷ []) "3 3 1 1 1 0\n"
    ∷ prints ("decode" ∷ "0x70000004" ∷ []) "swp 0 1\n"
    ∷ prints ("fibonacci" ∷ "10" ∷ []) "55\n"
    ∷ prints ("places" ∷ "6" ∷ []) "4 1\n"
    ∷ prints ("number" ∷ "4" ∷ "1" ∷ []) "6\n"
    ∷ prints ("hofstadter" ∷ "10" ∷ []) "6\n"
    ∷ prints ("inverse" ∷ "2" ∷ "5" ∷ []) "3\n"
    ∷ prints ("height" ∷ "4" ∷ []) "3\n"
    ∷ prints ("prime" ∷ "7" ∷ []) "1\n"
    ∷ prints ("mulmod" ∷ "5" ∷ "6" ∷ "7" ∷ []) "2\n"
    ∷ prints ("powmod" ∷ "3" ∷ "4" ∷ "5" ∷ []) "1\n"
    ∷ []

pub examples_hold : AllHold examples
unfolding reply asked_by numbers_from parameter_in variant_in row_named index_in names rows entries built tape_reply number_reply digit_of all_digits value_from number_from in_base is_hexadecimal parse_number same_words on_tape decimal_within decimal whole line outcome tape_in no_tape tape_of bytes_of is_length is_header is_free_or_named all_steps is_end laid_out part program_words encoded step_word decoded heading_in action_in swap_in named_steps forms_in basic_forms drawn basic ascend inverted inverse_step is_one_of same_steps same_step check_rules build_outcome bad_modulus bad_order bad_variant is_prime greatest gcd bad_exponent inverse inverse_outcome remainder times bad_register bad_registers allowed is_order bad_base load_outcome base_rules record_rules goal_rules trace_rules run_outcome forward_outcome trace_outcome bad_cut cut_rules cut_outcome row_rules raise_rules raised on_row raise_outcome raised_bases table_rules table_outcome table_of table_stays neighbour past_end step_rules step_outcome preview_outcome way counts_of count_where is_mul is_div is_swp after_all numbers_all requests_of run do_all undo_all apply stays_in_range all_in_range in_range shift_all shift step_lines fib lucas pad greedy zeckendorf places_from weight are_places reaches first_from height hofstadter_to G fibonacci_outcome number_outcome
examples_hold = (refl, (refl, (refl, (refl, (refl, (refl, (refl, (refl, (refl, (refl, (refl, (refl, (refl, (refl, (refl, (refl, (refl, (refl, (refl, (refl, (refl, (refl, (refl, (refl, (refl, (refl, (refl, tt)))))))))))))))))))))))))))
