-- Document 01's case A: the bytes of its words, and the listing that it prints.
use mathlib.Core.Path.{◌≡◌, refl}
use mathlib.Core.List.{List, [], ◌∷◌}
use Prim.Native.Nat.{ℕ}
use Rattle.refusal.specs.Outcomes.{outcome}
use Rattle.modular.specs.Search.{greatest}
use Rattle.modular.specs.Primes.{is_prime}
use Rattle.modular.specs.Inverses.{gcd, inverse, bad_exponent}
use Rattle.fibonacci.specs.Fibonacci.{fib}
use Rattle.fibonacci.specs.Forms.{pad, greedy, zeckendorf}
use Rattle.tape.specs.Words.{heading_in, action_in, swap_in, decoded, step_word, encoded}
use Rattle.tape.specs.Layout.{is_length, is_header, is_free_or_named, all_steps, is_end, laid_out, program_words}
use Rattle.machine.specs.Machine.{inverse_step, inverted}
use Rattle.named.specs.Generators.{ascend, basic, drawn}
use Rattle.named.specs.Named.{basic_forms, forms_in, named_steps}
use Rattle.named.specs.Members.{same_step, same_steps, is_one_of}
use Rattle.named.specs.Parameters.{bad_modulus, bad_order}
use Rattle.program.specs.Services.{check_rules}
use Rattle.text.specs.Text.{ascii, decimal_within, decimal, line}
use Rattle.encoding.specs.Encoding.{tape_of, bytes_of, no_tape}
use Rattle.listing.specs.Listing.{listing_rules, step_lines, listing_of}

abbrev pub case_a : List ℕ
case_a =
    bytes_of
    (0x10000101 ∷ 0x20000003 ∷ 0x30000002 ∷ 0x40000001 ∷ 0x50000004 ∷ 0x70000004 ∷ 0x50000006 ∷ 0x70000004
    ∷ 0x60000004 ∷ 0x70000009 ∷ 0x50000004 ∷ 0x70000004 ∷ 0x60000006 ∷ 0x70000004 ∷ 0x60000004 ∷ 0xF000000B ∷ [])

pub case_a_listing : listing_of case_a
    ≡ ascii "basic p=3 r=2 k=1 steps=11\n1 mul 0 1\n2 swp 0 1\n3 mul 2 1\n4 swp 0 1\n5 div 0 1\n6 swp 1 2\n7 mul 0 1\n8 swp 0 1\n9 div 2 1\n10 swp 0 1\n11 div 0 1\n"
unfolding tape_of bytes_of no_tape listing_rules step_lines listing_of decimal_within decimal line program_words encoded step_word named_steps forms_in basic_forms drawn basic ascend inverted inverse_step pad zeckendorf greedy fib inverse greatest decoded heading_in action_in swap_in outcome check_rules is_length is_header is_free_or_named all_steps is_end laid_out bad_modulus is_prime bad_order bad_exponent gcd same_step same_steps is_one_of
case_a_listing = refl

-- five bytes are no tape
pub five_bytes : listing_of (1 ∷ 2 ∷ 3 ∷ 4 ∷ 5 ∷ []) ≡ ascii "refused 6\n"
unfolding no_tape listing_rules listing_of outcome decimal_within decimal line
five_bytes = refl
