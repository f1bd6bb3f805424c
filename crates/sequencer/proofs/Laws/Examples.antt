-- Chains and rewinds exist: for each a list of runs, forward, backward and refused, computed from the definitions. Steps, sessions and
-- previews, what they come to. And rows of bases, what is answered and what they are afterwards.
use mathlib.Core.Path.{◌≡◌, refl}
use mathlib.Core.Logic.{inl, inr}
use mathlib.Core.Bool.{true, false}
use mathlib.Core.List.{List, [], ◌∷◌, ◌++◌}
use Prim.Native.Nat.{ℕ, ◌≤◌, ◌<◌}
use native.Mathlib.Omega.{arith}
use lib.ListN.{replicate}
use Rattle.refusal.specs.Outcomes.{Outcome, refused, answered, outcome}
use Rattle.modular.specs.Search.{greatest}
use Rattle.modular.specs.Primes.{is_prime}
use Rattle.modular.specs.Residues.{Residue, remainder, times}
use Rattle.modular.specs.Inverses.{gcd, inverse, bad_exponent}
use Rattle.orders.specs.Orders.{is_order}
use Rattle.fibonacci.specs.Fibonacci.{fib, lucas}
use Rattle.fibonacci.specs.Forms.{pad, greedy, zeckendorf}
use Rattle.fibonacci.specs.Height.{reaches, first_from, height, odd_height}
use Rattle.tape.specs.declared.Step.TheVariants.{Mul, Div, Swp}
use Rattle.tape.specs.Words.{heading_in, action_in, swap_in, decoded, step_word, encoded}
use Rattle.tape.specs.Layout.{part, is_length, is_header, is_free_or_named, all_steps, is_end, laid_out, program_words}
use Rattle.machine.specs.Machine.{start, apply, inverse_step, do_all, undo_all, run, inverted}
use Rattle.machine.specs.Ways.{way, count_where, is_mul, is_div, is_swp, counts_of}
use Rattle.machine.proofs.Laws.Steps.{residues_four}
use Rattle.named.specs.Generators.{ascend, descend, basic, dual, hybrid, drawn}
use Rattle.named.specs.Named.{basic_forms, dual_forms, hybrid_forms, forms_in, named_steps, named_words}
use Rattle.named.specs.Members.{same_step, same_steps, is_one_of}
use Rattle.named.specs.Parameters.{bad_modulus, bad_order}
use Rattle.program.specs.Services.{check_rules}
use Rattle.program.specs.Door.{on_tape}
use Rattle.sequencer.specs.Records.{Record}
use Rattle.sequencer.specs.Services.{bad_register, bad_registers, allowed, bad_base, base_rules, start_record, record_rules, goal_rules, load_outcome, run_outcome, forward_outcome}
use Rattle.sequencer.specs.Sessions.{neighbour, past_end, step_rules, step_outcome, open_outcome, session_outcome}
use Rattle.sequencer.specs.Previews.{Shown, preview_outcome, session_preview}
use Rattle.sequencer.specs.Bases.{row_rules, raise_rules, raised, on_row, raise_outcome, raised_bases}
use Rattle.sequencer.specs.Lists.{none, to, Request, after_all, numbers_all, performed, requests_of}
use Rattle.sequencer.specs.Demand.{AllEndToEnd, TurnedOrRefused, Chain, NoTurns, Returns, Rewind}
use Rattle.sequencer.proofs.Laws.Chains.{turned_chain}

-- ---- a chain: p = 11, r = 5, k = 2, a = 4; the inverse of k is 3

abbrev pub figure_2 : List ℕ
figure_2 = named_words 11 5 2 1

abbrev pub figure_4 : List ℕ
figure_4 = named_words 11 5 2 2

abbrev pub figure_6 : List ℕ
figure_6 = named_words 11 5 2 3

-- a program whose p is below the registers
abbrev pub another_p : List ℕ
another_p = named_words 3 2 1 1

-- backward by Figure 2, the first run after loading; forward by Figure 2, twice; refused without a turn, an empty tape; backward by
-- Figure 4; refused behind a turn, a goal above the 23 steps; refused, another p; backward by Figure 6
abbrev pub chained : List Request
chained =
    record { tape = figure_2; turn = to 23; goal = 0 }
    ∷ record { tape = figure_2; turn = to 0; goal = 23 }
    ∷ record { tape = figure_2; turn = to 0; goal = 23 }
    ∷ record { tape = []; turn = none; goal = 0 }
    ∷ record { tape = figure_4; turn = to 21; goal = 0 }
    ∷ record { tape = figure_2; turn = to 5; goal = 24 }
    ∷ record { tape = another_p; turn = none; goal = 11 }
    ∷ record { tape = figure_6; turn = to 28; goal = 0 }
    ∷ []

-- as words: the four tapes stand one behind another
pub chain_words : requests_of (figure_2 ++ figure_4 ++ another_p ++ figure_6)
    (0 ∷ 28 ∷ 24 ∷ 0
    ∷ 0 ∷ 28 ∷ 1 ∷ 23
    ∷ 0 ∷ 28 ∷ 1 ∷ 23
    ∷ 0 ∷ 0 ∷ 0 ∷ 0
    ∷ 28 ∷ 54 ∷ 22 ∷ 0
    ∷ 0 ∷ 28 ∷ 6 ∷ 24
    ∷ 54 ∷ 70 ∷ 0 ∷ 11
    ∷ 70 ∷ 103 ∷ 29 ∷ 0 ∷ []) ≡ chained
unfolding requests_of part program_words encoded step_word named_steps forms_in basic_forms dual_forms hybrid_forms drawn basic dual hybrid ascend descend inverted inverse_step pad zeckendorf greedy height odd_height first_from reaches lucas fib inverse greatest
chain_words = refl

-- E is 3 × 2 × 2 × 3 × 3 modulo 5, and 4^3 is 9 modulo 11
pub chain_runs : TurnedOrRefused 11 5 chained (start_record 4)
    × (after_all chained (start_record 4) ≡ start_record 9)
    × (numbers_all chained (start_record 4) ≡ 0 ∷ 0 ∷ 0 ∷ 6 ∷ 0 ∷ 10 ∷ 9 ∷ 0 ∷ [])
unfolding after_all program_words encoded step_word named_steps forms_in basic_forms dual_forms hybrid_forms drawn basic dual hybrid ascend descend inverted inverse_step pad zeckendorf greedy height odd_height first_from reaches lucas fib inverse greatest decoded heading_in action_in swap_in outcome check_rules is_length is_header is_free_or_named all_steps is_end laid_out bad_modulus is_prime bad_order bad_exponent gcd is_one_of same_steps same_step bad_register bad_registers on_tape record_rules goal_rules run_outcome run do_all undo_all apply times remainder numbers_all TurnedOrRefused
chain_runs = (
  (
    inr (23, (refl, record { accepted = refl; named = refl; modulus = refl; order = refl; ends = inr (refl, refl) })),
    (
      inr (0, (refl, record { accepted = refl; named = refl; modulus = refl; order = refl; ends = inl (refl, refl) })),
      (
        inr (0, (refl, record { accepted = refl; named = refl; modulus = refl; order = refl; ends = inl (refl, refl) })),
        (
          inl (6, refl),
          (
            inr (21, (refl, record { accepted = refl; named = refl; modulus = refl; order = refl; ends = inr (refl, refl) })),
            (
              inl (10, refl),
              (
                inl (9, refl),
                (inr (28, (refl, record { accepted = refl; named = refl; modulus = refl; order = refl; ends = inr (refl, refl) })), tt),
              ),
            ),
          ),
        ),
      ),
    ),
  ),
  refl,
  refl,
)

-- programs of that p with another r, and made by hand
abbrev pub another_r : List ℕ
another_r = named_words 11 10 3 1

abbrev pub by_hand_11 : List ℕ
by_hand_11 = program_words (record { variant = 0; modulus = 11; order = 0; exponent = 0; steps = Mul 2 1 ∷ [] })

-- In order: 4 has order 5, and a program for 10 doesn't load it, though 10 gives 1 too; 2 has order 10; 1 has order 1; a program made by hand
-- loads any of them; 9 comes before 11.
pub bases_load : (load_outcome figure_4 4 ≡ answered (start_record 4))
    × (load_outcome another_r 4 ≡ refused 11)
    × (load_outcome another_r 2 ≡ answered (start_record 2))
    × (load_outcome figure_4 2 ≡ refused 11)
    × (load_outcome figure_4 1 ≡ refused 11)
    × (load_outcome by_hand_11 4 ≡ answered (start_record 4))
    × (load_outcome by_hand_11 1 ≡ answered (start_record 1))
    × (load_outcome figure_4 12 ≡ refused 9)
unfolding program_words encoded step_word named_steps forms_in basic_forms dual_forms drawn basic dual ascend inverted inverse_step pad zeckendorf greedy height first_from reaches lucas fib inverse greatest decoded heading_in action_in swap_in outcome check_rules is_length is_header is_free_or_named all_steps is_end laid_out bad_modulus is_prime bad_order bad_exponent gcd is_one_of same_steps same_step bad_register allowed is_order bad_base on_tape base_rules load_outcome
bases_load = (refl, refl, refl, refl, refl, refl, refl, refl)

pub chain_exists : Chain 11 5 4 chained (start_record 4)
unfolding program_words encoded step_word named_steps forms_in basic_forms dual_forms drawn basic dual ascend inverted inverse_step pad zeckendorf greedy height first_from reaches lucas fib inverse greatest decoded heading_in action_in swap_in outcome check_rules is_length is_header is_free_or_named all_steps is_end laid_out bad_modulus is_prime bad_order bad_exponent gcd is_one_of same_steps same_step bad_register allowed is_order bad_base on_tape base_rules load_outcome
chain_exists = turned_chain 11 5 4 chained figure_4 refl refl refl refl chain_runs.0

-- A base of smaller order than r, which is 10: 4^10 is 1, and E is 3. It is loaded on the program made by hand here, and `figure_4`, for its own
-- order, loads it as well.
abbrev pub through_10 : List Request
through_10 = record { tape = another_r; turn = to 0; goal = 32 } ∷ []

pub chain_of_smaller_order : Chain 11 10 4 through_10 (start_record 4) × ((after_all through_10 (start_record 4)).registers ≡ start 9)
unfolding program_words encoded step_word named_steps forms_in basic_forms dual_forms drawn basic dual ascend inverted inverse_step pad zeckendorf greedy height first_from reaches lucas fib inverse greatest decoded heading_in action_in swap_in outcome check_rules is_length is_header is_free_or_named all_steps is_end laid_out bad_modulus is_prime bad_order bad_exponent gcd is_one_of same_steps same_step bad_register allowed is_order bad_base on_tape base_rules load_outcome TurnedOrRefused after_all run_outcome goal_rules record_rules bad_registers run do_all apply times remainder
chain_of_smaller_order = (
  turned_chain 11 10 4 through_10 by_hand_11 refl refl refl refl
      (inr (0, (refl, record { accepted = refl; named = refl; modulus = refl; order = refl; ends = inl (refl, refl) })), tt),
  refl,
)

-- a chain without turns: from position 0, where load put it, there and back; E is 2 × 3 modulo 5
abbrev pub there_and_back : List Request
there_and_back = record { tape = figure_2; turn = none; goal = 23 } ∷ record { tape = figure_2; turn = none; goal = 0 } ∷ []

pub chain_without_turns : Chain 11 5 4 there_and_back (start_record 4)
unfolding program_words encoded step_word named_steps forms_in basic_forms dual_forms hybrid_forms drawn basic dual hybrid ascend descend inverted inverse_step pad zeckendorf greedy height odd_height first_from reaches lucas fib inverse greatest decoded heading_in action_in swap_in outcome check_rules is_length is_header is_free_or_named all_steps is_end laid_out bad_modulus is_prime bad_order bad_exponent gcd is_one_of same_steps same_step bad_register bad_registers on_tape record_rules goal_rules run_outcome run do_all undo_all apply times remainder performed AllEndToEnd bad_base allowed is_order base_rules load_outcome
chain_without_turns =
    record {
      tape = figure_2;
      accepted = refl;
      modulus = refl;
      loaded = refl;
      registers = refl;
      power = refl;
      links = (
        record { accepted = refl; named = refl; modulus = refl; order = refl; ends = inl (refl, refl) },
        (record { accepted = refl; named = refl; modulus = refl; order = refl; ends = inr (refl, refl) }, tt),
      );
    }

-- ---- a rewind: a hand-made program of three steps, from position 1 and registers (2, 3, 4, 5)

abbrev pub by_hand : List ℕ
by_hand = program_words (record { variant = 0; modulus = 7; order = 0; exponent = 0; steps = Mul 2 1 ∷ Swp 0 2 ∷ Div 3 1 ∷ [] })

-- forward to the end; refused, another program whose p is below the registers; backward to the start; and to position 1 again
abbrev pub rewound : List Request
rewound =
    record { tape = by_hand; turn = none; goal = 3 }
    ∷ record { tape = another_p; turn = none; goal = 11 }
    ∷ record { tape = by_hand; turn = none; goal = 0 }
    ∷ record { tape = by_hand; turn = none; goal = 1 }
    ∷ []

below : (x : ℕ) → 1 ≤ x → x < 7 → Residue 7 x
below x low high = record { low = low; high = high }

pub rewind_exists : Rewind by_hand rewound (record { registers = 2 ∷ 3 ∷ 4 ∷ 5 ∷ []; position = 1 })
unfolding program_words encoded step_word named_steps forms_in basic_forms drawn basic ascend inverted inverse_step pad zeckendorf greedy fib inverse greatest decoded heading_in action_in swap_in outcome check_rules is_length is_header is_free_or_named all_steps is_end laid_out bad_modulus is_prime bad_order bad_exponent gcd is_one_of same_steps same_step bad_register bad_registers on_tape record_rules goal_rules run_outcome run do_all undo_all apply times remainder performed NoTurns Returns
rewind_exists =
    record {
      accepted = refl;
      position = omega arith;
      registers = residues_four 7 2 3 4 5 (below 2 (omega arith) (omega arith)) (below 3 (omega arith) (omega arith)) (below 4 (omega arith) (omega arith)) (below 5 (omega arith) (omega arith));
      no_turns = (refl, (refl, (refl, (refl, tt))));
      returns = (refl, (refl, (refl, refl)));
    }

-- ---- sessions on that program

-- a record of p = 7: the first step changes register 2, the second exchanges 0 and 2, the third changes 3
abbrev at : ℕ → ℕ → ℕ → ℕ → Record
at c e f position = record { registers = c ∷ 3 ∷ e ∷ f ∷ []; position = position }

-- In order: a step forward, and backward; past the start, and past the end; from above the step count, either way; a register that is 0
-- comes before a position; a session that is opened at the step count, and one inside, go back; one that is refused, whose step gets 6.
pub sessions_step : (step_outcome by_hand (at 2 4 5 0) false ≡ answered (at 2 5 5 1))
    × (step_outcome by_hand (at 5 2 5 2) true ≡ answered (at 2 5 5 1))
    × (step_outcome by_hand (at 2 4 5 0) true ≡ refused 10)
    × (step_outcome by_hand (at 5 2 4 3) false ≡ refused 10)
    × (step_outcome by_hand (at 5 2 4 4) true ≡ refused 10)
    × (step_outcome by_hand (at 5 2 4 4) false ≡ refused 10)
    × (step_outcome by_hand (at 0 2 4 4) false ≡ refused 9)
    × (session_outcome by_hand (at 5 2 4 3) true ≡ answered (at 5 2 5 2))
    × (session_outcome by_hand (at 5 2 5 2) true ≡ answered (at 2 5 5 1))
    × (open_outcome by_hand (at 5 2 4 4) ≡ refused 10)
    × (session_outcome by_hand (at 5 2 4 4) true ≡ refused 6)
unfolding program_words encoded step_word decoded heading_in action_in swap_in outcome check_rules is_length is_header is_free_or_named all_steps is_end laid_out bad_modulus is_prime greatest bad_register bad_registers on_tape record_rules run do_all undo_all apply inverse_step times remainder inverse neighbour past_end step_rules step_outcome open_outcome session_outcome
sessions_step = (refl, refl, refl, refl, refl, refl, refl, refl, refl, refl, refl)

-- ---- previews on that program

abbrev shows : ℕ → ℕ → ℕ → List ℕ → Outcome Shown
shows c e f counts = answered (record { registers = c ∷ 3 ∷ e ∷ f ∷ []; counts = counts })

-- In order: forward, mul and swp; backward, where the mul counts as a div; the div, done, and undone, where it counts as a mul; from one end
-- to the other; here, at both ends and inside; a goal above the step count, and a record; a register that is 0 comes before a position; the
-- empty tape; a session that is opened, and one that is refused.
pub previews_show : (preview_outcome by_hand (at 2 4 5 0) 2 ≡ shows 5 2 5 (1 ∷ 0 ∷ 1 ∷ []))
    × (preview_outcome by_hand (at 5 2 5 2) 0 ≡ shows 2 4 5 (0 ∷ 1 ∷ 1 ∷ []))
    × (preview_outcome by_hand (at 5 2 5 2) 3 ≡ shows 5 2 4 (0 ∷ 1 ∷ 0 ∷ []))
    × (preview_outcome by_hand (at 5 2 4 3) 2 ≡ shows 5 2 5 (1 ∷ 0 ∷ 0 ∷ []))
    × (preview_outcome by_hand (at 5 2 4 3) 0 ≡ shows 2 4 5 (1 ∷ 1 ∷ 1 ∷ []))
    × (preview_outcome by_hand (at 2 4 5 0) 0 ≡ shows 2 4 5 (0 ∷ 0 ∷ 0 ∷ []))
    × (preview_outcome by_hand (at 2 5 5 1) 1 ≡ shows 2 5 5 (0 ∷ 0 ∷ 0 ∷ []))
    × (preview_outcome by_hand (at 5 2 4 3) 3 ≡ shows 5 2 4 (0 ∷ 0 ∷ 0 ∷ []))
    × (preview_outcome by_hand (at 5 2 4 3) 4 ≡ refused 10)
    × (preview_outcome by_hand (at 5 2 4 4) 3 ≡ refused 10)
    × (preview_outcome by_hand (at 0 2 4 4) 4 ≡ refused 9)
    × (preview_outcome [] (at 0 2 4 4) 4 ≡ refused 6)
    × (session_preview by_hand (at 2 5 5 1) 0 ≡ shows 2 4 5 (0 ∷ 1 ∷ 0 ∷ []))
    × (session_preview by_hand (at 5 2 4 4) 0 ≡ refused 6)
unfolding program_words encoded step_word decoded heading_in action_in swap_in outcome check_rules is_length is_header is_free_or_named all_steps is_end laid_out bad_modulus is_prime greatest bad_register bad_registers on_tape record_rules goal_rules run do_all undo_all apply inverse_step times remainder inverse way inverted counts_of count_where is_mul is_div is_swp open_outcome preview_outcome session_preview
previews_show = (refl, refl, refl, refl, refl, refl, refl, refl, refl, refl, refl, refl, refl, refl)

-- ---- rows of bases

-- a row with what is answered and the row afterwards
abbrev Raises : List ℕ → List ℕ → Outcome ℕ → List ℕ → Type 0
Raises tape bases answer row = (raise_outcome tape bases ≡ answer) × (raised_bases tape bases ≡ row)

-- 65 bases, the first of them bad
abbrev many : List ℕ
many = 0 ∷ replicate 64 4

-- In order: four bases; none; 2 to the power 5 isn't 1 modulo 11; 11 isn't below p; the first bad base decides the refusal, whichever
-- number it has; a bad base behind good ones, which stay as they are; one between them,
-- of which a smaller power is 1; too many come before a bad one, and 64 are not too many; a free
-- program comes before too many; and a tape that check refuses before all of these.
pub rows_raised : Raises figure_2 (4 ∷ 3 ∷ 5 ∷ 9 ∷ []) (answered 0) (5 ∷ 9 ∷ 3 ∷ 4 ∷ [])
    × Raises figure_6 [] (answered 0) []
    × Raises figure_2 (2 ∷ []) (refused 11) (2 ∷ [])
    × Raises figure_2 (11 ∷ []) (refused 9) (11 ∷ [])
    × Raises figure_2 (2 ∷ 0 ∷ []) (refused 11) (2 ∷ 0 ∷ [])
    × Raises figure_2 (0 ∷ 2 ∷ []) (refused 9) (0 ∷ 2 ∷ [])
    × Raises figure_4 (4 ∷ 3 ∷ 2 ∷ []) (refused 11) (4 ∷ 3 ∷ 2 ∷ [])
    × Raises figure_4 (4 ∷ 1 ∷ 3 ∷ []) (refused 11) (4 ∷ 1 ∷ 3 ∷ [])
    × Raises figure_4 many (refused 14) many
    × (raise_outcome figure_4 (replicate 64 4) ≡ answered 0)
    × Raises by_hand many (refused 4) many
    × Raises by_hand [] (refused 4) []
    × Raises [] many (refused 6) many
unfolding program_words encoded step_word named_steps forms_in basic_forms dual_forms hybrid_forms drawn basic dual hybrid ascend descend inverted inverse_step pad zeckendorf greedy height odd_height first_from reaches lucas fib inverse greatest decoded heading_in action_in swap_in outcome check_rules is_length is_header is_free_or_named all_steps is_end laid_out bad_modulus is_prime bad_order bad_exponent gcd is_one_of same_steps same_step bad_register bad_registers allowed is_order bad_base on_tape base_rules record_rules goal_rules load_outcome run_outcome forward_outcome run do_all undo_all apply times remainder row_rules raise_rules raised on_row raise_outcome raised_bases
rows_raised = (
  (refl, refl),
  (refl, refl),
  (refl, refl),
  (refl, refl),
  (refl, refl),
  (refl, refl),
  (refl, refl),
  (refl, refl),
  (refl, refl),
  refl,
  (refl, refl),
  (refl, refl),
  (refl, refl),
)
