-- What an answer of a service says: its tape is accepted, each of its own rules is passed, and the record or the words are those of the
-- definition.
use mathlib.Core.Path.{◌≡◌, refl, sym, subst}
use mathlib.Core.Bool.{false}
use mathlib.Core.List.{List, [], ◌∷◌, ◌++◌}
use Prim.Native.Nat.{ℕ, suc, ◌≤◌}
use native.Mathlib.Omega.{arith}
use lib.Dec.{leb, eqb}
use lib.ListN.{length, set, take, drop}
use lib.Seq.{sets, length-slice}
use borrow.Author.Tests.{leb-false, eqb-false, ne_eqb, lt-leb}
use Rattle.refusal.specs.Outcomes.{Outcome, Rule, answered, refusal_number, after}
use Rattle.refusal.proofs.Laws.Rules.{passed, refused_where, zero_answered, other_refused}
use Rattle.modular.specs.Primes.{Prime}
use Rattle.modular.specs.Residues.{Residue}
use Rattle.refusal.proofs.Laws.Tests.{neither}
use Rattle.tape.specs.Layout.{max_words, header_of, step_index, step_words_of, steps_of, step_words}
use Rattle.tape.specs.Steps.{AllSound}
use Rattle.tape.proofs.Laws.Rows.{all_steps_sound, slice_from}
use Rattle.tape.proofs.Laws.Reading.{length_most}
use Rattle.tape.proofs.Laws.Layout.{laid_out_long}
use Rattle.machine.specs.Machine.{Residues}
use Rattle.machine.proofs.Laws.Steps.{residues_four}
use Rattle.program.specs.Services.{check_rules, check_outcome, accept_outcome}
use Rattle.program.specs.Door.{on_tape}
use Rattle.program.proofs.Laws.Checking.{accepted}
use Rattle.program.proofs.Laws.Accepting.{accepted_prime}
use Rattle.program.proofs.Laws.Door.{answered_tape, answered_own, answered_with}
use Rattle.sequencer.specs.Records.{Record}
use Rattle.sequencer.specs.Services.{bad_register, bad_registers, bad_base, base_rules, start_record, load_outcome, run_rules, record_at, run_outcome, cut_rules, cut_outcome, cut_start, cut_count}
use Rattle.sequencer.specs.Lists.{Request, given, answer_to, record_after, numbers_all}
use Rattle.sequencer.specs.Demand.{AsSaid, EachAsSaid}
use Rattle.sequencer.proofs.Laws.Cases.{good_cut}

-- what is said of an outcome is said of the answer that comes to it
pub said_of : {A : Type 0} {o answer : Outcome A} (P Q : Outcome A → Type 0) → P o → Q o → answer ≡ o → (answer ≡ o) × (P answer × Q answer)
said_of P Q p q e = (e, (subst P (sym e) p, subst Q (sym e) q))

-- a number that refusal 9 lets pass
pub good_register : (p x : ℕ) → bad_register p x ≡ false → Residue p x
unfolding bad_register
good_register p x good =
    let n = neither (eqb x 0) (leb p x) good in
    record { low = omega (arith, eqb-false x 0 n.0); high = leb-false p x n.1 }

pub residue_good : (p x : ℕ) → Residue p x → bad_register p x ≡ false
unfolding bad_register
residue_good p x r = rw (ne_eqb x 0 (λ e. omega arith), lt-leb p x r.high)

pub residues_registers : (p c d e f : ℕ) → bad_registers p (c ∷ d ∷ e ∷ f ∷ []) ≡ false → Residues p (c ∷ d ∷ e ∷ f ∷ [])
unfolding bad_registers
residues_registers p c d e f good =
    let first = neither (bad_register p c) _ good in
    let second = neither (bad_register p d) _ first.1 in
    let third = neither (bad_register p e) _ second.1 in
    let fourth = neither (bad_register p f) _ third.1 in
    residues_four p c d e f (good_register p c first.0) (good_register p d second.0) (good_register p e third.0) (good_register p f fourth.0)

-- the steps of a tape are sound, and an accepted tape's p is prime
pub steps_sound : (tape : List ℕ) → AllSound (steps_of tape)
steps_sound tape = all_steps_sound (step_words_of tape)

pub prime_of : (tape : List ℕ) → check_outcome tape ≡ answered 0 → Prime (header_of tape).modulus
prime_of tape e = accepted_prime tape (accepted 0 tape e)

pub record Loaded (tape : List ℕ) (a : ℕ) (s : Record) : Type 0 where
  pub accepted : accept_outcome tape ≡ answered (header_of tape)
  pub base : Residue (header_of tape).modulus a
  pub allowed : bad_base (header_of tape) a ≡ false
  pub record_is : s ≡ start_record a

pub load_answered : (tape : List ℕ) (a : ℕ) (s : Record) → load_outcome tape a ≡ answered s → Loaded tape a s
unfolding load_outcome base_rules
load_answered tape a s e =
    let register = passed _ _ _ _ _ (answered_own tape _ (start_record a) e) in
    record {
      accepted = answered_tape tape _ (start_record a) e;
      base = good_register _ a register.0;
      allowed = (passed _ _ _ _ _ register.1).0;
      record_is = answered_with tape _ (start_record a) e;
    }

pub run_answered : (tape : List ℕ) (s : Record) (goal : ℕ) {t : Record} → run_outcome tape s goal ≡ answered t
    → t ≡ record_at (header_of tape) (steps_of tape) s goal
unfolding run_outcome
run_answered tape s goal e = answered_with tape _ _ e

-- what 0 beside a cut says: its words are those of the definition, and stand where `cut_start` and `cut_count` say, inside a tape of at
-- most so many words as a tape has
pub record Stands (tape : List ℕ) (first last : ℕ) : Type 0 where
  pub words : cut_outcome tape first last ≡ answered (step_words tape first last)
  pub start : (held : ℕ) → after (cut_start tape first last) held ≡ step_index tape first
  pub count : (held : ℕ) → after (cut_count tape first last) held ≡ length (step_words tape first last)
  pub part : take (length (step_words tape first last)) (drop (step_index tape first) tape) ≡ step_words tape first last
  pub order : first ≤ last
  pub inside : step_index tape last ≤ length tape
  pub short : length tape ≤ max_words
  pub most : length (step_words tape first last) ≤ length tape

module _ (tape : List ℕ) (first last : ℕ) where
  abbrev words : List ℕ
  words = step_words tape first last

  abbrev rules : List Rule
  rules = check_rules tape ++ cut_rules (header_of tape) first last

  pub cut_stands : refusal_number (cut_outcome tape first last) ≡ 0 → Stands tape first last
  unfolding cut_outcome cut_rules cut_start cut_count on_tape
  cut_stands e =
      let answer = (zero_answered words words words rules e).0 in
      let all = accepted _ tape (answered_tape tape _ words answer) in
      let within = good_cut (header_of tape).steps first last (passed _ _ _ _ _ (answered_own tape _ words answer)).0 in
      let long = laid_out_long tape all.laid in
      let size = length-slice (step_index tape first) (step_index tape last) tape (omega arith) in
      record {
        words = answer;
        start = λ held. (zero_answered words (step_index tape first) held rules e).1;
        count = λ held. (zero_answered words (length words) held rules e).1;
        part = rw size (sym (slice_from (step_index tape first) (step_index tape last) tape));
        order = within.0;
        inside = omega arith;
        short = length_most tape all.long;
        most = omega arith;
      }

  -- and another number: both places hold what they held
  pub cut_not : ¬ (refusal_number (cut_outcome tape first last) ≡ 0) → (held : ℕ)
      → (after (cut_start tape first last) held ≡ held) × (after (cut_count tape first last) held ≡ held)
  unfolding cut_outcome cut_start cut_count on_tape
  cut_not some held = (other_refused words (step_index tape first) held rules some, other_refused words (length words) held rules some)

-- every run of every list is refused or answers as said
as_said : (q : Request) (s : Record) → AsSaid q s
unfolding run_outcome on_tape run_rules
as_said q s = refused_where (run_rules q.tape (given q s) q.goal) _

-- a row written from its first entry on, entry by entry
sets_none : (i : ℕ) (numbers : List ℕ) → sets [] i numbers ≡ []
sets_none i [] = refl
sets_none i (n ∷ numbers) = sets_none (suc i) numbers

sets_past : (x : ℕ) (row : List ℕ) (i : ℕ) (numbers : List ℕ) → sets (x ∷ row) (suc i) numbers ≡ x ∷ sets row i numbers
sets_past x row i [] = refl
sets_past x row i (n ∷ numbers) = sets_past x (set row i n) (suc i) numbers

-- with its number in its place of a row
pub each_as_said_lem : (qs : List Request) (s : Record) (row : List ℕ) → EachAsSaid qs s (sets row 0 (numbers_all qs s))
unfolding EachAsSaid numbers_all
each_as_said_lem [] s row = tt
each_as_said_lem (q ∷ qs) s [] =
    let rest = each_as_said_lem qs (record_after q s) [] in
    rw (sets_none 1 (numbers_all qs (record_after q s))) (as_said q s, rw (sets_none 0 (numbers_all qs (record_after q s))) at rest)
each_as_said_lem (q ∷ qs) s (n ∷ row) =
    rw (sets_past (refusal_number (answer_to q s)) row 0 (numbers_all qs (record_after q s)))
    (as_said q s, refl, each_as_said_lem qs (record_after q s) row)
