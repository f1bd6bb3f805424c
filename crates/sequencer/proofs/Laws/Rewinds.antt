-- Demand 3, rewind: from any record on, the runs of a list come to what one run to the last position makes, since a run from i to
-- j and one from j to k are a run from i to k, and a refused run without a turn changes nothing. So a list that comes back to its
-- position is a run from it to itself.
use mathlib.Core.Path.{◌≡◌, refl, sym, ap, ap₂, subst, ◌∙◌}
use mathlib.Core.List.{List, [], ◌∷◌}
use Prim.Native.Nat.{ℕ}
use lib.Seq.{sets}
use Rattle.refusal.specs.Outcomes.{Outcome, refused, answered, after}
use Rattle.modular.specs.Primes.{Prime}
use Rattle.tape.specs.declared.Step.{Step}
use Rattle.tape.specs.Layout.{header_of, steps_of}
use Rattle.machine.specs.Machine.{run, Residues}
use Rattle.machine.proofs.Laws.Runs.{run_residues, run_compose}
use Rattle.machine.proofs.Laws.Ways.{run_here}
use Rattle.sequencer.specs.Records.{Record}
use Rattle.sequencer.specs.Services.{record_at}
use Rattle.sequencer.specs.Lists.{Turn, none, turned, Request, given, answer_to, after_all, numbers_all, unless_refused, performed}
use Rattle.sequencer.specs.Demand.{NoTurns, Returns, BeginReached, RewindEnds}
use Rattle.sequencer.proofs.Laws.Answers.{steps_sound, prime_of, run_answered, each_as_said_lem}

-- without a turn a run gets the record as it stands
given_straight : (q : Request) (s : Record) → q.turn ≡ none → given q s ≡ s
given_straight q s e = ap (λ (t : Turn). turned t s) e

-- so each run begins at the position reached
pub begin_reached_lem : (qs : List Request) (s : Record) → NoTurns qs → BeginReached s.position (performed qs s)
unfolding performed NoTurns BeginReached
begin_reached_lem [] s straight = tt
begin_reached_lem (q ∷ qs) s straight = go (answer_to q s) refl (λ t. begin_reached_lem qs t straight.1)
  where
    position : (given q s).position ≡ s.position
    position = ap (λ (t : Record). t.position) (given_straight q s straight.0)

    go : (answer : Outcome Record) → answer_to q s ≡ answer → ((t : Record) → BeginReached t.position (performed qs t))
        → BeginReached s.position
        (unless_refused answer (record { tape = q.tape; from = (given q s).position; goal = q.goal }) (performed qs (after answer (given q s))))
    go (refused n) e rest = subst (λ (i : ℕ). BeginReached i (performed qs (given q s))) position (rest (given q s))
    go (answered t) e rest =
        let there : t.position ≡ q.goal = ap (λ (x : Record). x.position) (run_answered q.tape (given q s) q.goal e) in
        (position, subst (λ (i : ℕ). BeginReached i (performed qs t)) there (rest t))

module _ (tape : List ℕ) (home : ℕ) (pr : Prime (header_of tape).modulus) where
  abbrev p : ℕ
  p = (header_of tape).modulus

  abbrev xs : List Step
  xs = steps_of tape

  -- the record that one run brings to a position
  abbrev ran_to : ℕ → Record → Record
  ran_to goal s = record_at (header_of tape) xs s goal

  from_there : (qs : List Request) (s : Record) → Residues p s.registers → NoTurns qs → Returns tape home s.position (performed qs s)
      → after_all qs s ≡ ran_to home s
  unfolding after_all performed NoTurns Returns
  from_there [] s g straight e =
      ap₂ (λ (v : List ℕ) (i : ℕ). record { registers = v; position = i })
      (sym (run_here p xs s.position s.registers) ∙ ap (λ (j : ℕ). run p xs s.position j s.registers) e) e
  from_there (q ∷ qs) s g straight h = go (answer_to q s) refl (λ t residues. from_there qs t residues straight.1) h
    where
      same : given q s ≡ s
      same = given_straight q s straight.0

      go : (answer : Outcome Record) → answer_to q s ≡ answer
          → ((t : Record) → Residues p t.registers → Returns tape home t.position (performed qs t) → after_all qs t ≡ ran_to home t)
          → Returns tape home s.position
          (unless_refused answer (record { tape = q.tape; from = (given q s).position; goal = q.goal }) (performed qs (after answer (given q s))))
          → after_all qs (after answer (given q s)) ≡ ran_to home s
      go (refused n) e rest returns =
          rest (given q s) (subst (λ (t : Record). Residues p t.registers) (sym same) g)
          (subst (λ (t : Record). Returns tape home t.position (performed qs (given q s))) (sym same) returns)
          ∙ ap (ran_to home) same
      go (answered t) e rest returns =
          let there : t ≡ ran_to q.goal s =
          run_answered q.tape (given q s) q.goal e
          ∙ ap₂ (λ (l : List ℕ) (u : Record). record_at (header_of l) (steps_of l) u q.goal) returns.0 same in
          rest t
          (subst (λ (u : Record). Residues p u.registers) (sym there) (run_residues p pr xs (steps_sound tape) s.position q.goal s.registers g))
          (subst (λ (u : Record). Returns tape home u.position (performed qs t)) (sym there) returns.1)
          ∙ ap (ran_to home) there
          ∙ ap (λ (v : List ℕ). record { registers = v; position = home })
          (run_compose p pr xs (steps_sound tape) s.position q.goal home s.registers g)

pub rewind_ends_lem : (qs : List Request) (s : Record) (row : List ℕ) → RewindEnds qs s (sets row 0 (numbers_all qs s)) (after_all qs s)
rewind_ends_lem qs s row tape h =
    let pr = prime_of tape h.accepted in (
      each_as_said_lem qs s row,
      from_there tape s.position pr qs s h.registers h.no_turns h.returns
          ∙ ap (λ (v : List ℕ). record { registers = v; position = s.position })
          (run_here (header_of tape).modulus (steps_of tape) s.position s.registers),
    )
