-- Demand 3, REQUIREMENTS 10 in the words of document 02, T-04 and T-06: chains and rewinds, each a claim about a list of runs as a whole.
use Rattle.std.specs.Prelude.{◌≡◌, ◌⊎◌, true, false, cond, List, [], ◌∷◌, ℕ, ◌*◌, ◌%◌, ◌^◌, ◌≤◌, ltb}
use Rattle.refusal.specs.Outcomes.{refused, answered, applies, refusal_number}
use Rattle.modular.specs.Inverses.{inverse}
use Rattle.orders.specs.Orders.{OrderOf}
use Rattle.tape.specs.Layout.{header_of, steps_of}
use Rattle.machine.specs.Machine.{Residues, start}
use Rattle.program.specs.Services.{is_named, check_outcome}
use Rattle.sequencer.specs.Records.{Record}
use Rattle.sequencer.specs.Services.{start_record, load_outcome, run_rules, record_at}
use Rattle.sequencer.specs.Lists.{none, to, Request, given, answer_to, record_after, CompletedRun, performed}

-- ---- what is said of every run

-- what the steps between the record's position and the goal, done or undone one after another, make of the record
abbrev pub record_reached : Request → Record → Record
record_reached q s = record_at (header_of q.tape) (steps_of q.tape) s q.goal

-- It is refused exactly where a refusal listed for run applies to the record it gets; otherwise it answers what the steps make of that.
abbrev pub AsSaid : Request → Record → Type 0
AsSaid q s =
    ((applies (run_rules q.tape (given q s) q.goal) ≡ true) × ((n : ℕ) × (answer_to q s ≡ refused n)))
    ⊎ ((applies (run_rules q.tape (given q s) q.goal) ≡ false) × (answer_to q s ≡ answered (record_reached q (given q s))))

-- So does every run of a list from record s, and the number beside it, in a row as far as that goes, is its own: 0 or its refusal's.
unfoldable pub EachAsSaid : List Request → Record → List ℕ → Type 0
EachAsSaid [] s numbers = Unit {0}
EachAsSaid (q ∷ qs) s [] = AsSaid q s × EachAsSaid qs (record_after q s) []
EachAsSaid (q ∷ qs) s (n ∷ numbers) = AsSaid q s × (n ≡ refusal_number (answer_to q s)) × EachAsSaid qs (record_after q s) numbers

-- ---- chains

-- a run that takes an accepted named program for p and r end to end, forward or backward
pub record EndToEnd (p r : ℕ) (q : CompletedRun) : Type 0 where
  pub accepted : check_outcome q.tape ≡ answered 0
  pub named : is_named (header_of q.tape) ≡ true
  pub modulus : (header_of q.tape).modulus ≡ p
  pub order : (header_of q.tape).order ≡ r
  pub ends : ((q.from ≡ 0) × (q.goal ≡ (header_of q.tape).steps)) ⊎ ((q.from ≡ (header_of q.tape).steps) × (q.goal ≡ 0))

unfoldable pub AllEndToEnd : ℕ → ℕ → List CompletedRun → Type 0
AllEndToEnd p r [] = Unit {0}
AllEndToEnd p r (q ∷ qs) = EndToEnd p r q × AllEndToEnd p r qs

-- A chain starts from the (1, a, 1, 1) that load answered on an accepted program of that p, with a^r = 1 modulo p, at whatever
-- position. Each run not refused takes an accepted named program for p and r end to end: it begins at 0 and goes to the step count, or
-- the other way round. Whether a turn set the position that it begins at, or the record stood there, makes no difference.
pub record Chain (p r a : ℕ) (qs : List Request) (s : Record) : Type 0 where
  pub tape : List ℕ
  pub accepted : check_outcome tape ≡ answered 0
  pub modulus : (header_of tape).modulus ≡ p
  pub loaded : load_outcome tape a ≡ answered (start_record a)
  pub registers : s.registers ≡ start a
  pub power : a ^ r % p ≡ 1
  pub links : AllEndToEnd p r (performed qs s)

-- Document 02's own words for the links: each run of the list is refused, whatever its turn, or has a turn before it, to 0 for a forward
-- run and to the step count for a backward one. From what load answered, such a list is a chain: `turned_chain` of proofs/Laws/Chains.
abbrev pub TurnedEndToEnd : ℕ → ℕ → Request → Type 0
TurnedEndToEnd p r q = (n : ℕ) × ((q.turn ≡ to n) × EndToEnd p r (record { tape = q.tape; from = n; goal = q.goal }))

unfoldable pub TurnedOrRefused : ℕ → ℕ → List Request → Record → Type 0
TurnedOrRefused p r [] s = Unit {0}
TurnedOrRefused p r (q ∷ qs) s = (((n : ℕ) × (answer_to q s ≡ refused n)) ⊎ TurnedEndToEnd p r q) × TurnedOrRefused p r qs (record_after q s)

-- the factor of a run: k if forward, the inverse of k if backward; a named program has steps, so end to end is one of the two
abbrev pub factor : ℕ → CompletedRun → ℕ
factor r q = let k = (header_of q.tape).exponent in cond (ltb q.from q.goal) k (inverse r k)

-- E after runs, from E before them
unfoldable pub exponent_after : ℕ → List CompletedRun → ℕ → ℕ
exponent_after r [] E = E
exponent_after r (q ∷ qs) E = exponent_after r qs (E * factor r q % r)

-- a^E after a list of runs from record s, modulo p
abbrev pub power_after : ℕ → ℕ → ℕ → List Request → Record → ℕ
power_after p r a qs s = a ^ exponent_after r (performed qs s) 1 % p

-- DEMAND 3, CHAIN. If a list is a chain from record s, every run in it is refused or answers as said, with its number among
-- `numbers`, and the registers at its end, those of `last`, are (1, a^E, 1, 1). Where a has order r, so has a^E.
abbrev pub ChainEnds : List Request → Record → List ℕ → Record → Type 0
ChainEnds qs s numbers last =
    (p r a : ℕ) → Chain p r a qs s
    → EachAsSaid qs s numbers
    × (last.registers ≡ start (power_after p r a qs s))
    × (OrderOf p a r → OrderOf p (power_after p r a qs s) r)

-- ---- rewinds

-- no request of a list has a turn
unfoldable pub NoTurns : List Request → Type 0
NoTurns [] = Unit {0}
NoTurns (q ∷ qs) = (q.turn ≡ none) × NoTurns qs

-- runs of one program, of which the last goes to `home`; `at` is the position reached before them
unfoldable pub Returns : List ℕ → ℕ → ℕ → List CompletedRun → Type 0
Returns tape home at [] = at ≡ home
Returns tape home at (q ∷ qs) = (q.tape ≡ tape) × Returns tape home q.goal qs

-- Each run begins at the position reached: at first `at`, then the goal of the run before it. That is a fact of every list without turns:
-- `begin_reached_lem` of proofs/Laws/Rewinds.
unfoldable pub BeginReached : ℕ → List CompletedRun → Type 0
BeginReached at [] = Unit {0}
BeginReached at (q ∷ qs) = (q.from ≡ at) × BeginReached q.goal qs

-- A rewind starts from any four registers from 1 to p - 1 and any position of one accepted program. It has no turns, each run not
-- refused is of that program, and at the end the position reached is the starting position again.
pub record Rewind (tape : List ℕ) (qs : List Request) (s : Record) : Type 0 where
  pub accepted : check_outcome tape ≡ answered 0
  pub position : s.position ≤ (header_of tape).steps
  pub registers : Residues (header_of tape).modulus s.registers
  pub no_turns : NoTurns qs
  pub returns : Returns tape s.position s.position (performed qs s)

-- DEMAND 3, REWIND. If a list is a rewind from record s, every run in it is refused or answers as said, with its number among
-- `numbers`, and the record at its end, `last`, is as it was.
abbrev pub RewindEnds : List Request → Record → List ℕ → Record → Type 0
RewindEnds qs s numbers last =
    (tape : List ℕ) → Rewind tape qs s → EachAsSaid qs s numbers × (last ≡ s)
