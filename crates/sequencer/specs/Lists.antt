-- A list of runs, one after another. The list gives tapes, turns and goals only: each run gets the record as it stands after the runs
-- before it and its own turn, and what it makes of that is what run's own contract says.
use Rattle.std.specs.Prelude.{◌≡◌, List, [], ◌∷◌, ◌++◌, ℕ, zero, suc, ◌^◌, ◌<◌}
use Rattle.refusal.specs.Outcomes.{Outcome, refused, answered, refusal_number, after}
use Rattle.tape.specs.Layout.{part}
use Rattle.sequencer.specs.Records.{Record}
use Rattle.sequencer.specs.Services.{run_outcome}

-- what the user does to the position before a run: nothing, or a turn, which sets it; the registers stay
pub data Turn : Type 0 where
  none : Turn
  to : ℕ → Turn

abbrev pub turned : Turn → Record → Record
turned none s = s
turned (to n) s = record { registers = s.registers; position = n }

pub record Request : Type 0 where
  pub tape : List ℕ
  pub turn : Turn
  pub goal : ℕ

-- the record that a request's run gets
abbrev pub given : Request → Record → Record
given q s = turned q.turn s

-- what run answers to a request at record s
abbrev pub answer_to : Request → Record → Outcome Record
answer_to q s = run_outcome q.tape (given q s) q.goal

-- the record after it: a refused run leaves what it got
abbrev pub record_after : Request → Record → Record
record_after q s = after (answer_to q s) (given q s)

-- the record after all runs of a list
unfoldable pub after_all : List Request → Record → Record
after_all [] s = s
after_all (q ∷ qs) s = after_all qs (record_after q s)

-- the number of each run of a list, in order: 0 or its refusal's
unfoldable pub numbers_all : List Request → Record → List ℕ
numbers_all [] s = []
numbers_all (q ∷ qs) s = refusal_number (answer_to q s) ∷ numbers_all qs (record_after q s)

-- ---- the runs that aren't refused

-- a run as it was done: its tape, the position that it began at, and its goal
pub record CompletedRun : Type 0 where
  pub tape : List ℕ
  pub from : ℕ
  pub goal : ℕ

abbrev pub unless_refused : Outcome Record → CompletedRun → List CompletedRun → List CompletedRun
unless_refused (refused n) q qs = qs
unless_refused (answered s) q qs = q ∷ qs

-- those of a list, in order
unfoldable pub performed : List Request → Record → List CompletedRun
performed [] s = []
performed (q ∷ qs) s =
    unless_refused (answer_to q s) (record { tape = q.tape; from = (given q s).position; goal = q.goal }) (performed qs (record_after q s))

-- ---- requests as words

-- 0 is no turn, n + 1 a turn to n
abbrev pub turn_of : ℕ → Turn
turn_of zero = none
turn_of (suc n) = to n

-- Four words make a request: where its tape begins and ends in the row, its turn and its goal. One to three words left over make none.
unfoldable pub requests_of : List ℕ → List ℕ → List Request
requests_of row [] = []
requests_of row (begin ∷ []) = []
requests_of row (begin ∷ end ∷ []) = []
requests_of row (begin ∷ end ∷ turn ∷ []) = []
requests_of row (begin ∷ end ∷ turn ∷ goal ∷ words) =
    record { tape = part row begin end; turn = turn_of turn; goal = goal } ∷ requests_of row words

-- ---- requests that words can give

-- numbers below a limit
unfoldable pub AllBelow : ℕ → List ℕ → Type 0
AllBelow limit [] = Unit {0}
AllBelow limit (x ∷ xs) = (x < limit) × AllBelow limit xs

-- a row and words of 32 bits that give a list
pub record EncodedRequests (qs : List Request) : Type 0 where
  pub row : List ℕ
  pub words : List ℕ
  pub row_fits : AllBelow (2 ^ 32) row
  pub words_fit : AllBelow (2 ^ 32) words
  pub requests : requests_of row words ≡ qs

-- Every list is given so whose tapes, goals and turns' words are 32-bit numbers, and whose tapes have below 2^32 words in all:
-- `requests_given` of proofs/Laws/Requests. Here are its tapes one behind another, and what it says of turns and goals.
unfoldable pub tapes_of : List Request → List ℕ
tapes_of [] = []
tapes_of (q ∷ qs) = q.tape ++ tapes_of qs

-- the word of a turn
abbrev pub turn_word : Turn → ℕ
turn_word none = 0
turn_word (to n) = suc n

unfoldable pub PositionsFit : List Request → Type 0
PositionsFit [] = Unit {0}
PositionsFit (q ∷ qs) = (turn_word q.turn < 2 ^ 32) × (q.goal < 2 ^ 32) × PositionsFit qs
