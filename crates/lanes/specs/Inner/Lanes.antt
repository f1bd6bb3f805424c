-- Eight rows of lanes, one behind another: the registers 0 to 3 in the form, then the inverse of each.
use Rattle.std.specs.Prelude.{◌≡◌, cond, List, [], ◌∷◌, map, ℕ, ◌+◌, ◌*◌, ◌≤◌, ◌<◌, ltb, length, get_or}
use Rattle.tape.specs.declared.Step.{Step}
use Rattle.tape.specs.declared.Operation.{Operation}
use Rattle.montgomery.specs.declared.Modulus.{Modulus}
use Rattle.montgomery.specs.Inner.Forms.{form_times, enter, leave, form_inverse}
use Rattle.machine.specs.Machine.{reg}
use Rattle.machine.specs.Inner.Carried.{apply_with, do_all_with}

-- the most lanes, which is how long a row is, and the words of all eight rows
abbrev pub max_lanes : ℕ
max_lanes = 64

abbrev pub all_words : ℕ
all_words = 8 * max_lanes

-- what row i has in lane j
abbrev pub entry : List ℕ → ℕ → ℕ → ℕ
entry rows i j = reg rows (max_lanes * i + j)

-- what lane j has in four rows from `first` on: the registers from 0 on, their inverses from 4 on
abbrev pub lane : List ℕ → ℕ → ℕ → List ℕ
lane rows first j = entry rows first j ∷ entry rows (first + 1) j ∷ entry rows (first + 2) j ∷ entry rows (first + 3) j ∷ []

-- two rows have f and g in the first `count` lanes, and nothing else changed; where both are one row, it has g
pub record Changed (t u : ℕ) (f g : ℕ → ℕ) (count : ℕ) (before after : List ℕ) : Type 0 where
  pub first : (j : ℕ) → j < count → ¬ (t ≡ u) → entry after t j ≡ f j
  pub second : (j : ℕ) → j < count → entry after u j ≡ g j
  pub others : (i j : ℕ) → ¬ (i ≡ t) → ¬ (i ≡ u) → j < max_lanes → entry after i j ≡ entry before i j
  pub ahead : (i j : ℕ) → count ≤ j → j < max_lanes → entry after i j ≡ entry before i j
  pub long : length after ≡ length before

-- row t has what row s had, and row s what row t had
abbrev pub Exchanged : ℕ → ℕ → ℕ → List ℕ → List ℕ → Type 0
Exchanged t s count before after = Changed t s (entry before s) (entry before t) count before after

-- a register's row is multiplied by row a, and its inverse's by row b
abbrev pub Multiplied : Modulus → ℕ → ℕ → ℕ → ℕ → List ℕ → List ℕ → Type 0
Multiplied m t a b count before after =
    Changed t (4 + t) (λ j. form_times m (entry before t j) (entry before a j)) (λ j. form_times m (entry before (4 + t) j) (entry before b j)) count before after

-- register 1 has the forms of the bases, beside their inverses
abbrev pub BasesIn : Modulus → List ℕ → List ℕ → List ℕ → Type 0
BasesIn m bases before after =
    Changed 1 5 (λ j. enter m (get_or bases j 0)) (λ j. form_inverse m (enter m (get_or bases j 0))) (length bases) before after

-- ---- steps in lanes

-- eight rows, of which some lanes are in use
pub record Rows (count : ℕ) (rows : List ℕ) : Type 0 where
  pub few : count ≤ max_lanes
  pub eight : length rows ≡ all_words

-- a step between registers
pub record Between (op : Operation) : Type 0 where
  pub target : op.target < 4
  pub source : op.source < 4

-- each lane has what the step makes of it
pub record Stepped (m : Modulus) (x : Step) (count : ℕ) (before after : List ℕ) : Type 0 where
  pub values : (j : ℕ) → j < count → lane after 0 j ≡ apply_with (form_times m) x (lane before 0 j) (lane before 4 j)
  pub inverses : (j : ℕ) → j < count → lane after 4 j ≡ apply_with (form_times m) x (lane before 4 j) (lane before 0 j)
  pub long : length after ≡ length before

-- each lane has what the steps make of it
pub record AllStepped (m : Modulus) (xs : List Step) (count : ℕ) (before after : List ℕ) : Type 0 where
  pub each : (j : ℕ) → j < count → lane after 0 j ≡ do_all_with (form_times m) xs (lane before 0 j) (lane before 4 j)
  pub long : length after ≡ length before

-- ---- a row of bases

-- (1, a, 1, 1) in the form, and the inverses
abbrev pub start_forms : Modulus → ℕ → List ℕ
start_forms m a = enter m 1 ∷ enter m a ∷ enter m 1 ∷ enter m 1 ∷ []

abbrev pub start_inverses : Modulus → ℕ → List ℕ
start_inverses m a = enter m 1 ∷ form_inverse m (enter m a) ∷ enter m 1 ∷ enter m 1 ∷ []

-- what steps on these make in register 1
unfoldable pub through : Modulus → List Step → ℕ → ℕ
through m xs a = leave m (reg (do_all_with (form_times m) xs (start_forms m a) (start_inverses m a)) 1)

-- the row afterwards; of more bases than there are lanes it is as it was
unfoldable pub through_lanes : Modulus → List Step → List ℕ → List ℕ
through_lanes m xs bases = cond (ltb max_lanes (length bases)) bases (map (through m xs) bases)

-- each base's place has what register 1 of its lane has
pub record Unloaded (m : Modulus) (rows before after : List ℕ) : Type 0 where
  pub each : (j : ℕ) → j < length before → get_or after j 0 ≡ leave m (entry rows 1 j)
  pub long : length after ≡ length before
