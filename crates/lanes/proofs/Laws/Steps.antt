-- A step in every lane: exchanging and multiplying rows does in each lane what the step does on its registers beside their inverses.
use mathlib.Core.Path.{◌≡◌, refl, sym, ◌∙◌, ap, ap₂}
use Rattle.std.specs.Prelude.{◌≢◌}
use mathlib.Core.Bool.{Bool, true, false, cond}
use mathlib.Core.List.{List}
use Prim.Native.Nat.{ℕ, ◌+◌, ◌≤◌, ◌<◌, ◌%◌, ◌/◌}
use native.Mathlib.Nat.{mod-lt}
use native.Mathlib.Omega.{arith}
use native.Mathlib.Decide.{ℕ_discrete}
use lib.ListN.{set, length-set}
use lib.Seq.{get_or-set_same, get_or-set_other}
use Rattle.tape.specs.declared.Step.{Step}
use Rattle.tape.specs.declared.Step.TheVariants.{Mul, Div, Swp}
use Rattle.tape.specs.declared.Operation.{Operation}
use Rattle.tape.specs.declared.Opcode.{Opcode}
use Rattle.tape.specs.declared.Opcode.TheVariants.{Mul as ByMul, Div as ByDiv, Swp as BySwp}
use Rattle.tape.specs.Inner.Operations.{step_by, raw_step, step_for}
use Rattle.montgomery.specs.declared.Modulus.{Modulus}
use Rattle.montgomery.specs.Inner.Forms.{form_times}
use Rattle.machine.specs.Machine.{reg}
use Rattle.machine.proofs.Laws.Carried.{factor_by, exchange_by}
use Rattle.lanes.specs.Inner.Lanes.{max_lanes, entry, lane, Exchanged, Multiplied, Between, Stepped}
use Rattle.lanes.proofs.Laws.Rows.{lane_at, lane_kept, lane_set}

-- ---- the step that a word has in its digits is between registers

target : Step → ℕ
target (Mul t s) = t
target (Div t s) = t
target (Swp t s) = t

source : Step → ℕ
source (Mul t s) = s
source (Div t s) = s
source (Swp t s) = s

module _ (t s : ℕ) where
  target_by : (o : Opcode) → target (step_by o t s) ≡ t
  unfolding step_by target
  target_by ByMul = refl
  target_by ByDiv = refl
  target_by BySwp = refl

  source_by : (o : Opcode) → source (step_by o t s) ≡ s
  unfolding step_by source
  source_by ByMul = refl
  source_by ByDiv = refl
  source_by BySwp = refl

pub raw_between : (op : Operation) (w : ℕ) → step_for op ≡ raw_step w → Between op
unfolding raw_step
raw_between op w same =
    let t : op.target ≡ w % 4 = sym (target_by _ _ op.opcode) ∙ ap target same ∙ target_by _ _ _ in
    let s : op.source ≡ w / 4 % 4 = sym (source_by _ _ op.opcode) ∙ ap source same ∙ source_by _ _ _ in
    record { target = omega (arith, t, mod-lt w {m = 4} (omega arith)); source = omega (arith, s, mod-lt (w / 4) {m = 4} (omega arith)) }

-- ---- exchanged

module _ {t u count : ℕ} {before after : List ℕ} (c : Exchanged t u count before after) (from tt ss j : ℕ) (et : t ≡ from + tt) (es : u ≡ from + ss)
    (ht : tt < 4) (hs : ss < 4) (less : j < count) (few : count ≤ max_lanes) where
  abbrev old : List ℕ
  old = lane before from j

  target_is : entry before t j ≡ reg old tt
  target_is = ap (λ (n : ℕ). entry before n j) et ∙ sym (lane_at before from j tt ht)

  source_is : entry before u j ≡ reg old ss
  source_is = ap (λ (n : ℕ). entry before n j) es ∙ sym (lane_at before from j ss hs)

  lane_exchanged : lane after from j ≡ set (set old tt (reg old ss)) ss (reg old tt)
  lane_exchanged =
      lane_set after from j (set old tt (reg old ss)) (length-set old tt (reg old ss)) ss (reg old tt) hs
      (ap (λ (n : ℕ). entry after n j) (sym es) ∙ c.second j less ∙ target_is)
      (λ i inside ne.
      elim (ℕ_discrete i tt) [
        | yes e ↦
            rw e
            (ap (λ (n : ℕ). entry after n j) (sym et)
            ∙ c.first j less (λ same. ne (omega arith))
            ∙ source_is
            ∙ sym (get_or-set_same old tt (reg old ss) 0 ht))
        | no h ↦
            c.others (from + i) j (λ same. h (omega arith)) (λ same. ne (omega arith)) (omega arith)
            ∙ sym (lane_at before from j i inside)
            ∙ sym (get_or-set_other old tt i (reg old ss) 0 h)
      ])

-- ---- multiplied: the register's row is among the first four, its inverse's among the others

module _ (m : Modulus) (t a b : ℕ) {count : ℕ} {before after : List ℕ} (c : Multiplied m t a b count before after) (inside : t < 4) (j : ℕ) (less : j < count)
    (few : count ≤ max_lanes) where
  value_multiplied : lane after 0 j ≡ set (lane before 0 j) t (form_times m (entry before t j) (entry before a j))
  value_multiplied =
      let here : 0 + t ≡ t = omega arith in
      lane_set after 0 j (lane before 0 j) refl t _ inside
      (ap (λ (n : ℕ). entry after n j) here ∙ c.first j less (λ e. omega arith))
      (λ i low ne. c.others (0 + i) j (λ e. ne (omega arith)) (λ e. omega arith) (omega arith) ∙ sym (lane_at before 0 j i low))

  inverse_multiplied : lane after 4 j ≡ set (lane before 4 j) t (form_times m (entry before (4 + t) j) (entry before b j))
  inverse_multiplied =
      lane_set after 4 j (lane before 4 j) refl t _ inside
      (c.second j less)
      (λ i low ne. c.others (4 + i) j (λ e. omega arith) (λ e. ne (omega arith)) (omega arith) ∙ sym (lane_at before 4 j i low))

-- ---- a step

-- what row i has in a lane is what the lane has in register i, or in its inverse
module _ (rows : List ℕ) (j i : ℕ) (inside : i < 4) where
  value_at : entry rows i j ≡ reg (lane rows 0 j) i
  value_at = let here : i ≡ 0 + i = omega arith in ap (λ (n : ℕ). entry rows n j) here ∙ sym (lane_at rows 0 j i inside)

  inverse_at : entry rows (4 + i) j ≡ reg (lane rows 4 j) i
  inverse_at = sym (lane_at rows 4 j i inside)

module _ (m : Modulus) (op : Operation) (count : ℕ) (before after : List ℕ) (g : Between op) (few : count ≤ max_lanes) where
  abbrev t : ℕ
  t = op.target

  abbrev s : ℕ
  s = op.source

  pub exchanged : (middle : List ℕ) → op.opcode ≡ BySwp → Exchanged t s count before middle → Exchanged (4 + t) (4 + s) count middle after
      → Stepped m (step_for op) count before after
  exchanged middle more one two =
      record {
        values = λ j less.
            lane_kept two 0 j (omega arith) (λ i low e. omega arith) (λ i low e. omega arith)
            ∙ lane_exchanged one 0 t s j (omega arith) (omega arith) g.target g.source less few
            ∙ sym (exchange_by (form_times m) t s _ _ op.opcode more);
        inverses = λ j less.
            lane_exchanged two 4 t s j refl refl g.target g.source less few
            ∙ ap (λ (l : List ℕ). set (set l t (reg l s)) s (reg l t))
            (lane_kept one 4 j (omega arith) (λ i low e. omega arith) (λ i low e. omega arith))
            ∙ sym (exchange_by (form_times m) t s _ _ op.opcode more);
        long = two.long ∙ one.long;
      }

  -- a product whose factors are chosen by whether the step divides
  by_rows : (a b : ℕ) → Multiplied m t a b count before after → op.opcode ≢ BySwp → (divides : Bool)
      → (divides ≡ true → op.opcode ≡ ByDiv) → (divides ≡ false → op.opcode ≢ ByDiv)
      → ((j : ℕ) → entry before a j ≡ cond divides (reg (lane before 4 j) s) (reg (lane before 0 j) s))
      → ((j : ℕ) → entry before b j ≡ cond divides (reg (lane before 0 j) s) (reg (lane before 4 j) s))
      → Stepped m (step_for op) count before after
  by_rows a b c apart divides does other of_values of_inverses =
      record {
        values = λ j less.
            value_multiplied m t a b c g.target j less few
            ∙ ap₂ (λ (x y : ℕ). set (lane before 0 j) t (form_times m x y)) (value_at before j t g.target) (of_values j)
            ∙ sym (factor_by (form_times m) t s _ _ op.opcode apart divides does other);
        inverses = λ j less.
            inverse_multiplied m t a b c g.target j less few
            ∙ ap₂ (λ (x y : ℕ). set (lane before 4 j) t (form_times m x y)) (inverse_at before j t g.target) (of_inverses j)
            ∙ sym (factor_by (form_times m) t s _ _ op.opcode apart divides does other);
        long = c.long;
      }

  pub divided : op.opcode ≡ ByDiv → Multiplied m t (4 + s) s count before after → Stepped m (step_for op) count before after
  divided is c =
      by_rows (4 + s) s c (λ e. let f = sym is ∙ e in cc) true (λ e. is) (λ e. cc)
      (λ j. inverse_at before j s g.source) (λ j. value_at before j s g.source)

  pub multiplied : op.opcode ≡ ByMul → Multiplied m t s (4 + s) count before after → Stepped m (step_for op) count before after
  multiplied is c =
      by_rows s (4 + s) c (λ e. let f = sym is ∙ e in cc) false (λ e. cc) (λ e f. let f' = sym is ∙ f in cc)
      (λ j. value_at before j s g.source) (λ j. inverse_at before j s g.source)
