-- Rows one behind another: lane j of row i stands at 64 i + j, so a store there changes no other row and no other lane. What two rows
-- become by stores in one lane after another is told by what was stored in each.
use mathlib.Core.Path.{◌≡◌, refl, sym, ◌∙◌, ap}
use mathlib.Core.List.{List}
use Prim.Native.Nat.{ℕ, zero, suc, ◌+◌, ◌*◌, ◌<◌}
use native.Mathlib.Omega.{arith}
use native.Mathlib.Decide.{ℕ_discrete}
use lib.ListN.{length, set, length-set}
use lib.Seq.{get_or-set_same, get_or-set_other, ext_get_or}
use Rattle.machine.specs.Machine.{reg}
use Rattle.lanes.specs.Inner.Lanes.{max_lanes, all_words, entry, lane, Changed}

-- ---- a store in a lane of a row

module _ (rows : List ℕ) (t k x : ℕ) where
  stored : max_lanes * t + k < length rows → entry (set rows (max_lanes * t + k) x) t k ≡ x
  stored inside = get_or-set_same rows (max_lanes * t + k) x 0 inside

  other_row : (i j : ℕ) → ¬ (i ≡ t) → j < max_lanes → k < max_lanes → entry (set rows (max_lanes * t + k) x) i j ≡ entry rows i j
  other_row i j ne hj hk = get_or-set_other rows (max_lanes * t + k) (max_lanes * i + j) x 0 (λ e. ne (omega arith))

  other_lane : (i j : ℕ) → ¬ (j ≡ k) → j < max_lanes → k < max_lanes → entry (set rows (max_lanes * t + k) x) i j ≡ entry rows i j
  other_lane i j ne hj hk = get_or-set_other rows (max_lanes * t + k) (max_lanes * i + j) x 0 (λ e. ne (omega arith))

-- ---- two rows changed lane by lane

module _ (t u : ℕ) (f g : ℕ → ℕ) (before : List ℕ) where
  pub changed_none : Changed t u f g 0 before before
  changed_none =
      record {
        first = λ j less ne. absurd (omega arith);
        second = λ j less. absurd (omega arith);
        others = λ i j net neu inside. refl;
        ahead = λ i j past inside. refl;
        long = refl;
      }

  module _ (k : ℕ) (rows : List ℕ) (x y : ℕ) (inside : k < max_lanes) (long : length before ≡ all_words) (ht : t < 8) (hu : u < 8)
      (done : Changed t u f g k before rows) (ex : x ≡ f k) (ey : y ≡ g k) where
    abbrev once : List ℕ
    once = set rows (max_lanes * t + k) x

    abbrev next : List ℕ
    next = set once (max_lanes * u + k) y

    second_stored : entry next u k ≡ g k
    second_stored = stored once u k y (omega (arith, length-set rows (max_lanes * t + k) x, done.long, long)) ∙ ey

    first_stored : ¬ (t ≡ u) → entry next t k ≡ f k
    first_stored ne =
        other_row once u k y t k ne inside inside ∙ stored rows t k x (omega (arith, done.long, long)) ∙ ex

    earlier : (i j : ℕ) → ¬ (j ≡ k) → j < max_lanes → entry next i j ≡ entry rows i j
    earlier i j ne less = other_lane once u k y i j ne less inside ∙ other_lane rows t k x i j ne less inside

    pub changed_next : Changed t u f g (k + 1) before next
    changed_next =
        record {
          first = λ j less ne.
              elim (ℕ_discrete j k) [
                | yes e ↦ rw e (first_stored ne)
                | no h ↦ earlier t j h (omega arith) ∙ done.first j (omega arith) ne
              ];
          second = λ j less.
              elim (ℕ_discrete j k) [
                | yes e ↦ rw e second_stored
                | no h ↦ earlier u j h (omega arith) ∙ done.second j (omega arith)
              ];
          others = λ i j net neu less.
              other_row once u k y i j neu less inside ∙ other_row rows t k x i j net less inside ∙ done.others i j net neu less;
          ahead = λ i j past less. earlier i j (λ e. omega arith) less ∙ done.ahead i j (omega arith) less;
          long = length-set once (max_lanes * u + k) y ∙ length-set rows (max_lanes * t + k) x ∙ done.long;
        }

-- ---- a lane's four rows

module _ (rows : List ℕ) (from j : ℕ) where
  pub lane_at : (i : ℕ) → i < 4 → reg (lane rows from j) i ≡ entry rows (from + i) j
  lane_at zero less = let e : from ≡ from + 0 = omega arith in ap (λ (n : ℕ). entry rows n j) e
  lane_at (suc zero) less = refl
  lane_at (suc (suc zero)) less = refl
  lane_at (suc (suc (suc zero))) less = refl
  lane_at (suc (suc (suc (suc i)))) less = absurd (omega arith)

  -- known by each of them
  pub lane_is : (v : List ℕ) → length v ≡ 4 → ((i : ℕ) → i < 4 → entry rows (from + i) j ≡ reg v i) → lane rows from j ≡ v
  lane_is v four each =
      ext_get_or 0 (lane rows from j) v (sym four) (λ i less. lane_at i less ∙ each i less)

-- they are as they were where neither row is among them
module _ {t u : ℕ} {f g : ℕ → ℕ} {count : ℕ} {before after : List ℕ} (c : Changed t u f g count before after) (from j : ℕ) (inside : j < max_lanes) where
  pub lane_kept : ((i : ℕ) → i < 4 → ¬ (from + i ≡ t)) → ((i : ℕ) → i < 4 → ¬ (from + i ≡ u)) → lane after from j ≡ lane before from j
  lane_kept net neu =
      lane_is after from j (lane before from j) refl
      (λ i less. c.others (from + i) j (net i less) (neu i less) inside ∙ sym (lane_at before from j i less))

-- and where one row is, one register is set
module _ (rows : List ℕ) (from j : ℕ) (v : List ℕ) (four : length v ≡ 4) (s y : ℕ) (inside : s < 4) where
  pub lane_set : entry rows (from + s) j ≡ y → ((i : ℕ) → i < 4 → ¬ (i ≡ s) → entry rows (from + i) j ≡ reg v i) → lane rows from j ≡ set v s y
  lane_set here others =
      lane_is rows from j (set v s y) (length-set v s y ∙ four)
      (λ i less.
      elim (ℕ_discrete i s) [
        | yes e ↦ rw e (here ∙ sym (get_or-set_same v s y 0 (omega arith)))
        | no h ↦ others i less h ∙ sym (get_or-set_other v s i y 0 h)
      ])
