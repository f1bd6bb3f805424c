-- `put_number` meets its contract: the digits behind `first` are the number's last ones, and those of `rest` stand in front of them.
use mathlib.Core.Path.{◌≡◌, refl, sym, ap, ◌∙◌}
use mathlib.Core.List.{List, ◌∷◌, ◌++◌, append-nil}
use Prim.Native.Nat.{ℕ, zero, suc, ◌+◌, ◌-◌, ◌/◌, ◌%◌, ◌^◌, ◌≤◌, ◌<◌}
use Prim.Native.Char.{code}
use native.Mathlib.Nat.{pow-suc}
use native.Mathlib.Omega.{arith}
use lib.ListN.{length, take, drop, set, length-set, length-drop}
use lib.Seq.{append_snoc, set_split, drop_at, take_all, length-take-le}
use Rattle.text.specs.Text.{decimal}
use Rattle.text.proofs.Laws.Decimal.{decimal_one, decimal_again}
use Rattle.putting.proofs.Buffer.put_number.Invariants.{Spelt}
use Rattle.putting.proofs.Buffer.put_number.Goals as goal

-- a digit stored in front of those stored before
in_front : (digits : List ℕ) (first x : ℕ) → first < length digits → drop first (set digits first x) ≡ x ∷ drop (suc first) digits
in_front digits first x h = rw (set_split digits first x h) (drop_at (take first digits) _ first (length-take-le first digits (omega arith)))

-- ten and above have a second digit, and there is room for it
further : (first rest : ℕ) → rest < 10 ^ suc first → 10 ≤ rest → 1 ≤ first
further zero rest small h = absurd (omega arith)
further (suc first) rest small h = omega arith

module _ {n first rest : ℕ} {digits : List ℕ} (s : Spelt n digits first rest) where
  last-in_front : 10 ≤ rest → decimal n ≡ decimal (rest / 10) ++ drop first (set digits first (code "0" + rest % 10))
  last-in_front h =
      s.spells
      ∙ ap (λ (l : List ℕ). l ++ drop (suc first) digits) (decimal_again rest h)
      ∙ append_snoc (decimal (rest / 10)) _ _
      ∙ ap (λ (l : List ℕ). decimal (rest / 10) ++ l) (sym (in_front digits first _ (omega (arith, s.long, s.inside))))

  stored_length : (x : ℕ) → length (set digits first x) ≡ 20
  stored_length x = length-set digits first x ∙ s.long

  next_spelt : 10 ≤ rest → Spelt n (set digits first (code "0" + rest % 10)) (first - 1) (rest / 10)
  next_spelt h =
      let e : suc (first - 1) ≡ first = omega (arith, further first rest s.small h) in
      record {
        long = stored_length _;
        inside = omega (arith, s.inside);
        small = rw e (omega (arith, s.small, pow-suc 10 first));
        spells = rw e (last-in_front h);
      }

  all_spelt : rest < 10 → take (20 - first) (drop first (set digits first (code "0" + rest))) ≡ decimal n
  all_spelt h =
      let stored = set digits first (code "0" + rest) in
      take_all (20 - first) (drop first stored) (omega (arith, length-drop first stored, stored_length (code "0" + rest)))
      ∙ in_front digits first _ (omega (arith, s.long, s.inside))
      ∙ ap (λ (l : List ℕ). l ++ drop (suc first) digits) (sym (decimal_one rest h))
      ∙ sym s.spells

pub loop-rest-init : goal.loop-rest-init
loop-rest-init c = record { long = refl; inside = omega arith; small = omega (arith, c.ranges.n); spells = sym (append-nil _) }

pub bounds-digits-first : goal.bounds-digits-first
bounds-digits-first c = omega (arith, c.loop-rest.invariant.inside)

pub overflow_sub-first : goal.overflow_sub-first
overflow_sub-first c = further _ _ c.loop-rest.invariant.small c.loop-rest-test.true

pub loop-rest-smaller : goal.loop-rest-smaller
loop-rest-smaller c = omega (arith, further _ _ c.loop-rest.invariant.small c.loop-rest-test.true)

pub loop-rest-preserved : goal.loop-rest-preserved
loop-rest-preserved c = next_spelt c.loop-rest.invariant c.loop-rest-test.true

pub bounds-digits-first-2 : goal.bounds-digits-first-2
bounds-digits-first-2 c = omega (arith, c.loop-rest.invariant.inside)

pub slice_bounds-put-count : goal.slice_bounds-put-count
slice_bounds-put-count c = omega (arith, c.loop-rest.invariant.inside)

pub slice_bounds-put-start : goal.slice_bounds-put-start
slice_bounds-put-start c = omega (arith, c.loop-rest.invariant.inside)

pub slice_bounds-put-end : goal.slice_bounds-put-end
slice_bounds-put-end c = omega (arith, c.loop-rest.invariant.inside, stored_length c.loop-rest.invariant (code "0" + c.loop-rest.rest))

pub returns : goal.returns
returns c = rw (all_spelt c.loop-rest.invariant c.loop-rest-test.false) at c.put.ensures
