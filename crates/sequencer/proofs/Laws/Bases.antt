-- Many bases in one pass: where the row is answered, each base is one that load answers, so what is in its place is register 1 of its own
-- run forward from end to end, which of a named program is the power.
use mathlib.Core.Path.{◌≡◌, refl, sym, ap, ap₂, ◌∙◌}
use mathlib.Core.Bool.{true}
use mathlib.Core.List.{List, [], ◌∷◌, ◌++◌, map, append-nil}
use Prim.Native.Nat.{ℕ, zero, suc, ◌%◌, ◌^◌, ◌≤◌, ◌<◌}
use native.Mathlib.Nat.{not-suc-le-zero, le_of_suc-le-suc}
use native.Mathlib.Omega.{arith}
use borrow.Author.Tests.{lt-ltb, le-ltb, eq-eqb, ne_eqb, eqb-false, not-true, not-false}
use lib.ListN.{length, get_or}
use Rattle.refusal.specs.Outcomes.{Rule, refused, answered, outcome, after, gives, passes, answers}
use Rattle.refusal.proofs.Laws.Rules.{passed, refused_before, passed_before, answered_before, still_refused, still_answered}
use Rattle.modular.specs.Residues.{Residue}
use Rattle.orders.specs.Orders.{OrderOf}
use Rattle.tape.specs.declared.Header.{Header}
use Rattle.tape.specs.Layout.{header_of, steps_of}
use Rattle.machine.specs.Machine.{reg, do_all, start}
use Rattle.machine.proofs.Laws.Lists.{get_d_map}
use Rattle.program.specs.Services.{is_named, check_rules, check_outcome, accept_outcome}
use Rattle.program.specs.Door.{on_tape}
use Rattle.program.proofs.Laws.Door.{tape_refused, tape_accepted, answered_tape, answered_own}
use Rattle.sequencer.specs.Services.{start_record, base_rules, load_outcome, forward_outcome}
use Rattle.sequencer.specs.Bases.{max_bases, row_rules, raise_rules, raised, on_row, raise_outcome, raised_bases}
use Rattle.sequencer.proofs.Laws.Cases.{load_rules}
use Rattle.sequencer.proofs.Laws.Orders.{base_taken, base_refused, load_order}
use Rattle.sequencer.proofs.Laws.Forward.{end_record, forward_done, forward_power}

-- ---- its own rules by cases

module _ {A : Type 0} (h : Header) (bases : List ℕ) (x : A) where
  pub raise_free : h.variant ≡ 0 → outcome (raise_rules h bases) x ≡ refused 4
  unfolding raise_rules
  raise_free e = gives _ _ x (rw (eq-eqb h.variant 0 e))

  module _ (some : ¬ (h.variant ≡ 0)) where
    pub raise_many : max_bases < length bases → outcome (raise_rules h bases) x ≡ refused 14
    unfolding raise_rules
    raise_many more = passes _ _ x (rw (ne_eqb h.variant 0 some)) ∙ gives _ _ x (lt-ltb _ _ more)

    pub raise_row : length bases ≤ max_bases → outcome (raise_rules h bases) x ≡ outcome (row_rules h bases) x
    unfolding raise_rules
    raise_row few = passes _ _ x (rw (ne_eqb h.variant 0 some)) ∙ passes _ _ x (le-ltb _ _ few)

-- ---- the answer beside the row

module _ (tape bases : List ℕ) where
  -- a refused row is as it was, and where the call is answered each base is raised
  pub raise_kept : {n : ℕ} → raise_outcome tape bases ≡ refused n → raised_bases tape bases ≡ bases
  unfolding raise_outcome raised_bases on_row on_tape
  raise_kept e = ap (λ o. after o bases) (still_refused 0 (map (raised tape) bases) _ e)

  raise_replaced : {n : ℕ} → raise_outcome tape bases ≡ answered n → raised_bases tape bases ≡ map (raised tape) bases
  unfolding raise_outcome raised_bases on_row on_tape
  raise_replaced e = ap (λ o. after o bases) (still_answered 0 (map (raised tape) bases) _ e)

  -- what check refuses is refused
  pub raise_not_accepted : {n : ℕ} → accept_outcome tape ≡ refused n → (refused n ≡ raise_outcome tape bases) × (bases ≡ raised_bases tape bases)
  unfolding raise_outcome on_row
  raise_not_accepted {n} e = let o : raise_outcome tape bases ≡ refused n = tape_refused tape _ 0 e in (sym o, sym (raise_kept o))

  -- on an accepted tape its own rules are left
  module _ (h : Header) (e : accept_outcome tape ≡ answered h) where
    raise_rules_lem : raise_outcome tape bases ≡ outcome (raise_rules h bases) 0
    unfolding raise_outcome on_row
    raise_rules_lem = tape_accepted tape h e (λ (g : Header). raise_rules g bases) (λ (g : Header). 0)

    pub raise_refused : {n : ℕ} → outcome {A = ℕ} (raise_rules h bases) 0 ≡ refused n → (refused n ≡ raise_outcome tape bases) × (bases ≡ raised_bases tape bases)
    raise_refused r = let o = raise_rules_lem ∙ r in (sym o, sym (raise_kept o))

    pub raise_passed : {n : ℕ} (row : List ℕ) → outcome {A = ℕ} (raise_rules h bases) 0 ≡ answered n → row ≡ map (raised tape) bases
        → (answered 0 ≡ raise_outcome tape bases) × (row ≡ raised_bases tape bases)
    raise_passed row p same = let o = raise_rules_lem ∙ still_answered 0 0 (raise_rules h bases) p in (sym o, same ∙ sym (raise_replaced o))

-- ---- the bases' rules: the first base's refusal, or else those of the others

module _ {A : Type 0} (h : Header) (a : ℕ) (bases : List ℕ) (x : A) where
  pub row_refused : {n : ℕ} → outcome {A = ℕ} (base_rules h a) 0 ≡ refused n → outcome (row_rules h (a ∷ bases)) x ≡ refused n
  unfolding row_rules
  row_refused e = refused_before 0 x (base_rules h a) (row_rules h bases) e

  pub row_passed : {n : ℕ} → outcome {A = ℕ} (base_rules h a) 0 ≡ answered n → outcome (row_rules h (a ∷ bases)) x ≡ outcome (row_rules h bases) x
  unfolding row_rules
  row_passed e = passed_before 0 x (base_rules h a) (row_rules h bases) e

pub row_none : {A : Type 0} (h : Header) (x : A) → outcome (row_rules h []) x ≡ answered x
unfolding row_rules
row_none h x = answers x

-- a row of one
pub row_one : {A : Type 0} (h : Header) (a : ℕ) (x : A) → outcome (row_rules h (a ∷ [])) x ≡ outcome (base_rules h a) x
unfolding row_rules
row_one h a x = ap (λ (l : List Rule). outcome l x) (append-nil (base_rules h a))

-- ---- a base that load answers

pub raised_done : (tape : List ℕ) (a : ℕ) → load_outcome tape a ≡ answered (start_record a) → raised tape a ≡ reg (do_all (header_of tape).modulus (steps_of tape) (start a)) 1
unfolding raised
raised_done tape a load = ap (λ o. reg (after o (start_record a)).registers 1) (forward_done tape a load)

-- ---- a row whose bases all pass

module _ (tape : List ℕ) (h : Header) (e : accept_outcome tape ≡ answered h) where
  -- its first base is one that load answers, and the others pass
  row_first : (a : ℕ) (bases : List ℕ) {x : ℕ} → outcome (row_rules h (a ∷ bases)) 0 ≡ answered x
      → (load_outcome tape a ≡ answered (start_record a)) × (outcome (row_rules h bases) 0 ≡ answered x)
  unfolding row_rules
  row_first a bases all =
      let parts = answered_before (base_rules h a) (row_rules h bases) 0 all in
      (load_rules tape h e a ∙ still_answered 0 (start_record a) (base_rules h a) parts.0, parts.1)

  -- so each base is one that load answers
  row_loaded : (bases : List ℕ) {x : ℕ} → outcome (row_rules h bases) 0 ≡ answered x → (j : ℕ) → j < length bases
      → load_outcome tape (get_or bases j 0) ≡ answered (start_record (get_or bases j 0))
  row_loaded [] all j less = absurd (not-suc-le-zero less)
  row_loaded (a ∷ bases) all zero less = (row_first a bases all).0
  row_loaded (a ∷ bases) all (suc j) less = row_loaded bases (row_first a bases all).1 j (le_of_suc-le-suc less)

  -- and two functions that agree on every base that load answers agree on the row
  pub row_map : (f g : ℕ → ℕ) → ((a : ℕ) → load_outcome tape a ≡ answered (start_record a) → f a ≡ g a)
      → (bases : List ℕ) {x : ℕ} → outcome (row_rules h bases) 0 ≡ answered x → map f bases ≡ map g bases
  row_map f g same [] all = refl
  row_map f g same (a ∷ bases) all =
      let first = row_first a bases all in
      ap₂ (λ (n : ℕ) (l : List ℕ). n ∷ l) (same a first.0) (row_map f g same bases first.1)

-- ---- what an answer says

record Raised (tape bases : List ℕ) : Type 0 where
  accepted : accept_outcome tape ≡ answered (header_of tape)
  named : is_named (header_of tape) ≡ true
  row : outcome {A = ℕ} (row_rules (header_of tape) bases) 0 ≡ answered 0

raise_answered : (tape bases : List ℕ) → raise_outcome tape bases ≡ answered 0 → Raised tape bases
unfolding raise_outcome raise_rules on_row
raise_answered tape bases e =
    let named = passed _ _ _ _ _ (answered_own tape _ 0 e) in
    record { accepted = answered_tape tape _ 0 e; named = not-false _ named.0; row = (passed _ _ _ _ _ named.1).1 }

module _ (tape bases : List ℕ) (e : raise_outcome tape bases ≡ answered 0) where
  abbrev k : ℕ
  k = (header_of tape).exponent

  abbrev p : ℕ
  p = (header_of tape).modulus

  power_of_lem : (a : ℕ) → load_outcome tape a ≡ answered (start_record a) → raised tape a ≡ a ^ k % p
  unfolding raised
  power_of_lem a load = ap (λ o. reg (after o (start_record a)).registers 1) (forward_power tape a load (raise_answered tape bases e).named)

  -- DOCUMENT 02, T-01. Each base is replaced by its a^k modulo p.
  pub raise_powers : raised_bases tape bases ≡ map (λ (a : ℕ). a ^ k % p) bases
  raise_powers =
      let all = raise_answered tape bases e in
      raise_replaced tape bases e ∙ row_map tape (header_of tape) all.accepted (raised tape) (λ (a : ℕ). a ^ k % p) power_of_lem bases all.row

  -- Each base alone is loaded and run forward from end to end without a refusal, and register 1 holds then what is in its place.
  pub raise_alone : (j : ℕ) → j < length bases → forward_outcome tape (get_or bases j 0) ≡ answered (end_record tape (start (get_or (raised_bases tape bases) j 0)))
  raise_alone j less =
      let all = raise_answered tape bases e in
      let a : ℕ = get_or bases j 0 in
      forward_power tape a (row_loaded tape (header_of tape) all.accepted bases all.row j less) all.named
      ∙ ap (λ (x : ℕ). answered (end_record tape (start x))) (sym (ap (λ (l : List ℕ). get_or l j 0) raise_powers ∙ get_d_map _ bases j 0 0 less))

  -- DOCUMENT 02, T-06. Each base of the row has order r.
  pub raise_orders : (j : ℕ) → j < length bases → OrderOf p (get_or bases j 0) (header_of tape).order
  raise_orders j less =
      let all = raise_answered tape bases e in
      load_order tape (get_or bases j 0) (row_loaded tape (header_of tape) all.accepted bases all.row j less) all.named

-- The other way round: a row of up to 64 bases of order r is answered, and the first base from 1 to p - 1 of another order gives 11.
module _ (tape : List ℕ) (accepted : check_outcome tape ≡ answered 0) (named : is_named (header_of tape) ≡ true) where
  abbrev h : Header
  h = header_of tape

  abbrev Taken : List ℕ → Type 0
  Taken bases = (j : ℕ) → j < length bases → Residue h.modulus (get_or bases j 0) × OrderOf h.modulus (get_or bases j 0) h.order

  row_taken : (bases : List ℕ) → Taken bases → outcome {A = ℕ} (row_rules h bases) 0 ≡ answered 0
  row_taken [] all = row_none h 0
  row_taken (a ∷ bases) all =
      let first = all 0 (omega arith) in
      row_passed h a bases 0 (base_taken h a 0 first.0 named first.1) ∙ row_taken bases (λ j less. all (suc j) (omega arith))

  row_stopped : (good : List ℕ) (a : ℕ) (bases : List ℕ) → Taken good → Residue h.modulus a → ¬ (OrderOf h.modulus a h.order)
      → outcome {A = ℕ} (row_rules h (good ++ a ∷ bases)) 0 ≡ refused 11
  row_stopped [] a bases all base other = row_refused h a bases 0 (base_refused h a 0 base named other)
  row_stopped (b ∷ good) a bases all base other =
      let first = all 0 (omega arith) in
      row_passed h b (good ++ a ∷ bases) 0 (base_taken h b 0 first.0 named first.1)
      ∙ row_stopped good a bases (λ j less. all (suc j) (omega arith)) base other

  on_row_lem : (bases : List ℕ) → length bases ≤ max_bases → raise_outcome tape bases ≡ outcome (row_rules h bases) 0
  on_row_lem bases few =
      raise_rules_lem tape bases h (still_answered 0 h (check_rules tape) accepted) ∙ raise_row h bases 0 (eqb-false h.variant 0 (not-true _ named)) few

  pub orders_raise : (bases : List ℕ) → length bases ≤ max_bases → Taken bases → raise_outcome tape bases ≡ answered 0
  orders_raise bases few all = on_row_lem bases few ∙ row_taken bases all

  pub order_stops : (good : List ℕ) (a : ℕ) (bases : List ℕ) → length (good ++ a ∷ bases) ≤ max_bases → Taken good → Residue h.modulus a
      → ¬ (OrderOf h.modulus a h.order) → raise_outcome tape (good ++ a ∷ bases) ≡ refused 11
  order_stops good a bases few all base other = on_row_lem (good ++ a ∷ bases) few ∙ row_stopped good a bases all base other

-- An empty row succeeds, and remains empty.
pub raise_empty : (tape : List ℕ) → check_outcome tape ≡ answered 0 → is_named (header_of tape) ≡ true
    → (raise_outcome tape [] ≡ answered 0) × (raised_bases tape [] ≡ [])
raise_empty tape e named =
    let h = header_of tape in
    let some = eqb-false h.variant 0 (not-true _ named) in
    let both = raise_passed tape [] h (still_answered 0 h (check_rules tape) e) [] (raise_row h [] 0 some (omega arith) ∙ row_none h 0) refl in
    (sym both.0, sym both.1)
