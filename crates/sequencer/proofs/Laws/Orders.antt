-- Document 02, T-06: which bases load takes. Its last rule tests whether r is the base's order, of a named program alone. So of the bases from 1
-- to p - 1 a named program loads exactly those of order r, and a free one all.
use mathlib.Core.Path.{◌≡◌, sym, ap, ◌∙◌}
use mathlib.Core.Bool.{true, false, not}
use mathlib.Core.List.{List}
use Prim.Native.Nat.{ℕ, ◌%◌}
use native.Mathlib.Nat.{mod-eq_of_lt}
use native.Mathlib.Omega.{arith}
use borrow.Author.Tests.{eqb-true, eqb-false, not-true, not-false}
use Rattle.refusal.specs.Outcomes.{Outcome, refused, answered, outcome, refusal_number, gives, passes, answers}
use Rattle.refusal.proofs.Laws.Tests.{by_test, test_false}
use Rattle.refusal.proofs.Laws.Rules.{still_answered}
use Rattle.modular.specs.Residues.{Residue}
use Rattle.modular.proofs.Laws.Inverses.{inverse_order}
use Rattle.modular.proofs.Laws.Group.{residue_one}
use Rattle.modular.proofs.Laws.Powers.{one_pow}
use Rattle.orders.specs.Orders.{OrderOf, is_order}
use Rattle.orders.proofs.Laws.Orders.{order_test, test_order}
use Rattle.tape.specs.declared.Header.{Header}
use Rattle.tape.specs.Layout.{header_of}
use Rattle.program.specs.Services.{is_named, check_rules, check_outcome}
use Rattle.program.proofs.Laws.Checking.{accepted_named_lem}
use Rattle.sequencer.specs.Records.{Record}
use Rattle.sequencer.specs.Services.{bad_register, bad_base, base_rules, start_record, load_outcome}
use Rattle.sequencer.proofs.Laws.Cases.{base_free, base_named, load_rules}
use Rattle.sequencer.proofs.Laws.Answers.{good_register, residue_good, prime_of, load_answered}

-- ---- a base's own rules

bad_base_lem : (h : Header) (a : ℕ) → is_named h ≡ true → bad_base h a ≡ not (is_order h.modulus a h.order)
bad_base_lem h a named = base_named h a (eqb-false _ 0 (not-true _ named))

module _ {A : Type 0} (h : Header) (a : ℕ) (x : A) where
  base_outside : bad_register h.modulus a ≡ true → outcome (base_rules h a) x ≡ refused 9
  unfolding base_rules
  base_outside bad = gives _ _ x bad

  module _ (base : Residue h.modulus a) where
    good_base : bad_base h a ≡ false → outcome (base_rules h a) x ≡ answered x
    unfolding base_rules
    good_base good = passes _ _ x (residue_good h.modulus a base) ∙ passes _ _ x good ∙ answers x

    pub base_taken : is_named h ≡ true → OrderOf h.modulus a h.order → outcome (base_rules h a) x ≡ answered x
    base_taken named o = good_base (bad_base_lem h a named ∙ ap not (test_order _ a _ o))

    pub base_refused : is_named h ≡ true → ¬ (OrderOf h.modulus a h.order) → outcome (base_rules h a) x ≡ refused 11
    unfolding base_rules
    base_refused named other =
        passes _ _ x (residue_good h.modulus a base) ∙ gives _ _ x (bad_base_lem h a named ∙ ap not (test_false _ (λ e. other (order_test _ a _ e))))

    base_of_free : is_named h ≡ false → outcome (base_rules h a) x ≡ answered x
    base_of_free free = good_base (base_free h a (eqb-true _ 0 (not-false _ free)))

-- ---- load

module _ (tape : List ℕ) (a : ℕ) where
  abbrev h : Header
  h = header_of tape

  -- what a named program has loaded has order r
  pub load_order : {s : Record} → load_outcome tape a ≡ answered s → is_named h ≡ true → OrderOf h.modulus a h.order
  load_order load named = order_test _ a _ (not-false _ (sym (bad_base_lem h a named) ∙ (load_answered tape a _ load).allowed))

  module _ (accepted : check_outcome tape ≡ answered 0) where
    own_rules : load_outcome tape a ≡ outcome (base_rules h a) (start_record a)
    own_rules = load_rules tape h (still_answered 0 h (check_rules tape) accepted) a

    module _ (base : Residue h.modulus a) where
      -- of the bases from 1 to p - 1 it loads those of order r
      pub order_loads : is_named h ≡ true → OrderOf h.modulus a h.order → load_outcome tape a ≡ answered (start_record a)
      order_loads named o = own_rules ∙ base_taken h a (start_record a) base named o

      -- and refuses all others with 11
      pub order_refuses : is_named h ≡ true → ¬ (OrderOf h.modulus a h.order) → load_outcome tape a ≡ refused 11
      order_refuses named other = own_rules ∙ base_refused h a (start_record a) base named other

      -- a free program loads them all
      pub free_loads : is_named h ≡ false → load_outcome tape a ≡ answered (start_record a)
      free_loads free = own_rules ∙ base_of_free h a (start_record a) base free

    -- so 11 tells that the program is named, and the base, from 1 to p - 1, of another order
    pub refused_order : load_outcome tape a ≡ refused 11 → Residue h.modulus a × (is_named h ≡ true) × ¬ (OrderOf h.modulus a h.order)
    refused_order e =
        by_test (bad_register h.modulus a)
        (λ bad. absurd (omega (arith, number (own_rules ∙ base_outside h a (start_record a) bad))))
        (λ good.
        let base = good_register h.modulus a good in
        by_test (is_named h)
        (λ named. (base, named, λ o. omega (arith, number (order_loads base named o))))
        (λ free. absurd (omega (arith, number (free_loads base free)))))
      where
        number : {o : Outcome Record} → load_outcome tape a ≡ o → 11 ≡ refusal_number o
        number f = sym (ap refusal_number e) ∙ ap refusal_number f

-- no named program loads 1, whose order is 1
pub one_refused : (tape : List ℕ) → check_outcome tape ≡ answered 0 → is_named (header_of tape) ≡ true → load_outcome tape 1 ≡ refused 11
one_refused tape accepted named =
    let pr = prime_of tape accepted in
    let is = accepted_named_lem 0 tape accepted (eqb-false _ 0 (not-true _ named)) in
    let inverse = inverse_order _ (header_of tape).order is.exponent in
    let one = ap (λ (n : ℕ). n % (header_of tape).modulus) (one_pow 1) ∙ mod-eq_of_lt pr.least in
    order_refuses tape 1 accepted (residue_one _ pr) named (λ o. o.least 1 (omega arith) (omega (arith, inverse.low, inverse.high)) one)
