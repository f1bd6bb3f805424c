-- `build` meets its contract: each return is a case of build (Laws/Answering), and what the four tests leave is what `forms` and `write` ask.
use Rattle.std.proofs.Common.{◌≡◌, sym, ap, ◌∙◌, false, arith}
use Rattle.refusal.specs.declared.Refusal.{Refusal}
use Rattle.refusal.specs.Refusals.{number_of}
use Rattle.refusal.specs.Outcomes.{refused, outcome_of}
use Rattle.refusal.proofs.Laws.Exits.{exit_of}
use Rattle.std.specs.Option.{ok_or}
use Rattle.refusal.specs.declared.Refusal.TheVariants.{Exponent}
use Rattle.modular.specs.Inverses.{bad_exponent, inverse}
use Rattle.modular.proofs.Laws.Inverses.{exponent_none, exponent_some}
use Rattle.named.specs.Parameters.{bad_modulus, bad_order, bad_variant}
use Rattle.named.proofs.Laws.Parameters.{good_modulus_lem, variant_named}
use Rattle.program.proofs.Laws.Answering.{modulus_refused, order_refused, exponent_refused, variant_refused, left_to_room, invertible, writable}
use Rattle.building.proofs.build.Goals as goal
use Rattle.building.proofs.build.Goals.{Else-is_bad_modulus, Else-is_bad_order, In_ok-inverse, In_ok-named}

pub returns-then-is_bad_modulus : goal.returns-then-is_bad_modulus
returns-then-is_bad_modulus c = let both = modulus_refused _ _ _ _ _ (sym c.is_bad_modulus.ensures ∙ c.if-is_bad_modulus.true) in record { result_value = both.0; buffer_after = both.1 }

-- what each test leaves
modulus : (c : Else-is_bad_modulus) → bad_modulus c.args.p ≡ false
modulus c = sym c.is_bad_modulus.ensures ∙ c.if-is_bad_modulus.false

order : (c : Else-is_bad_order) → bad_order c.args.p c.args.r ≡ false
order c = sym c.is_bad_order.ensures ∙ c.if-is_bad_order.false

exponent : (c : In_ok-inverse) → (bad_exponent c.args.k c.args.r ≡ false) × (c.in_ok-inverse.inverse ≡ inverse c.args.r c.args.k)
exponent c = exponent_some _ _ (sym c.exponent_inverse.ensures ∙ c.in_ok-inverse.ensures.ok_part)

pub is_bad_order-requires : goal.is_bad_order-requires
is_bad_order-requires c = omega (arith, (good_modulus_lem _ (modulus c)).low)

pub returns-then-is_bad_order : goal.returns-then-is_bad_order
returns-then-is_bad_order c =
    let at = goal.at.returns-then-is_bad_order c in
    let both = order_refused _ _ _ _ _ (modulus at.Else-is_bad_modulus) (sym c.is_bad_order.ensures ∙ c.if-is_bad_order.true) in
    record { result_value = both.0; buffer_after = both.1 }

pub returns-in_err-inverse : goal.returns-in_err-inverse
returns-in_err-inverse c =
    let at = goal.at.returns-in_err-inverse c in
    let none = c.in_err-inverse.ensures.ok_part in
    let error : refused (number_of c.in_err-inverse.field-0.0) ≡ refused 3 = ap outcome_of (c.in_err-inverse.ensures.value ∙ ap (λ o. ok_or o Exponent) none) in
    let both = exponent_refused _ _ _ _ _ (modulus at.Else-is_bad_modulus) (order at.Else-is_bad_order) (exponent_none _ _ (sym c.exponent_inverse.ensures ∙ none)) in
    record { result_value = exit_of _ _ c.from_residual.ensures.1 ∙ error ∙ both.0; buffer_after = both.1 }

pub returns-in_err-named : goal.returns-in_err-named
returns-in_err-named c =
    let at = goal.at.returns-in_err-named c in
    let none = c.in_err-named.ensures in
    let both = variant_refused _ _ _ _ _ (modulus at.Else-is_bad_modulus) (order at.Else-is_bad_order) (exponent at.In_ok-inverse).0 none.0 in
    record { result_value = exit_of _ _ c.from_residual-in_err-named.ensures.1 ∙ ap (λ (e : Refusal). refused (number_of e)) none.1 ∙ both.0; buffer_after = both.1 }

pub forms-requires : goal.forms-requires
forms-requires c =
    let at = goal.at.forms-requires c in
    invertible _ _ _ (modulus at.Else-is_bad_modulus) (order at.Else-is_bad_order) (exponent at.In_ok-inverse).0 (exponent at.In_ok-inverse).1

variant : (c : In_ok-named) → bad_variant c.args.variant ≡ false
variant c = rw c.in_ok-named.ensures (variant_named c.in_ok-named.named)

pub write-requires : goal.write-requires
write-requires c =
    let at = goal.at.write-requires c in
    record {
      writable = writable _ _ _ (modulus at.Else-is_bad_modulus) (order at.Else-is_bad_order) (exponent at.In_ok-inverse).0 _ (variant at.In_ok-named);
      rows_from_table = rw c.in_ok-named.ensures c.forms.ensures;
    }

pub returns : goal.returns
returns c =
    let at = goal.at.returns c in
    let both = left_to_room _ _ _ _ _ (modulus at.Else-is_bad_modulus) (order at.Else-is_bad_order) (exponent at.In_ok-inverse).0 (variant at.In_ok-named) c.write.ensures in
    record { result_value = both.0; buffer_after = both.1 }
