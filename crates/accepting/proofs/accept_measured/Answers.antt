-- `accept_measured` meets its contract: check of a named program is build into the longest tape, then the comparison with what build
-- wrote, which stands at the front of the row.
use Rattle.std.proofs.Common.{◌≡◌, sym, ap, ◌∙◌, false, ◌≤◌, length, take, arith}
use Rattle.std.proofs.Math.Seq.{length-take-le}
use Rattle.refusal.specs.Outcomes.{answered, outcome_of}
use Rattle.tape.specs.declared.Header.{Header}
use Rattle.named.specs.Parameters.{bad_variant}
use Rattle.program.specs.Same.{same_words}
use Rattle.program.proofs.Laws.Same.{pointwise_same}
use Rattle.program.proofs.Laws.Checking.{build_count, build_words, built_for, build_for, measured, check_not_built, check_other, check_same}
use Rattle.accepting.proofs.accept_measured.Goals as goal
use Rattle.accepting.proofs.accept_measured.Goals.{Else-is_bad_variant, In-Ok, After-eq}

pub accept_not_named-requires : goal.accept_not_named-requires
accept_not_named-requires c =
    ap (λ (h : Header). bad_variant h.variant) (sym (measured _ _ c.requires).1) ∙ sym c.is_bad_variant.ensures ∙ c.if-is_bad_variant.true

named : (c : Else-is_bad_variant) → bad_variant c.args.header.variant ≡ false
named c = sym c.is_bad_variant.ensures ∙ c.if-is_bad_variant.false

built : (c : In-Ok) → build_for c.args.header ≡ answered c.in-Ok.words
built c = sym c.build.ensures.result_value ∙ ap outcome_of c.in-Ok.is

fits : (c : In-Ok) → c.in-Ok.words ≤ length c.build.new.buffer
fits c = omega (arith, (build_count _ _ _ _ _ _ (built c)).1, c.build.auto.buffer)

pub slice_bounds-row-end : goal.slice_bounds-row-end
slice_bounds-row-end c = fits (goal.at.slice_bounds-row-end c).In-Ok

pub slice_bounds-eq-end : goal.slice_bounds-eq-end
slice_bounds-eq-end c = sym (length-take-le _ _ (fits (goal.at.slice_bounds-eq-end c).In-Ok))

-- `==` compares the tape with what build wrote
compared : (c : After-eq) → build_for c.args.header ≡ answered c.in-Ok.words → same_words c.args.tape.now (built_for c.args.header) ≡ c.eq.result
compared c is =
    let front : take c.in-Ok.words c.build.new.buffer ≡ built_for c.args.header =
    ap (take c.in-Ok.words) c.build.ensures.buffer_after ∙ build_words _ _ _ _ _ _ is in
    sym (c.eq.ensures ∙ pointwise_same _ _ ∙ ap (same_words _) front)

pub returns-then-eq : goal.returns-then-eq
returns-then-eq c =
    let at = goal.at.returns-then-eq c in
    let is = built at.In-Ok in
    check_same _ _ c.requires (named at.Else-is_bad_variant) _ is (compared at.After-eq is ∙ c.if-eq.true)

pub returns-in-Err : goal.returns-in-Err
returns-in-Err c =
    c.refuse.ensures
    ∙ check_not_built _ _ c.requires (named (goal.at.returns-in-Err c).Else-is_bad_variant) _ (sym c.build.ensures.result_value ∙ ap outcome_of c.in-Err.is)

pub returns-else-eq : goal.returns-else-eq
returns-else-eq c =
    let at = goal.at.returns-else-eq c in
    let is = built at.In-Ok in
    c.refuse-in-Ok.ensures ∙ check_other _ _ c.requires (named at.Else-is_bad_variant) _ is (compared at.After-eq is ∙ c.if-eq.false)
