-- `forms::dual_forms` meets its contract: its four rows are the forms of k and K times F_h and F_(h+1).
use Rattle.std.proofs.Common.{refl, ◌∙◌, ℕ, suc, arith}
use Rattle.program.proofs.Laws.Forms.{height_small, weight_fits, product_form, dual_rows}
use Rattle.fibonacci.specs.Height.{height}
use Rattle.building.proofs.forms.dual_forms.Goals as goal

pub overflow_cast-low : goal.overflow_cast-low
overflow_cast-low c =
    let small = height_small c.requires c.height-h.ensures in
    omega (arith, weight_fits (omega arith) c.fibonacci_or_zero-low.ensures)

pub overflow_add-h : goal.overflow_add-h
overflow_add-h c = omega (arith, height_small c.requires c.height-h.ensures)

pub overflow_cast-high : goal.overflow_cast-high
overflow_cast-high c =
    let small = height_small c.requires c.height-h.ensures in
    omega (arith, weight_fits (omega arith) c.fibonacci_or_zero-high.ensures)

pub returns : goal.returns
returns c =
    let h = c.height-h.ensures in
    let low = c.fibonacci_or_zero-low.ensures in
    let high = c.fibonacci_or_zero-high.ensures in
    let small = height_small c.requires h in
    let K = c.requires.inverse_is in
    let next : ℕ = suc (height c.args.r) in
    dual_rows c.requires
    (c.residue.ensures ∙ product_form c.requires _ _ _ h (omega arith) h refl low)
    (c.residue-2.ensures ∙ product_form c.requires _ _ next h (omega arith) (omega arith) refl high)
    (c.residue-3.ensures ∙ product_form c.requires _ _ _ h (omega arith) h K low)
    (c.residue-4.ensures ∙ product_form c.requires _ _ next h (omega arith) (omega arith) K high)
