-- `forms::hybrid_forms` meets its contract: its rows are the bit strings of v and K.
use Rattle.std.proofs.Common.{◌∙◌, ap₂, arith}
use Rattle.named.specs.declared.Figure.TheVariants.{Six}
use Rattle.named.specs.Named.{hybrid_forms}
use Rattle.program.specs.Inner.Forms.{lone_rows}
use Rattle.program.proofs.Laws.Forms.{height_small, multiple_fits, multiple_string, inverse_string}
use Rattle.building.proofs.forms.hybrid_forms.Goals as goal

pub overflow_add-l : goal.overflow_add-l
overflow_add-l c = omega (arith, height_small c.requires c.height-h.ensures)

pub overflow_add-l-2 : goal.overflow_add-l-2
overflow_add-l-2 c = omega (arith, height_small c.requires c.height-h.ensures)

pub overflow_mul-from : goal.overflow_mul-from
overflow_mul-from c = omega (arith, multiple_fits c.requires c.from.ensures c.height-h.ensures c.fibonacci_or_zero.ensures)

pub returns : goal.returns
unfolding hybrid_forms
returns c =
    let h = c.height-h.ensures in
    let v = c.bit_string-v.ensures in
    c.lone.ensures
    ∙ ap₂ (lone_rows Six)
    (multiple_string c.requires c.from.ensures h c.fibonacci_or_zero.ensures (v.length_value, (v.bits_value, v.count_value)))
    (c.padded.ensures ∙ inverse_string c.requires h)
