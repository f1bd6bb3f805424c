-- `forms::basic_forms` meets its contract: its rows are the bit strings of k and K.
use Rattle.std.proofs.Common.{◌∙◌, ap₂}
use Rattle.named.specs.declared.Figure.TheVariants.{Two}
use Rattle.program.specs.Inner.Forms.{lone_rows}
use Rattle.program.proofs.Laws.Forms.{own_string}
use Rattle.building.proofs.forms.basic_forms.Goals as goal

pub returns : goal.returns
returns c =
    let k = c.bit_string-first.ensures in
    let K = c.bit_string-last.ensures in
    c.lone.ensures
    ∙ ap₂ (lone_rows Two) (own_string c.args.k c.from.ensures (k.length_value, (k.bits_value, k.count_value))) (own_string c.args.inverse c.from-2.ensures (K.length_value, (K.bits_value, K.count_value)))
