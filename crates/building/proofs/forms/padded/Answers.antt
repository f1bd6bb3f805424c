-- `forms::padded` meets its contract: the bit string of the number, with another length.
use Rattle.program.proofs.Laws.Forms.{string_padded}
use Rattle.building.proofs.forms.padded.Goals as goal

pub returns : goal.returns
returns c =
    let b = c.bit_string.ensures in
    string_padded c.args.number c.args.length c.from.ensures (b.length_value, (b.bits_value, b.count_value))
