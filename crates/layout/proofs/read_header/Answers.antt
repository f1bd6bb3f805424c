-- `read_header` meets its contract: each return is a case of the outcome, by the length.
use mathlib.Core.Path.{sym, ap, ◌∙◌}
use Rattle.refusal.specs.Outcomes.{answered}
use Rattle.tape.proofs.Laws.Reading.{length_most, header_length, header_read}
use Rattle.layout.proofs.read_header.Goals as goal

pub returns-then-not-is_length : goal.returns-then-not-is_length
returns-then-not-is_length c = sym (header_length _ (cc))

pub header_of-requires : goal.header_of-requires
header_of-requires c = length_most c.args.tape.now (cc)

pub returns : goal.returns
returns c = ap answered c.header_of.ensures ∙ sym (header_read c.args.tape.now (cc))
