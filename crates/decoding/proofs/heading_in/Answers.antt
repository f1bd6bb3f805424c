-- `heading_in` meets its contract: each return is a case of `heading_in` by its tests.
use mathlib.Core.Path.{sym}
use Rattle.tape.proofs.Laws.Payloads.{heading_good, heading_format, heading_high}
use Rattle.decoding.proofs.heading_in.Goals as goal
use Rattle.decoding.proofs.heading_in.Goals.{then-payload-ne-FORMAT-via-then-payload-ne-FORMAT, then-payload-ne-FORMAT-via-else-payload-ne-FORMAT+then-payload-ge-HEADINGS}

pub returns-then-payload-ne-FORMAT : goal.returns-then-payload-ne-FORMAT
returns-then-payload-ne-FORMAT c =
    elim c.then-payload-ne-FORMAT.branch [
      | then-payload-ne-FORMAT-via-then-payload-ne-FORMAT w ↦ sym (heading_format _ w.if-payload-ne-FORMAT.true)
      | then-payload-ne-FORMAT-via-else-payload-ne-FORMAT+then-payload-ge-HEADINGS w ↦ sym (heading_high _ w.if-payload-ge-HEADINGS.true)
    ]

pub returns : goal.returns
returns c = sym (heading_good _ c.if-payload-ne-FORMAT.false c.if-payload-ge-HEADINGS.false)
