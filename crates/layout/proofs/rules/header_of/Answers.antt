-- `rules::header_of` meets its contract: each field is what the word at its place holds.
use Rattle.layout.proofs.rules.header_of.Goals as goal

pub returns : goal.returns
returns c =
    rw (
      c.step_count.ensures,
      c.value_of-4.ensures,
      c.means_at-4.ensures,
      c.value_of-3.ensures,
      c.means_at-3.ensures,
      c.value_of-2.ensures,
      c.means_at-2.ensures,
      c.value_of.ensures,
      c.means_at.ensures,
    )
