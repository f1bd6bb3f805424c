-- `put_usage` meets its contract: the code's text is the definition's.
use Rattle.text.specs.Text.{decimal_within, decimal}
use Rattle.tool.specs.Texts.{listed, variants_text, lines, usage}
use Rattle.complaints.proofs.put_usage.Goals as goal

pub returns : goal.returns
unfolding usage lines variants_text listed decimal decimal_within
returns c = c.put.ensures
