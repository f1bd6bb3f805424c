-- `read` meets its contract: each return is a case of the outcome, by the length and then by the first rule that fails.
use mathlib.Core.Path.{sym, ap, ◌∙◌}
use Rattle.refusal.specs.Outcomes.{answered}
use Rattle.tape.proofs.Laws.Reading.{length_most, laid_not_header, laid_not_free, laid_not_steps, laid_end, read_length, read_word, read_laid}
use Rattle.layout.proofs.read.Goals as goal

pub returns-then-not-is_length : goal.returns-then-not-is_length
returns-then-not-is_length c = sym (read_length _ (cc))

pub returns-then-not-is_header : goal.returns-then-not-is_header
returns-then-not-is_header c = sym (read_word c.args.tape.now (cc) (laid_not_header _ (cc)))

pub header_of-header-requires : goal.header_of-header-requires
header_of-header-requires c = length_most c.args.tape.now (cc)

pub returns-then-not-is_free_or_named : goal.returns-then-not-is_free_or_named
returns-then-not-is_free_or_named c = sym (read_word c.args.tape.now (cc) (laid_not_free _ (cc) (cc)))

pub returns-then-not-are_steps : goal.returns-then-not-are_steps
returns-then-not-are_steps c = sym (read_word c.args.tape.now (cc) (laid_not_steps _ (cc) (cc) (cc)))

-- past the steps the layout is as good as its end
pub returns-then-not-is_end : goal.returns-then-not-is_end
returns-then-not-is_end c = sym (read_word c.args.tape.now (cc) (laid_end _ (cc) (cc) (cc) ∙ cc))

pub returns : goal.returns
returns c = ap answered c.header_of-header.ensures ∙ sym (read_laid c.args.tape.now (cc) (laid_end _ (cc) (cc) (cc) ∙ cc))
