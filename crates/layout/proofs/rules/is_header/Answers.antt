-- `rules::is_header` meets its contract: the first four meanings are of the sorts 1 to 4, or the first that isn't decides.
use Rattle.std.proofs.Common.{sym, ap, ◌∙◌, ne_eqb}
use Rattle.tape.specs.Layout.{sort_of, is_header}
use Rattle.tape.proofs.Laws.Words.{meaning_sort}
use Rattle.tape.proofs.Laws.Reading.{header_not_1, header_not_2, header_not_3, header_last}
use Rattle.layout.proofs.rules.is_header.Goals as goal

pub returns-in-Heading-P-R-K : goal.returns-in-Heading-P-R-K
unfolding is_header
returns-in-Heading-P-R-K c =
    let four = c.in-Heading-P-R-K in
    rw (sym c.means_at.ensures ∙ four.is-0, sym c.means_at-2.ensures ∙ four.is-1, sym c.means_at-3.ensures ∙ four.is-2, sym c.means_at-4.ensures ∙ four.is-3)

pub returns-in_default : goal.returns-in_default
returns-in_default c =
    let three = c.in_default in
    sym
    (header_last c.args.tape.now (ap sort_of (sym c.means_at.ensures ∙ three.is-0)) (ap sort_of (sym c.means_at-2.ensures ∙ three.is-1)) (ap sort_of (sym c.means_at-3.ensures ∙ three.is-2))
    ∙ ne_eqb _ 4 (λ e. three.not-K-3 _ (c.means_at-4.ensures ∙ meaning_sort _ e)))

pub returns-in_default-2 : goal.returns-in_default-2
returns-in_default-2 c =
    let two = c.in_default in
    sym
    (header_not_3 c.args.tape.now (ap sort_of (sym c.means_at.ensures ∙ two.is-0)) (ap sort_of (sym c.means_at-2.ensures ∙ two.is-1))
    (λ e. two.not-R-2 _ (c.means_at-3.ensures ∙ meaning_sort _ e)))

pub returns-in_default-3 : goal.returns-in_default-3
returns-in_default-3 c =
    let one = c.in_default in
    sym (header_not_2 c.args.tape.now (ap sort_of (sym c.means_at.ensures ∙ one.is-0)) (λ e. one.not-P-1 _ (c.means_at-2.ensures ∙ meaning_sort _ e)))

pub returns-in_default-4 : goal.returns-in_default-4
returns-in_default-4 c = sym (header_not_1 c.args.tape.now (λ e. c.in_default.not-Heading-0 _ (c.means_at.ensures ∙ meaning_sort _ e)))
