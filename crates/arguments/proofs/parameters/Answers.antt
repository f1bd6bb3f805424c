-- `parameters` meets its contract: the numbers read are those in the row in front of those of the words left.
use Rattle.std.proofs.Common.{◌≡◌, ◌+◌, [], refl, sym, ◌∙◌, arith, get_or}
use Rattle.std.proofs.Math.ListN.{length-set}
use Rattle.text.specs.Reading.{split_words}
use Rattle.tool.specs.Verbs.{parameter_in}
use Rattle.tool.proofs.Laws.Verbs.{limit_most, parameter_small}
use Rattle.tool.proofs.Laws.Calls.{at_first, a_number, no_number, no_more, unread_at}
use Rattle.arguments.proofs.parameters.Goals as goal
use Rattle.arguments.proofs.parameters.Goals.{After-parameter}

pub loop-place-init : goal.loop-place-init
loop-place-init c = (refl, at_first c.args.row (split_words c.args.arguments.now) [])

pub bounds-values-place : goal.bounds-values-place
bounds-values-place c = omega (arith, c.requires)

-- the word behind the verb, as its place reads it
read : (c : After-parameter) → let place = c.loop-place.place in
    parameter_in c.args.row place (get_or (split_words c.args.arguments.now) (place + 1) []) ≡ c.parameter.result
read c = rw (← c.nth_word.ensures) (sym c.parameter.ensures)

pub returns-in_default : goal.returns-in_default
returns-in_default c =
    let row = c.args.row in
    let words = split_words c.args.arguments.now in
    let place = c.loop-place.place in
    let e = no_number row words place c.loop-place.values c.loop-place.invariant.1 (omega (arith, c.requires.all)) (read (goal.at.returns-in_default c).After-parameter ∙ c.in_default.is) in
    record {
      asked = rw e (unread_at row words place);
      in_range = record { behind = omega arith; largest = omega (arith, c.requires.largest, limit_most row.verb) };
      size = c.loop-place.invariant.0;
    }

pub loop-place-preserved : goal.loop-place-preserved
loop-place-preserved c =
    let row = c.args.row in
    let words = split_words c.args.arguments.now in
    let place = c.loop-place.place in
    let e = read (goal.at.loop-place-preserved c).After-parameter ∙ c.in-Some.is in
    let small = rw e at (parameter_small row place (get_or words (place + 1) []) c.requires.largest) in
    let next = a_number row words place c.loop-place.values c.loop-place.invariant.1 _ (omega (arith, c.requires.all)) (omega (arith, c.loop-place.invariant.0, c.requires.few)) e small in
    (rw length-set c.loop-place.invariant.0, next)

pub returns : goal.returns
returns c =
    let row = c.args.row in
    let words = split_words c.args.arguments.now in
    let all_read : c.loop-place.place ≡ c.args.count = omega arith in
    let e = no_more row words c.loop-place.place c.loop-place.values c.loop-place.invariant.1 (omega (arith, c.requires.all)) in
    record {
      asked = rw e (rw all_read refl);
      in_range = record { few = c.requires.few; within = rw all_read at c.loop-place.invariant.1.1 };
      size = c.loop-place.invariant.0;
    }
