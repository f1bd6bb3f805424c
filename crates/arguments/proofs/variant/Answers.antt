-- `variant` meets its contract: a name's place is its variant; any other word is read as a number.
use Rattle.std.proofs.Common.{arith}
use Rattle.std.proofs.lemmas.Bool.Decides.{nat_tests}
use Rattle.text.specs.Reading.{split_words}
use Rattle.named.specs.Named.{variant_names}
use Rattle.tool.specs.Verbs.{variant_in}
use Rattle.tool.specs.Inner.Understood.{Placed}
use Rattle.arguments.proofs.variant.Goals as goal
use Rattle.arguments.proofs.variant.Goals.{After-place_of}

-- it is placed among the variants' names
placed : (c : After-place_of) → Placed c.args.word.now variant_names c.place_of.result
unfolding split_words
placed c = c.place_of.ensures

pub returns-in-Some : goal.returns-in-Some
unfolding variant_in
returns-in-Some c =
    let p = rw c.in-Some.is at (placed (goal.at.returns-in-Some c).After-place_of) in
    grind (arith, nat_tests)

pub returns-in-None : goal.returns-in-None
unfolding variant_in
returns-in-None c =
    let p = rw c.in-None.is at (placed (goal.at.returns-in-None c).After-place_of) in
    grind (arith, nat_tests)
