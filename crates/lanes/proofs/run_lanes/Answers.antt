-- `run_lanes` meets its contract: too long a row is left alone, and of another each base's lane goes through the steps.
use mathlib.Core.Path.{◌∙◌}
use borrow.Author.Tests.{lt-ltb, le-ltb}
use lib.ListN.{length-replicate}
use Rattle.lanes.specs.Inner.Lanes.{all_words, through_lanes}
use Rattle.lanes.proofs.Laws.Bases.{lanes_through}
use Rattle.lanes.proofs.run_lanes.Goals as goal

pub returns-then-bases-gt-LANES : goal.returns-then-bases-gt-LANES
unfolding through_lanes
returns-then-bases-gt-LANES c = rw (lt-ltb _ _ c.if-bases-gt-LANES.true)

pub load_lanes-requires : goal.load_lanes-requires
load_lanes-requires c = record { few = c.if-bases-gt-LANES.false; eight = length-replicate all_words c.enter-rows.result }

pub do_lanes-requires : goal.do_lanes-requires
do_lanes-requires c =
    record {
      few = c.if-bases-gt-LANES.false;
      eight = c.load_lanes.ensures.long ∙ length-replicate all_words c.enter-rows.result;
    }

pub unload_lanes-requires : goal.unload_lanes-requires
unload_lanes-requires c =
    record {
      few = c.if-bases-gt-LANES.false;
      eight = c.do_lanes.ensures.long ∙ c.load_lanes.ensures.long ∙ length-replicate all_words c.enter-rows.result;
    }

pub returns : goal.returns
unfolding through_lanes
returns c =
    let few = c.if-bases-gt-LANES.false in
    rw (le-ltb _ _ few) (lanes_through _ _ _ few (rw c.enter-rows.ensures at c.load_lanes.ensures) _ _ _ c.do_lanes.ensures c.unload_lanes.ensures)
