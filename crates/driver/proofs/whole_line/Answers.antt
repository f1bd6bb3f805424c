-- `whole_line` meets its contract: no line prints more than the row has.
use native.Mathlib.Omega.{arith}
use Rattle.text.proofs.Laws.Puts.{put_taken, put_inside}
use Rattle.driver.proofs.whole_line.Goals as goal

pub returns : goal.returns
returns c =
    let did = c.line.ensures.did_line in
    record {
      text_after = put_taken did.printed (omega (arith, did.short, c.requires));
      length_in_bounds = put_inside did.printed (omega arith);
    }
