-- `whole_reply` meets its contract: no reply is longer than the row.
use native.Mathlib.Omega.{arith}
use Rattle.text.proofs.Laws.Puts.{put_taken, put_inside}
use Rattle.fibexp.proofs.whole_reply.Goals as goal

pub returns : goal.returns
returns c =
    let told = c.reply.ensures in
    record {
      text_after = put_taken told.text (omega (arith, told.short, c.requires));
      length_in_bounds = put_inside told.text (omega arith);
      status_value = told.status;
    }
