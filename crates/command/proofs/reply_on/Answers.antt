-- `reply_on` meets its contract: the call is what the words ask for, and each kind of call has its own text.
use mathlib.Core.Path.{sym}
use Prim.Native.Nat.{◌≤◌}
use native.Mathlib.Omega.{arith}
use lib.ListN.{length}
use lib.Seq.{length-take-le}
use Rattle.tool.proofs.Laws.Lengths.{no_verb_most, wrong_count_most, unread_most, usage_most}
use Rattle.tool.proofs.Laws.Parts.{complained}
use Rattle.command.proofs.reply_on.Goals as goal
use Rattle.command.proofs.reply_on.Goals.{In-Known}

pub overflow_sub-index : goal.overflow_sub-index
overflow_sub-index c = let r = rw c.in-Unread.is at c.understand-call.ensures.in_range in omega (arith, r.behind)

-- the parameters are in their row
few : (c : In-Known) → c.in-Known.count ≤ length c.understand-call.result.values
few c =
    let r = rw c.in-Known.is at c.understand-call.ensures.in_range in
    omega (arith, r.few, c.understand-call.ensures.size)

pub slice_bounds-values-end : goal.slice_bounds-values-end
slice_bounds-values-end c = few (goal.at.slice_bounds-values-end c).In-Known

pub slice_bounds-perform-end : goal.slice_bounds-perform-end
slice_bounds-perform-end c = sym (length-take-le _ _ (few (goal.at.slice_bounds-perform-end c).In-Known))

pub perform-requires : goal.perform-requires
perform-requires c =
    let r = rw c.in-Known.is at c.understand-call.ensures.in_range in
    record { few = rw (length-take-le c.in-Known.count c.understand-call.result.values (few (goal.at.perform-requires c).In-Known)) r.few; within = r.within }

pub returns-in-NoWord : goal.returns-in-NoWord
returns-in-NoWord c = rw (← (rw c.in-NoWord.is at c.understand-call.ensures.asked)) (complained c.put_usage.ensures usage_most c.complaint.ensures)

pub returns-in-NoVerb : goal.returns-in-NoVerb
returns-in-NoVerb c = rw (← (rw c.in-NoVerb.is at c.understand-call.ensures.asked), ← c.nth_word.ensures) (complained c.put_no_verb.ensures (no_verb_most _) c.complaint-in-NoVerb.ensures)

pub returns-in-WrongCount : goal.returns-in-WrongCount
returns-in-WrongCount c =
    let r = rw c.in-WrongCount.is at c.understand-call.ensures.in_range in
    let name = rw (← c.nth_word-in-WrongCount.ensures) at r.name in
    rw (← (rw c.in-WrongCount.is at c.understand-call.ensures.asked), ← c.nth_word-in-WrongCount.ensures) (complained c.put_wrong_count.ensures (wrong_count_most _ _ _ name (omega (arith, r.least)) (omega (arith, r.most)) (omega (arith, r.count))) c.complaint-in-WrongCount.ensures)

pub returns-in-Unread : goal.returns-in-Unread
returns-in-Unread c =
    let r = rw c.in-Unread.is at c.understand-call.ensures.in_range in
    rw (← (rw c.in-Unread.is at c.understand-call.ensures.asked), ← c.nth_word-in-Unread.ensures) (complained c.put_unread.ensures (unread_most _ _ _ (omega (arith, r.largest))) c.complaint-in-Unread.ensures)

pub returns-in-Known : goal.returns-in-Known
returns-in-Known c = rw (← (rw c.in-Known.is at c.understand-call.ensures.asked)) c.perform.ensures
