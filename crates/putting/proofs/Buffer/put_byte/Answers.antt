-- `put_byte` meets its contract: a full row takes nothing, and any other one byte.
use Rattle.std.proofs.Common.{refl}
use Rattle.text.proofs.Laws.Puts.{put_one, put_full}
use Rattle.putting.proofs.Buffer.put_byte.Goals as goal

pub returns-then-self : goal.returns-then-self
returns-then-self c = record { same_row = refl; put = put_one _ _ _ c.if-self.true }

pub returns-else-self : goal.returns-else-self
returns-else-self c = record { same_row = refl; put = put_full _ _ _ c.if-self.false }
