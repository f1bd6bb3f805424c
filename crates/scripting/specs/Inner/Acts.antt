-- What a call comes to in a script, as the code tells calls apart; for contracts.
use Rattle.std.specs.Prelude.{Bool, cond, ℕ}
use Rattle.tool.specs.declared.Verb.{Verb}
use Rattle.tool.specs.declared.Verb.TheVariants.{Build, Script, Help, Version, OnTape, OnNumbers, InScript}
use Rattle.tool.specs.declared.Call.{Call}
use Rattle.tool.specs.declared.Call.TheVariants.{NoWord, NoVerb, WrongCount, Unread, Known}
use Rattle.scripting.specs.declared.Act.{Act}
use Rattle.scripting.specs.declared.Act.TheVariants.{Reply, Edit, BuildTape, PlacesInRoom, ListInRoom}
use Rattle.scripting.specs.Script.{is_places, is_listing}

-- by the verb, whether there is a room, and the refusal that is the verb's own
abbrev pub act_by : Verb → Bool → ℕ → Act
act_by (InScript verb) roomed own = Edit verb
act_by Build roomed own = BuildTape own
act_by (OnNumbers verb) roomed own = cond (is_places verb) (cond roomed (PlacesInRoom own) Reply) Reply
act_by (OnTape verb) roomed own = cond (is_listing verb) (cond roomed ListInRoom Reply) Reply
act_by Script roomed own = Reply
act_by Help roomed own = Reply
act_by Version roomed own = Reply

abbrev pub act_of : Call → Bool → Act
act_of (Known row count) roomed = act_by row.verb roomed row.own
act_of NoWord roomed = Reply
act_of NoVerb roomed = Reply
act_of (WrongCount row given) roomed = Reply
act_of (Unread row index) roomed = Reply

-- how many parameters it has
abbrev pub count_of : Call → ℕ
count_of (Known row count) = count
count_of NoWord = 0
count_of NoVerb = 0
count_of (WrongCount row given) = 0
count_of (Unread row index) = 0
