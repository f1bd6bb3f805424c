-- What a command line does in a script is what its call comes to there: each call and each verb is a case of both definitions.
use Rattle.std.specs.Prelude.{Option, Some, None, is_some, unwrap_or, option_to_list}
use mathlib.Core.Path.{◌≡◌, refl}
use mathlib.Core.Bool.{Bool, true, false, cond}
use mathlib.Core.List.{List}
use Prim.Native.Nat.{ℕ, ◌≤◌}
use native.Mathlib.Omega.{arith}
use lib.ListN.{take}
use Rattle.tool.specs.declared.Verb.{Verb}
use Rattle.tool.specs.declared.Verb.TheVariants.{Build, Script, Help, Version, OnTape, OnNumbers, InScript}
use Rattle.tool.specs.declared.Row.{Row}
use Rattle.tool.specs.declared.Call.{Call}
use Rattle.tool.specs.declared.Call.TheVariants.{NoWord, NoVerb, WrongCount, Unread, Known}
use Rattle.tool.specs.Verbs.{max_parameters, largest32, limit_in, limit_of}
use Rattle.tool.specs.Calls.{Asked, known}
use Rattle.tool.specs.Inner.Held.{AllAtMost}
use Rattle.tool.specs.Inner.Understood.{InRange, asked_for}
use Rattle.scripting.specs.declared.Act.{Act}
use Rattle.scripting.specs.declared.Act.TheVariants.{Reply, Edit, BuildTape, PlacesInRoom, ListInRoom}
use Rattle.scripting.specs.declared.Marks.{Marks}
use Rattle.scripting.specs.Script.{State, Done, at_hand, prints, in_script, build_by, places_in, list_in, places_line, list_line, is_places, is_listing, replied, by_verb, commanded}
use Rattle.scripting.specs.States.{state_in}
use Rattle.scripting.specs.Inner.Acts.{act_by, act_of, count_of}

-- what is done, by what was asked, the parameters and the room
abbrev pub by_act : ℕ → Act → Asked → List ℕ → ℕ → State → Done
by_act capacity Reply asked v room s = replied asked s
by_act capacity (Edit verb) asked v room s = in_script capacity verb v s
by_act capacity (BuildTape own) asked v room s = build_by capacity s.room own v s
by_act capacity (PlacesInRoom own) asked v room s = prints s (places_in room own v)
by_act capacity ListInRoom asked v room s = prints s (list_in room (at_hand s))

module _ (capacity : ℕ) (row : Row) (v : List ℕ) (s : State) where
  -- a verb that looks at the room: whether it is the one, and whether there is a room
  numbers_act : (one : Bool) (room : Option ℕ) → cond one (places_line (option_to_list room) row v s) (replied (known row v) s)
      ≡ by_act capacity (cond one (cond (is_some room) (PlacesInRoom row.own) Reply) Reply) (known row v) v (unwrap_or room 0) s
  numbers_act true (Some n) = refl
  numbers_act true None = refl
  numbers_act false room = refl

  tape_act : (one : Bool) (room : Option ℕ) → cond one (list_line (option_to_list room) row v s) (replied (known row v) s)
      ≡ by_act capacity (cond one (cond (is_some room) ListInRoom Reply) Reply) (known row v) v (unwrap_or room 0) s
  tape_act true (Some n) = refl
  tape_act true None = refl
  tape_act false room = refl

module _ (capacity : ℕ) (m : Marks) (tapes : List ℕ) where
  verb_act : (verb : Verb) (row : Row) (v : List ℕ)
      → by_verb capacity verb row v (state_in m tapes) ≡ by_act capacity (act_by verb (is_some m.room) row.own) (known row v) v (unwrap_or m.room 0) (state_in m tapes)
  verb_act (InScript verb) row v = refl
  verb_act Build row v = refl
  verb_act (OnNumbers verb) row v = numbers_act capacity row v (state_in m tapes) (is_places verb) m.room
  verb_act (OnTape verb) row v = tape_act capacity row v (state_in m tapes) (is_listing verb) m.room
  verb_act Script row v = refl
  verb_act Help row v = refl
  verb_act Version row v = refl

  call_act : (call : Call) (words : List (List ℕ)) (values : List ℕ)
      → commanded capacity (asked_for call words values) (state_in m tapes)
      ≡ by_act capacity (act_of call (is_some m.room)) (asked_for call words values) (take (count_of call) values) (unwrap_or m.room 0) (state_in m tapes)
  unfolding commanded
  call_act (Known row count) words values = verb_act row.verb row (take count values)
  call_act NoWord words values = refl
  call_act NoVerb words values = refl
  call_act (WrongCount row given) words values = refl
  call_act (Unread row index) words values = refl

  pub commanded_act : {asked : Asked} {act : Act} (call : Call) (words : List (List ℕ)) (values : List ℕ) → asked_for call words values ≡ asked
      → act_of call (is_some m.room) ≡ act
      → commanded capacity asked (state_in m tapes) ≡ by_act capacity act asked (take (count_of call) values) (unwrap_or m.room 0) (state_in m tapes)
  commanded_act call words values e f = rw (← e, ← f) (call_act call words values)

-- ---- the parameters

pub count_few : (call : Call) (words : List (List ℕ)) (values : List ℕ) → InRange call words values → count_of call ≤ max_parameters
count_few (Known row count) words values r = r.few
count_few NoWord words values r = omega arith
count_few NoVerb words values r = omega arith
count_few (WrongCount row given) words values r = omega arith
count_few (Unread row index) words values r = omega arith

-- they are in the range of what is done with them
abbrev pub ActWithin : Act → List ℕ → Type 0
ActWithin (Edit verb) v = AllAtMost (limit_in verb) v
ActWithin (BuildTape own) v = AllAtMost largest32 v
ActWithin Reply v = 0 ≤ 0
ActWithin (PlacesInRoom own) v = 0 ≤ 0
ActWithin ListInRoom v = 0 ≤ 0

looks_within : (one roomed : Bool) (act : Act) (v : List ℕ) → ActWithin act v → ActWithin (cond one (cond roomed act Reply) Reply) v
looks_within true true act v h = h
looks_within true false act v h = omega arith
looks_within false roomed act v h = omega arith

verb_within : (verb : Verb) (roomed : Bool) (own : ℕ) (v : List ℕ) → AllAtMost (limit_of verb) v → ActWithin (act_by verb roomed own) v
verb_within (InScript verb) roomed own v h = h
verb_within Build roomed own v h = h
verb_within (OnNumbers verb) roomed own v h = looks_within (is_places verb) roomed (PlacesInRoom own) v (omega arith)
verb_within (OnTape verb) roomed own v h = looks_within (is_listing verb) roomed ListInRoom v (omega arith)
verb_within Script roomed own v h = omega arith
verb_within Help roomed own v h = omega arith
verb_within Version roomed own v h = omega arith

pub act_within_lem : {act : Act} (call : Call) (roomed : Bool) (words : List (List ℕ)) (values : List ℕ) → InRange call words values → act_of call roomed ≡ act
    → ActWithin act (take (count_of call) values)
act_within_lem (Known row count) roomed words values r e = rw e at (verb_within row.verb roomed row.own (take count values) r.within)
act_within_lem NoWord roomed words values r e = rw (← e) (omega arith)
act_within_lem NoVerb roomed words values r e = rw (← e) (omega arith)
act_within_lem (WrongCount row given) roomed words values r e = rw (← e) (omega arith)
act_within_lem (Unread row index) roomed words values r e = rw (← e) (omega arith)
