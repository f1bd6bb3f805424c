-- The place of a tape in a row of `room` words: the index of its first step's word, where it has one (`lay_begin`).
use Rattle.std.specs.Prelude.{cond, ℕ, Option, Some, None}
use Rattle.tape.specs.declared.Header.{Header}
use Rattle.tape.specs.Layout.{has_place, lay_begin}

abbrev pub lay_place : Header → ℕ → Option ℕ
lay_place h room = cond (has_place h room) (Some (lay_begin h room)) None
