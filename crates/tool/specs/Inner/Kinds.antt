-- The rows of the table of verbs by their kinds, which follow one another in it.
use Rattle.std.specs.Prelude.{List, ℕ, take, drop}
use Rattle.tool.specs.declared.Row.{Row}
use Rattle.tool.specs.Verbs.{rows}

-- the rows of a kind: `count` of them, behind the `before` rows of the kinds in front of it
abbrev pub kind_rows : ℕ → ℕ → List Row
kind_rows before count = take count (drop before rows)
