-- Document 02, T-01: many bases in one pass. Up to 64 bases go through one named program, and each is replaced by what loading and
-- running it alone, forward from end to end, would have left in register 1. If any base is bad, the row remains as it was.
use Rattle.std.specs.Prelude.{not, List, [], ◌∷◌, ◌++◌, map, ℕ, ltb, length}
use Rattle.refusal.specs.declared.Refusal.TheVariants.{Variant, Count}
use Rattle.refusal.specs.Outcomes.{Outcome, Rule, after, ◌given_if◌}
use Rattle.tape.specs.declared.Header.{Header}
use Rattle.tape.specs.Layout.{header_of}
use Rattle.machine.specs.Machine.{reg}
use Rattle.program.specs.Services.{is_named}
use Rattle.program.specs.Door.{on_tape}
use Rattle.sequencer.specs.Services.{start_record, base_rules, forward_outcome}

-- the most bases of a row
abbrev pub max_bases : ℕ
max_bases = 64

-- the bases' refusals, base by base in row order: 9, 11 of the first, 9, 11 of the second, and so on
unfoldable pub row_rules : Header → List ℕ → List Rule
row_rules h [] = []
row_rules h (a ∷ bases) = base_rules h a ++ row_rules h bases

-- the service's own refusals: 4 for a free program, 14 above 64 bases, then those of the bases
unfoldable pub raise_rules : Header → List ℕ → List Rule
raise_rules h bases =
    (Variant given_if not (is_named h))
    ∷ (Count given_if ltb max_bases (length bases))
    ∷ row_rules h bases

-- What loading and running a base alone, forward from end to end, leaves in register 1. Where that is refused it is the base itself; no
-- base of a row that is answered comes to that (`raise_alone` of proofs/Laws/Bases).
unfoldable pub raised : List ℕ → ℕ → ℕ
raised tape a = reg (after (forward_outcome tape a) (start_record a)).registers 1

-- check's refusals, then the service's own; x where none applies
unfoldable pub on_row : {A : Type 0} → List ℕ → List ℕ → A → Outcome A
on_row tape bases x = on_tape tape (raise_rules (header_of tape) bases) x

-- the answer is 0
unfoldable pub raise_outcome : List ℕ → List ℕ → Outcome ℕ
raise_outcome tape bases = on_row tape bases 0

-- the row afterwards: refused, as it was; else each base raised
unfoldable pub raised_bases : List ℕ → List ℕ → List ℕ
raised_bases tape bases = after (on_row tape bases (map (raised tape) bases)) bases
