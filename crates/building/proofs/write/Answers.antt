-- `write` meets its contract: its forms are the named program's, so the room that it tests is what the words need, and the header, the
-- steps and the end that it writes are those words.
use Rattle.std.proofs.Common.{◌≡◌, ap, ℕ, length, arith}
use Rattle.laying.proofs.Place.{place_none, place_some}
use Rattle.tape.specs.declared.Header.{Header}
use Rattle.tape.specs.Layout.{header_for}
use Rattle.tape.proofs.Laws.Layout.{program_length}
use Rattle.named.specs.Named.{named_program}
use Rattle.program.proofs.Laws.Building.{named_short, whole, count_is, place_room, built_short, steps_room, built_written}
use Rattle.building.proofs.write.Goals as goal
use Rattle.building.proofs.write.Goals.{After-lay_out}

pub step_count-requires : goal.step_count-requires
step_count-requires c = whole c.requires.writable c.requires.rows_from_table

pub overflow_cast-header : goal.overflow_cast-header
overflow_cast-header c =
    let a = c.args in
    omega (arith, count_is c.requires.writable c.requires.rows_from_table c.step_count.ensures, named_short a.p a.r a.k a.variant c.requires.writable, program_length (named_program a.p a.r a.k a.variant))

-- the header is that of the named program
header_is : (c : After-lay_out)
    → let a = c.args in
    ◌≡◌ {A = Header} (record { variant = a.variant; modulus = a.p; order = a.r; exponent = a.k; steps = c.step_count.result })
    (header_for (named_program a.p a.r a.k a.variant))
header_is c =
    let a = c.args in
    ap (λ (n : ℕ). record { variant = a.variant; modulus = a.p; order = a.r; exponent = a.k; steps = n }) (count_is c.requires.writable c.requires.rows_from_table c.step_count.ensures)

pub returns-in_default : goal.returns-in_default
returns-in_default c =
    let none = place_none _ _ c.in_default.ensures.value in
    built_short c.requires.writable c.requires.rows_from_table (header_is (goal.at.returns-in_default c).After-lay_out) none c.in_default.ensures.buffer_after

pub draw-requires : goal.draw-requires
draw-requires c =
    let there = place_some _ _ c.in-Some.ensures.value in
    let laid = steps_room c.requires.writable c.requires.rows_from_table (header_is (goal.at.draw-requires c).After-lay_out) c.args.buffer.now (place_room _ _ there.0) in
    record {
      whole = whole c.requires.writable c.requires.rows_from_table;
      room = omega (arith, laid, there.1, ap length c.in-Some.ensures.buffer_after);
    }

pub returns : goal.returns
returns c =
    let there = place_some _ _ c.in-Some.ensures.value in
    built_written c.requires.writable c.requires.rows_from_table (header_is (goal.at.returns c).After-lay_out) c.args.buffer.now (place_room _ _ there.0)
    there.1 c.in-Some.ensures.buffer_after c.draw.ensures c.word_count.ensures
