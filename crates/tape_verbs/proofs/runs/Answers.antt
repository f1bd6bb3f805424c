-- `runs` meets its contract: the numbers go behind the five places that the record is put into after them.
use mathlib.Core.Path.{refl, ap, ◌∙◌}
use mathlib.Core.List.{List, ◌++◌}
use Prim.Native.Nat.{ℕ, ◌-◌}
use native.Mathlib.Omega.{arith}
use lib.ListN.{length}
use lib.Seq.{sets, length-sets}
use borrow.Rule.Slice.PartMut.{put_mid}
use Rattle.sequencer.specs.Records.{Record, row_of, record_of}
use Rattle.sequencer.specs.Lists.{numbers_all, requests_of}
use Rattle.tool.proofs.Laws.Runs.{behind_length, behind_front, runs_count}
use Rattle.tape_verbs.proofs.runs.Goals as goal

pub put_record-requires : goal.put_record-requires
put_record-requires c =
    let args = c.args in
    let told = args.told.now in
    let e = c.play-after.ensures.numbers_after in
    omega (arith, ap (λ (l : List ℕ). length (put_mid 5 (length told - 5) told l)) e, behind_length told (numbers_all (requests_of args.tapes.now args.requests.now) (record_of args.state)) (omega arith))

pub shape_of-told : goal.shape_of-told
shape_of-told c =
    let args = c.args in
    let told = args.told.now in
    let play = c.play-after in
    let e = play.ensures.numbers_after in
    ap length c.put_record.ensures
    ∙ length-sets (put_mid 5 (length told - 5) told play.new.numbers) 0 (row_of (record_of play.result))
    ∙ ap (λ (l : List ℕ). length (put_mid 5 (length told - 5) told l)) e
    ∙ behind_length told (numbers_all (requests_of args.tapes.now args.requests.now) (record_of args.state)) (omega arith)

pub returns : goal.returns
returns c =
    let args = c.args in
    let told = args.told.now in
    let ns = numbers_all (requests_of args.tapes.now args.requests.now) (record_of args.state) in
    let play = c.play-after in
    let after = play.result.registers in
    let position = play.result.position in
    let vs = row_of (record_of play.result) in record {
      wrote = record {
        next_is = runs_count args.tapes.now args.requests.now (record_of args.state) after.c after.d after.e after.f position play.ensures.result_value;
        after_is =
            c.put_record.ensures
            ∙ ap (λ (l : List ℕ). sets (put_mid 5 (length told - 5) told l) 0 vs) play.ensures.numbers_after
            ∙ behind_front told ns (omega arith) after.c after.d after.e after.f position
            ∙ ap (λ (s : Record). sets told 0 (row_of s ++ ns)) play.ensures.result_value;
      };
      value = refl;
    }
