use Rattle.std.proofs.Common.{refl, arith}
use Rattle.std.specs.Int.{div_ceil}
use Rattle.std.proofs.lemmas.List.Elements.{All-get_or}
use Rattle.bt_resume.specs.Hint.{IsRun}
use Rattle.bt_engine_after.specs.declared.marks.FileRun.{FileRun}
use Rattle.bt_engine_after.proofs.RunMarks.{marked_more, room_for_one, room_with_one}
use Rattle.bt_engine_after.proofs.marks.push_marked_in.Goals as goal

pub push_marked_of-requires-clause-within : goal.push_marked_of-requires-clause-within
push_marked_of-requires-clause-within g c =
    (All-get_or (λ (r : FileRun). IsRun r.first r.count) c.args.runs.now c.loop-run.run-index _ (omega (arith, c.loop-run-test.true)) c.requires.runs.each).within

pub push_marked_of-requires-clause-room : goal.push_marked_of-requires-clause-room
push_marked_of-requires-clause-room g c =
    let l = c.loop-run in
    room_for_one (λ (r : FileRun). div_ceil r.count 2) c.args.runs.now l.run-index _ (omega (arith, c.loop-run-test.true)) refl
    c.args.pending.now.room l.pending.room c.requires.room l.invariant.room

pub loop-run-preserved : goal.loop-run-preserved
loop-run-preserved g c =
    let l = c.loop-run in
    let runs = c.args.runs.now in
    record {
      hints = marked_more c.args.store.now.states c.args.file runs l.run-index _ (omega (arith, c.loop-run-test.true)) refl c.args.pending.now.hints l.invariant.hints c.push_marked_of.ensures.hints;
      room = room_with_one (λ (r : FileRun). div_ceil r.count 2) runs l.run-index _ (omega (arith, c.loop-run-test.true)) refl
          c.args.pending.now.room l.pending.room c.push_marked_of.new.pending.room l.invariant.room c.push_marked_of.ensures.room;
    }
