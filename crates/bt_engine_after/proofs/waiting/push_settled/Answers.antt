use Rattle.std.proofs.Common.{map, sym, subst, arith}
use Rattle.bt_engine_state.specs.Parts.{file_of}
use Rattle.bt_engine_after.specs.declared.waiting.FileRuns.{FileRuns}
use Rattle.bt_engine_after.specs.MarksSteps.{AreRuns, most_hints}
use Rattle.bt_engine_after.specs.WaitingSteps.{is_marked_among}
use Rattle.bt_engine_after.proofs.RunMarks.{room_for_one, room_with_one}
use Rattle.bt_engine_after.proofs.OtherMarks.{settled_more}
use Rattle.bt_engine_after.proofs.waiting.push_settled.Goals as goal

pub push_settled_in-requires-clause-runs : goal.push_settled_in-requires-clause-runs
push_settled_in-requires-clause-runs g c =
    subst (λ (one : FileRuns). AreRuns one.runs.items) (sym c.one-item.is) (c.requires.runs c.loop-one.one-index c.one-item.result (omega (arith, c.loop-one-test.true)))

pub push_settled_in-requires-clause-room : goal.push_settled_in-requires-clause-room
push_settled_in-requires-clause-room g c =
    let l = c.loop-one in
    room_for_one (λ (one : FileRuns). most_hints one.runs.items) c.args.listed.now l.one-index c.one-item.result (omega (arith, c.loop-one-test.true)) c.one-item.is
    c.args.pending.now.room l.pending.room c.requires.room l.invariant.room

pub loop-one-preserved : goal.loop-one-preserved
loop-one-preserved g c =
    let l = c.loop-one in
    let listed = c.args.listed.now in
    let one = c.one-item.result in
    record {
      hints = settled_more listed (is_marked_among (map file_of c.args.slots.now)) l.one-index one (omega (arith, c.loop-one-test.true)) c.one-item.is
          c.args.pending.now.hints l.invariant.hints c.push_settled_in.ensures.hints;
      room = room_with_one (λ (x : FileRuns). most_hints x.runs.items) listed l.one-index one (omega (arith, c.loop-one-test.true)) c.one-item.is
          c.args.pending.now.room l.pending.room c.push_settled_in.new.pending.room l.invariant.room c.push_settled_in.ensures.room;
    }
