use Rattle.std.proofs.Common.{◌≡◌, ◌+◌, List, sym, ap, ◌∙◌, subst, arith}
use Rattle.std.specs.Prelude.{filter}
use Rattle.std.specs.List.{range_with_len}
use Rattle.bt_resume.specs.declared.hint.Hint.{Hint}
use Rattle.bt_store.specs.Review.{is_marked_at}
use Rattle.bt_machine.specs.Hints.{add_hints}
use Rattle.bt_engine_state.specs.Pending.{PendingView}
use Rattle.bt_engine_after.specs.declared.marks.FileRun.{FileRun}
use Rattle.bt_engine_after.specs.MarksSteps.{marks_in, run_blocks}
use Rattle.bt_engine_after.proofs.RunMarks.{marked_goes_on, marked_ends, room_left, room_then}
use Rattle.bt_engine_after.proofs.marks.push_marked_of.Goals as goal
use Rattle.bt_engine_after.proofs.marks.push_marked_of.Goals.{then-is_marked, else-is_marked}

pub push_run-requires-clause-room : goal.push_run-requires-clause-room
push_run-requires-clause-room g c =
    let l = c.loop-offset in
    room_left c.args.run.count l.offset l.marked.count c.args.pending.now.room l.pending.room (omega (arith, c.loop-offset-test.true)) c.requires.room l.invariant.room

pub loop-offset-preserved : goal.loop-offset-preserved
loop-offset-preserved g c =
    let l = c.loop-offset in
    let states = c.args.store.now.states in
    let file = c.args.file in
    let first = c.args.run.first in
    let old = c.args.pending.now in
    let is = λ (hints : List Hint) (run : FileRun). add_hints hints (marks_in c.args.file (run_blocks run))
    ≡ add_hints c.args.pending.now.hints (marks_in c.args.file (filter (is_marked_at c.args.store.now.states) (range_with_len c.args.run.first (c.loop-offset.offset + 1)))) in
    elim c.if-is_marked.branch [
      | then-is_marked w ↦ record {
        hints = subst (λ (p : PendingView). is p.hints c.if-is_marked.marked) (sym w.pending-is)
            (subst (λ (r : FileRun). is l.pending.hints r) (sym w.marked-is)
            (marked_goes_on states file first l.offset l.marked old.hints l.pending.hints l.invariant.hints l.invariant.ends (sym c.is_marked.ensures ∙ w.if-is_marked.true)));
        ends = ap (λ (r : FileRun). r.first + r.count) w.marked-is ∙ omega (arith, l.invariant.ends);
        room = omega (arith, l.invariant.room, ap (λ (p : PendingView). p.room) w.pending-is, ap (λ (r : FileRun). r.count) w.marked-is);
      }
      | else-is_marked w ↦ record {
        hints = subst (λ (p : PendingView). is p.hints c.if-is_marked.marked) (sym w.pending-is)
            (subst (λ (r : FileRun). is w.push_run.new.pending.hints r) (sym w.marked-is)
            (marked_ends states file first l.offset l.marked old.hints l.pending.hints l.invariant.hints (sym c.is_marked.ensures ∙ w.if-is_marked.false) w.push_run.new.pending.hints w.push_run.ensures.hints));
        ends = ap (λ (r : FileRun). r.first + r.count) w.marked-is ∙ omega arith;
        room = omega (
          arith,
          room_then l.offset l.marked.count old.room l.pending.room w.push_run.new.pending.room l.invariant.room w.push_run.ensures.room,
          ap (λ (p : PendingView). p.room) w.pending-is,
          ap (λ (r : FileRun). r.count) w.marked-is,
        );
      }
    ]
