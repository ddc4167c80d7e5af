use Rattle.std.proofs.Common.{true, false, refl, sym, ap, ◌∙◌, arith}
use Rattle.bt_engine_state.specs.Pending.{PendingView}
use Rattle.bt_engine_after.proofs.RunMarks.{marks_more}
use Rattle.bt_engine_after.proofs.marks.push_marked.Goals as goal
use Rattle.bt_engine_after.proofs.marks.push_marked.Goals.{then-is_marked, else-is_marked}

pub loop-block-preserved : goal.loop-block-preserved
loop-block-preserved g c =
    let l = c.loop-block in
    elim c.if-is_marked.branch [
      | then-is_marked w ↦ record {
        hints = marks_more c.args.store.now.states c.args.file c.args.blocks.now l.block-index _ (omega (arith, c.loop-block-test.true)) refl c.args.pending.now.hints l.pending.hints
            l.invariant.hints true (sym c.is_marked.ensures ∙ w.if-is_marked.true) c.if-is_marked.pending.hints
            (ap (λ (p : PendingView). p.hints) w.pending-is ∙ w.push_mark.ensures.hints);
        room = omega (arith, l.invariant.room, w.push_mark.ensures.room, ap (λ (p : PendingView). p.room) w.pending-is);
      }
      | else-is_marked w ↦ record {
        hints = marks_more c.args.store.now.states c.args.file c.args.blocks.now l.block-index _ (omega (arith, c.loop-block-test.true)) refl c.args.pending.now.hints l.pending.hints
            l.invariant.hints false (sym c.is_marked.ensures ∙ w.if-is_marked.false) c.if-is_marked.pending.hints (ap (λ (p : PendingView). p.hints) w.pending-is);
        room = omega (arith, l.invariant.room, ap (λ (p : PendingView). p.room) w.pending-is);
      }
    ]
