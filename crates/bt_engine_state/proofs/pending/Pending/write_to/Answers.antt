use Rattle.std.proofs.Common.{ap, ◌∙◌, refl}
use Rattle.bt_machine.specs.LogCalls.{log_flushed, flush_fault}
use Rattle.bt_engine_state.specs.Pending.{PendingView}
use Rattle.bt_engine_state.specs.Writing.{written, unflushed}
use Rattle.bt_engine_state.proofs.Calls.{left_unwritten, then_flush}
use Rattle.bt_engine_state.proofs.pending.Pending.write_to.Goals as goal

pub returns-in-Err-clause-written : goal.returns-in-Err-clause-written
returns-in-Err-clause-written g c =
    let d = g.D.Disk in
    left_unwritten d.conduct c.args.log.now c.args.self.now.hints c.deref.result.now c.append_all.new.log c.in-Err.cause
    (c.deref.ensures.value ∙ ap (λ (p : PendingView). p.hints) c.self.view_is) c.in-Err.ensures c.flush_error.result c.flush_error.ensures

pub returns-in-Err-flush-clause-written : goal.returns-in-Err-flush-clause-written
returns-in-Err-flush-clause-written g c =
    let d = g.D.Disk in (
      _,
      then_flush d.conduct c.args.log.now c.args.self.now.hints c.deref.result.now c.append_all.new.log flush_fault c.flush.new.self
          (c.deref.ensures.value ∙ ap (λ (p : PendingView). p.hints) c.self.view_is) c.in_default.ensures (c.in-Err-flush.field-0, c.in-Err-flush.ensures),
      unflushed refl refl refl,
    )

pub returns-clause-written : goal.returns-clause-written
returns-clause-written g c =
    let d = g.D.Disk in (
      _,
      then_flush d.conduct c.args.log.now c.args.self.now.hints c.deref.result.now c.append_all.new.log log_flushed c.flush.new.self
          (c.deref.ensures.value ∙ ap (λ (p : PendingView). p.hints) c.self.view_is) c.in_default.ensures c.in_default-flush.ensures,
      written refl refl c.clear.ensures.hints,
    )
