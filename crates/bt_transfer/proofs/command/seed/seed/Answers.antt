use Rattle.std.proofs.Common.{◌⊎◌, inl, inr, refl, sym, subst, ◌∙◌}
use Rattle.bt_files.specs.Loading.{IsLoaded, IsLogFull, IsStoreFault}
use Rattle.bt_files.proofs.Faults.{ok_weaker, err_weaker, end_not_refused, not_refused, passed_on, while_loading}
use Rattle.bt_transfer.specs.Seed.{seed_use}
use Rattle.bt_transfer.proofs.EndFaults.{at_opening, call_not_full, store_not_full, told_at_end}
use Rattle.bt_transfer.proofs.FailedServing.{full_seed}
use Rattle.bt_transfer.proofs.FullLogs.{filled_log}
use Rattle.bt_transfer.proofs.Uses.{complete_where_read_only, lacking_only, lacking_some}
use Rattle.bt_transfer.proofs.command.seed.seed.Goals as goal

pub returns-in_err-shared-clause-fault : goal.returns-in_err-shared-clause-fault
returns-in_err-shared-clause-fault g c =
    passed_on c.from_residual.result _
    (λ fault. IsStoreFault c.args.source.is_info (seed_use c.args.service.is_read_only) c.args.log fault ⊎ IsLogFull c.args.log fault)
    c.from_residual.ensures.1
    (inl (while_loading c.args.source.is_info (seed_use c.args.service.is_read_only) c.args.log _ (inr refl)))

pub returns-in_err-engine-clause-fault : goal.returns-in_err-engine-clause-fault
returns-in_err-engine-clause-fault g c =
    passed_on c.from_residual-in_err-engine.result _
    (λ fault. IsStoreFault c.args.source.is_info (seed_use c.args.service.is_read_only) c.args.log fault ⊎ IsLogFull c.args.log fault)
    c.from_residual-in_err-engine.ensures.1
    (at_opening c.args.source.is_info (seed_use c.args.service.is_read_only) _ c.args.log _ (c.device_context-context.ensures ∙ c.seed_use.ensures)
    c.in_err-engine.ensures.fault)

pub returns-clause-done : goal.returns-clause-done
returns-clause-done g c =
    let loaded = subst (λ usage. IsLoaded c.args.source.is_info usage c.args.dir.now c.args.log c.in_ok-engine.engine)
    (c.device_context-context.ensures ∙ c.seed_use.ensures) c.in_ok-engine.ensures.loaded in
    ok_weaker c.seed_store.result _ _ (λ status ended. inl (record {
      store = c.in_ok-engine.engine;
      loaded = loaded;
      complete = λ only. sym c.is_complete-is_complete.ensures
          ∙ complete_where_read_only c.args.service.is_read_only c.is_complete-is_complete.result (sym c.is_lacking.ensures ∙ c.if-is_lacking.false) only;
      ended = ended;
    }))
    (c.seed_store.ensures.listened loaded.torrent loaded.opened.devices loaded.opened.attached loaded.opened.filled loaded.opened.begun)

pub returns-clause-refused : goal.returns-clause-refused
returns-clause-refused g c =
    err_weaker c.seed_store.result _ _ (λ fault holds two other. absurd (end_not_refused c.in_ok-engine.engine.log fault holds two other))
    c.seed_store.ensures.fault

pub returns-clause-fault : goal.returns-clause-fault
returns-clause-fault g c =
    let loaded = subst (λ usage. IsLoaded c.args.source.is_info usage c.args.dir.now c.args.log c.in_ok-engine.engine)
    (c.device_context-context.ensures ∙ c.seed_use.ensures) c.in_ok-engine.ensures.loaded in
    err_weaker c.seed_store.result _ _
    (told_at_end c.args.source.is_info (seed_use c.args.service.is_read_only) c.args.dir.now c.args.log c.in_ok-engine.engine loaded)
    c.seed_store.ensures.fault

pub returns-then-is_lacking-clause-done : goal.returns-then-is_lacking-clause-done
returns-then-is_lacking-clause-done g c =
    let loaded = subst (λ usage. IsLoaded c.args.source.is_info usage c.args.dir.now c.args.log c.in_ok-engine.engine)
    (c.device_context-context.ensures ∙ c.seed_use.ensures) c.in_ok-engine.ensures.loaded in
    let lacks = sym c.is_lacking.ensures ∙ c.if-is_lacking.true in
    ok_weaker c.report_lack.result _ _ (λ status told. inr (record {
      store = c.in_ok-engine.engine;
      loaded = loaded;
      read_only = lacking_only c.args.service.is_read_only c.is_complete-is_complete.result lacks;
      lacking = sym c.is_complete-is_complete.ensures
          ∙ lacking_some c.args.service.is_read_only c.is_complete-is_complete.result lacks;
      told = told.1;
      answer = told.0;
    }))
    c.report_lack.ensures.told

pub returns-then-is_lacking-clause-fault : goal.returns-then-is_lacking-clause-fault
returns-then-is_lacking-clause-fault g c =
    err_weaker c.report_lack.result _ _
    (λ fault plain. inl (while_loading c.args.source.is_info (seed_use c.args.service.is_read_only) c.args.log fault plain)) c.report_lack.ensures.fault

pub returns-then-is_lacking-clause-refused : goal.returns-then-is_lacking-clause-refused
returns-then-is_lacking-clause-refused g c =
    err_weaker c.report_lack.result _ _ (λ fault holds two other. absurd (not_refused fault holds two)) c.report_lack.ensures.fault

pub returns-in_err-shared-clause-full : goal.returns-in_err-shared-clause-full
returns-in_err-shared-clause-full g c =
    passed_on c.from_residual.result _ _ c.from_residual.ensures.1 (λ full. absurd (call_not_full _ (inr refl) full))

pub returns-in_err-engine-clause-full : goal.returns-in_err-engine-clause-full
returns-in_err-engine-clause-full g c =
    passed_on c.from_residual-in_err-engine.result _ _ c.from_residual-in_err-engine.ensures.1
    (λ full. absurd (store_not_full c.args.source.is_info _ c.args.log _ c.in_err-engine.ensures.fault full))

pub returns-then-is_lacking-clause-full : goal.returns-then-is_lacking-clause-full
returns-then-is_lacking-clause-full g c =
    err_weaker c.report_lack.result _ _ (λ fault plain full. absurd (call_not_full fault plain full)) c.report_lack.ensures.fault

pub returns-clause-full : goal.returns-clause-full
returns-clause-full g c =
    let loaded = subst (λ usage. IsLoaded c.args.source.is_info usage c.args.dir.now c.args.log c.in_ok-engine.engine)
    (c.device_context-context.ensures ∙ c.seed_use.ensures) c.in_ok-engine.ensures.loaded in
    err_weaker c.seed_store.result _ _
    (λ fault stopped full. filled_log c.args.source.is_info (seed_use c.args.service.is_read_only) c.args.dir.now c.args.log c.in_ok-engine.engine
    loaded (full_seed fault stopped.1 full))
    c.seed_store.ensures.stopped
