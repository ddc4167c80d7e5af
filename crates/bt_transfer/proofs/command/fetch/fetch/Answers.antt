use Rattle.std.proofs.Common.{◌⊎◌, inl, inr, refl, subst}
use Rattle.bt_files.specs.Loading.{IsLoaded, IsLogFull, IsStoreFault}
use Rattle.bt_files.specs.declared.file_use.FileUse.TheVariants.{Fetch}
use Rattle.bt_files.proofs.Faults.{ok_weaker, err_weaker, end_not_refused, passed_on, while_loading}
use Rattle.bt_transfer.proofs.EndFaults.{at_opening, call_not_full, store_not_full, told_at_end}
use Rattle.bt_transfer.proofs.FullLogs.{filled_log}
use Rattle.bt_transfer.proofs.command.fetch.fetch.Goals as goal

pub returns-in_err-shared-clause-fault : goal.returns-in_err-shared-clause-fault
returns-in_err-shared-clause-fault g c =
    passed_on c.from_residual.result _ (λ fault. IsStoreFault c.args.source.is_info Fetch c.args.log fault ⊎ IsLogFull c.args.log fault)
    c.from_residual.ensures.1 (inl (while_loading c.args.source.is_info Fetch c.args.log _ (inr refl)))

pub returns-in_err-engine-clause-fault : goal.returns-in_err-engine-clause-fault
returns-in_err-engine-clause-fault g c =
    passed_on c.from_residual-in_err-engine.result _ (λ fault. IsStoreFault c.args.source.is_info Fetch c.args.log fault ⊎ IsLogFull c.args.log fault)
    c.from_residual-in_err-engine.ensures.1
    (at_opening c.args.source.is_info Fetch _ c.args.log _ c.device_context-context.ensures c.in_err-engine.ensures.fault)

pub returns-clause-fault : goal.returns-clause-fault
returns-clause-fault g c =
    let loaded = subst (λ usage. IsLoaded c.args.source.is_info usage c.args.dir.now c.args.log c.in_ok-engine.engine) c.device_context-context.ensures
    c.in_ok-engine.ensures.loaded in
    err_weaker c.fetch_store.result _ _ (told_at_end c.args.source.is_info Fetch c.args.dir.now c.args.log c.in_ok-engine.engine loaded)
    c.fetch_store.ensures.fault

pub returns-clause-refused : goal.returns-clause-refused
returns-clause-refused g c =
    err_weaker c.fetch_store.result _ _ (λ fault holds two other. absurd (end_not_refused c.in_ok-engine.engine.log fault holds two other))
    c.fetch_store.ensures.fault

pub returns-clause-done : goal.returns-clause-done
returns-clause-done g c =
    let loaded = subst (λ usage. IsLoaded c.args.source.is_info usage c.args.dir.now c.args.log c.in_ok-engine.engine) c.device_context-context.ensures
    c.in_ok-engine.ensures.loaded in
    ok_weaker c.fetch_store.result _ _ (λ status ended. record { store = c.in_ok-engine.engine; loaded = loaded; ended = ended })
    (c.fetch_store.ensures.fetched loaded.torrent loaded.opened.devices loaded.opened.attached loaded.opened.filled loaded.opened.begun)

pub returns-in_err-shared-clause-full : goal.returns-in_err-shared-clause-full
returns-in_err-shared-clause-full g c =
    passed_on c.from_residual.result _ _ c.from_residual.ensures.1 (λ full. absurd (call_not_full _ (inr refl) full))

pub returns-in_err-engine-clause-full : goal.returns-in_err-engine-clause-full
returns-in_err-engine-clause-full g c =
    passed_on c.from_residual-in_err-engine.result _ _ c.from_residual-in_err-engine.ensures.1
    (λ full. absurd (store_not_full c.args.source.is_info _ c.args.log _ c.in_err-engine.ensures.fault full))

pub returns-clause-full : goal.returns-clause-full
returns-clause-full g c =
    let loaded = subst (λ usage. IsLoaded c.args.source.is_info usage c.args.dir.now c.args.log c.in_ok-engine.engine) c.device_context-context.ensures
    c.in_ok-engine.ensures.loaded in
    err_weaker c.fetch_store.result _ _
    (λ fault found full. filled_log c.args.source.is_info Fetch c.args.dir.now c.args.log c.in_ok-engine.engine loaded (found full))
    c.fetch_store.ensures.full
