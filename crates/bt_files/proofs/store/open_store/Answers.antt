use Rattle.std.proofs.Common.{List, length, map, inl, inr, sym, ap, subst, ◌∙◌}
use Rattle.std.proofs.lemmas.List.{length-map}
use Rattle.bt_meta.specs.Files.{File, file_of}
use Rattle.bt_machine.specs.Start.{device_count}
use Rattle.bt_files.specs.DataFiles.{AreFilled, AreNewDevices}
use Rattle.bt_files.specs.FileUse.{use_with}
use Rattle.bt_files.specs.OpenFolder.{IsOpeningFault, KnowsOpened}
use Rattle.bt_files.specs.OwnPaths.{AreOwnPaths}
use Rattle.bt_files.specs.Store.{IsOpenFault}
use Rattle.bt_files.proofs.Devices.{device_count_is}
use Rattle.bt_files.proofs.Faults.{err_weaker, ok_weaker, passed_on}
use Rattle.bt_files.proofs.StoreLogs.{by_look, log_is_own}
use Rattle.bt_log_file.proofs.LogFaults.{where_ok}
use Rattle.bt_files.proofs.store.open_store.Goals as goal

pub begin_store-requires-clause-devices : goal.begin_store-requires-clause-devices
begin_store-requires-clause-devices g c =
    device_count_is (use_with c.args.context.usage c.args.log) c.args.dir.now (map file_of c.files.result.now) _ c.in_ok-files.ensures.devices
    ∙ ap device_count c.files.ensures.said

pub begin_store-requires-clause-each : goal.begin_store-requires-clause-each
begin_store-requires-clause-each g c =
    c.in_ok-files.ensures.each ∙ sym (length-map c.files.result.now file_of) ∙ ap length c.files.ensures.said

pub begin_store-requires-clause-own_log : goal.begin_store-requires-clause-own_log
begin_store-requires-clause-own_log g c =
    log_is_own c.in_ok-files.files.known c.args.torrent c.args.log c.open_log_at.new.known c.in_ok-attached.attached c.in_ok-attached.ensures.log

pub returns-in_err-look_at_log-clause-fault : goal.returns-in_err-look_at_log-clause-fault
returns-in_err-look_at_log-clause-fault g c =
    passed_on c.from_residual.result c.in_err-look_at_log.field-0.0 (IsOpenFault c.args.context.usage c.args.torrent c.args.log)
    c.from_residual.ensures.1
    (inl (by_look (g.R.Lookup.tells c.args.rt.now) c.args.dir.now c.args.torrent.files c.args.log c.in_err-look_at_log.field-0.0
    c.in_err-look_at_log.ensures.fault))

pub returns-in_err-files-clause-fault : goal.returns-in_err-files-clause-fault
returns-in_err-files-clause-fault g c =
    passed_on c.from_residual-in_err-files.result c.in_err-files.field-0.0 (IsOpenFault c.args.context.usage c.args.torrent c.args.log)
    c.from_residual-in_err-files.ensures.1
    (inr (inl (subst (λ (files : List File). IsOpeningFault c.args.context.usage files c.in_err-files.field-0.0) c.files.ensures.said c.in_err-files.ensures.fault)))

pub returns-in_err-attached-clause-fault : goal.returns-in_err-attached-clause-fault
returns-in_err-attached-clause-fault g c =
    passed_on c.from_residual-in_err-attached.result c.in_err-attached.field-0.0 (IsOpenFault c.args.context.usage c.args.torrent c.args.log)
    c.from_residual-in_err-attached.ensures.1
    (inr (inr (
      c.in_ok-files.files.known,
      subst (λ (files : List File). KnowsOpened c.args.context.usage files c.in_ok-files.files.known) c.files.ensures.said c.in_ok-files.ensures.known,
      c.in_err-attached.ensures.fault,
    )))

pub returns-clause-opened : goal.returns-clause-opened
returns-clause-opened g c = ok_weaker c.begin_store.result _ _ (λ engine begun. record {
  devices = c.in_ok-files.files.disks.items;
  of_files = subst (λ (files : List File). AreNewDevices (use_with c.args.context.usage c.args.log) c.args.dir.now files c.in_ok-files.files.disks.items) c.files.ensures.said c.in_ok-files.ensures.devices;
  filled = c.in_ok-files.files.filled.items;
  each = c.in_ok-files.ensures.each ∙ sym (length-map c.files.result.now file_of) ∙ ap length c.files.ensures.said;
  apart = c.in_ok-files.ensures.apart;
  known = c.in_ok-files.files.known;
  told = c.in_ok-files.ensures.told;
  attached = c.in_ok-attached.attached;
  after = c.open_log_at.new.known;
  of_log = c.in_ok-attached.ensures.log;
  begun = begun;
  are_filled = subst (λ (files : List File). AreFilled files c.in_ok-files.files.filled.items) c.files.ensures.said c.in_ok-files.ensures.filled;
}) c.begin_store.ensures.begun

pub returns-clause-looked : goal.returns-clause-looked
returns-clause-looked g c = where_ok c.begin_store.result _ c.in_ok-look_at_log.ensures.looked

pub returns-clause-own : goal.returns-clause-own
returns-clause-own g c = where_ok c.begin_store.result _ (λ writes.
    subst (λ (files : List File). AreOwnPaths (g.R.Lookup.lists c.args.rt.now) c.args.dir.now files) c.files.ensures.said
    (c.in_ok-files.ensures.own writes))

pub returns-clause-fault : goal.returns-clause-fault
returns-clause-fault g c = err_weaker c.begin_store.result _ _ (λ fault call. inr (inl (inl call))) c.begin_store.ensures.fault
