use Rattle.std.proofs.Common.{◌≡◌, false, length, map, if◌then◌else◌, ap, subst, ◌∙◌}
use Rattle.bt_meta.specs.Files.{file_of}
use Rattle.bt_files.specs.FileUse.{is_read_only}
use Rattle.bt_files.specs.OpenFolder.{HasFileOfAnotherPath, IsCallFaultOr, KnowsFiles}
use Rattle.bt_files.proofs.Devices.{same_reading}
use Rattle.bt_files.proofs.Faults.{err_weaker, ok_weaker, on_ok_weaker}
use Rattle.bt_files.proofs.store.open_files.Goals as goal

pub returns-clause-known : goal.returns-clause-known
returns-clause-known g c = ok_weaker c.open_devices.result _ _
    (λ files known. subst (λ r. KnowsFiles files.known (if r then 0 else length (map file_of c.args.entries.now)))
    (ap is_read_only c.with_log.ensures ∙ same_reading c.args.context.usage c.args.log) known) c.open_devices.ensures.known

pub returns-clause-told : goal.returns-clause-told
returns-clause-told g c = ok_weaker c.open_devices.result _ _
    (λ files told writes. told (ap is_read_only c.with_log.ensures ∙ same_reading c.args.context.usage c.args.log ∙ writes)) c.open_devices.ensures.told

pub returns-clause-apart : goal.returns-clause-apart
returns-clause-apart g c = ok_weaker c.open_devices.result _ _
    (λ files apart writes. apart (ap is_read_only c.with_log.ensures ∙ same_reading c.args.context.usage c.args.log ∙ writes)) c.open_devices.ensures.apart

pub returns-clause-own : goal.returns-clause-own
returns-clause-own g c = on_ok_weaker c.open_devices.result _ _
    (λ own writes. own (ap is_read_only c.with_log.ensures ∙ same_reading c.args.context.usage c.args.log ∙ writes)) c.open_devices.ensures.own

pub returns-clause-fault : goal.returns-clause-fault
returns-clause-fault g c = err_weaker c.open_devices.result _ _
    (λ fault cause. subst (λ r. IsCallFaultOr ((r ≡ false) × HasFileOfAnotherPath (map file_of c.args.entries.now)) fault)
    (ap is_read_only c.with_log.ensures ∙ same_reading c.args.context.usage c.args.log) cause) c.open_devices.ensures.fault
