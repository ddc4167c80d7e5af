use Rattle.std.proofs.Common.{◌≡◌, IfOk, inr, sym, subst}
use Rattle.std.specs.Prelude.{IfSome}
use Rattle.sha2.specs.Sha256.{sha256}
use Rattle.bt_files.specs.Store.{HasBegun}
use Rattle.bt_files.specs.OpenFolder.{IsCallFault}
use Rattle.bt_files.proofs.Faults.{passed_on}
use Rattle.bt_files.proofs.store.begin_store.Goals as goal

pub begin_with_log-requires-clause-own_log : goal.begin_with_log-requires-clause-own_log
begin_with_log-requires-clause-own_log g c =
    subst (λ log. IfSome log (λ l. l.infohash ≡ c.args.torrent.infohash)) c.in-Some.is c.requires.own_log

pub returns-in-Some-clause-begun : goal.returns-in-Some-clause-begun
returns-in-Some-clause-begun g c =
    subst (λ log. HasBegun g.D.Disk.conduct sha256 c.args.torrent c.args.files.disks.items log c.args.files.filled.items
    c.in_ok-engine-in-Some.engine) (sym c.in-Some.is) (c.in_ok-engine-in-Some.ensures.begun c.args.files.filled.items)

pub returns-clause-begun : goal.returns-clause-begun
returns-clause-begun g c =
    subst (λ log. IfOk c.begin.result
    (HasBegun g.D.Disk.conduct sha256 c.args.torrent c.args.files.disks.items log c.args.files.filled.items))
    (sym c.in-None.is) c.begin.ensures.begun

pub returns-in_err-engine-in-Some-clause-fault : goal.returns-in_err-engine-in-Some-clause-fault
returns-in_err-engine-in-Some-clause-fault g c =
    passed_on c.from_residual.result c.in_err-engine-in-Some.field-0.0 IsCallFault c.from_residual.ensures.1 (inr c.in_err-engine-in-Some.ensures.fault)
