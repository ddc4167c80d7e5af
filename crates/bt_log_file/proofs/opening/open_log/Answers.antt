use Rattle.std.proofs.Common.{◌⊎◌, ℕ, List, None, inl, subst}
use Rattle.std.specs.Prelude.{OnOk}
use Rattle.bt_resume.specs.ResumeLog.{IsAttached}
use Rattle.bt_log_file.specs.Device.{LogDiskView, device_conduct}
use Rattle.bt_log_file.specs.Keeping.{HasFolderThat, IsKeptFile, IsKeptIfEmpty}
use Rattle.bt_log_file.specs.Names.{HasFileByName, HasNoFileByName}
use Rattle.bt_log_file.specs.Opening.{AddsFile, HasFailed, IsCallFaultOf, IsFurtherLog, IsLogFaultBy, IsLogFaultOf, IsNoneOfFiles}
use Rattle.bt_log_file.proofs.LogFaults.{of_call, ok_weaker, passed_on, where_both, where_err}
use Rattle.bt_log_file.proofs.opening.open_log.Goals as goal

pub returns-in_err-opened-clause-fault : goal.returns-in_err-opened-clause-fault
returns-in_err-opened-clause-fault g c =
    let path = c.args.path.now in
    let named = HasFileByName (g.R.Lookup.tells c.args.rt.now) (g.R.Lookup.lists c.args.rt.now) c.args.dir.now c.args.torrent.now.files path in
    let own = HasNoFileByName (g.R.Lookup.tells c.args.rt.now) (g.R.Lookup.lists c.args.rt.now) c.args.dir.now c.args.torrent.now.files path in
    let failed = HasFailed (g.R.LogFolder.refuses c.args.rt.now) (g.R.Lookup.lists c.args.rt.now) path in
    let lost = HasFolderThat (g.R.LogFolder.leads c.args.rt.now) (g.R.LogFolder.loses c.args.rt.now) path in
    passed_on c.from_residual.result c.in_err-opened.field-0.0
    (IsLogFaultBy (IsCallFaultOf failed lost) named own c.args.known.now c.args.torrent.now path)
    c.from_residual.ensures.1 (None, inl (of_call _ (failed ⊎ (IsNoneOfFiles c.args.known.now None own × lost)) _ (λ refused. inl (inl refused)) c.in_err-opened.ensures.fault))

pub returns-clause-log : goal.returns-clause-log
returns-clause-log g c =
    let identity = c.in_ok-opened.opened.opening.identity in
    let on = IsAttached device_conduct c.args.torrent.now.infohash in
    let after = c.open_in_file.new.known in
    where_both c.open_in_file.result (on c.in_ok-opened.opened.disk) (AddsFile c.args.known.now identity after)
    (IsFurtherLog c.args.known.now c.args.torrent.now c.args.path.now after)
    (λ log attached adds. record {
      identity = identity;
      is_log = subst (λ (d : LogDiskView). on d log) c.in_ok-opened.ensures.device attached;
      adds = adds;
    }) c.open_in_file.ensures.log c.open_in_file.ensures.further

pub returns-clause-own_name : goal.returns-clause-own_name
returns-clause-own_name g c =
    subst (λ (p : List ℕ). OnOk c.open_in_file.result
    (HasNoFileByName (g.R.Lookup.tells c.args.rt.now) (g.R.Lookup.lists c.args.rt.now) c.args.dir.now c.args.torrent.now.files p)) c.in_ok-opened.ensures.path
    c.open_in_file.ensures.own_name

pub returns-clause-kept : goal.returns-clause-kept
returns-clause-kept g c =
    let leads = g.R.LogFolder.leads c.args.rt.now in
    let keeps = g.R.LogFolder.keeps c.args.rt.now in
    let opening = c.in_ok-opened.opened.opening in
    ok_weaker c.open_in_file.result (IsKeptIfEmpty leads keeps opening c.in_ok-opened.opened.path.now)
    (IsKeptFile (g.R.LogFolder.opens c.args.rt.now) leads keeps c.args.path.now) (λ kept. record {
      opening = opening;
      told = c.in_ok-opened.ensures.opening;
      kept = subst (λ (p : List ℕ). IsKeptIfEmpty leads keeps opening p) c.in_ok-opened.ensures.path kept;
    }) c.open_in_file.ensures.kept

pub returns-clause-fault : goal.returns-clause-fault
returns-clause-fault g c =
    let identity = c.in_ok-opened.opened.opening.identity in
    let named = λ (p : List ℕ). HasFileByName (g.R.Lookup.tells c.args.rt.now) (g.R.Lookup.lists c.args.rt.now) c.args.dir.now c.args.torrent.now.files p in
    let own = λ (p : List ℕ). HasNoFileByName (g.R.Lookup.tells c.args.rt.now) (g.R.Lookup.lists c.args.rt.now) c.args.dir.now c.args.torrent.now.files p in
    let failed = HasFailed (g.R.LogFolder.refuses c.args.rt.now) (g.R.Lookup.lists c.args.rt.now) in
    let lost = HasFolderThat (g.R.LogFolder.leads c.args.rt.now) (g.R.LogFolder.loses c.args.rt.now) in
    let fault_of = λ (p : List ℕ). IsLogFaultOf c.args.known.now identity c.args.torrent.now.infohash (IsCallFaultOf (failed p) (lost p)) (named p) (own p) in
    let path = c.args.path.now in
    where_err c.open_in_file.result (fault_of c.in_ok-opened.opened.path.now c.in_ok-opened.opened.disk)
    (IsLogFaultBy (IsCallFaultOf (failed path) (lost path)) (named path) (own path) c.args.known.now c.args.torrent.now path)
    (λ fault is. (
      identity,
      subst (λ (d : LogDiskView). fault_of path d fault) c.in_ok-opened.ensures.device
          (subst (λ (p : List ℕ). fault_of p c.in_ok-opened.opened.disk fault) c.in_ok-opened.ensures.path is),
    )) c.open_in_file.ensures.fault
