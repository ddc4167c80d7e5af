use Rattle.std.proofs.Common.{inr, List, map}
use Rattle.bt_meta.specs.Files.{File, file_of}
use Rattle.bt_log_file.specs.Keeping.{HasFolderThat}
use Rattle.bt_log_file.specs.Names.{HasFileByName, HasNoFileByName}
use Rattle.bt_log_file.specs.Opening.{HasFailed, IsCallFaultOf, IsLogFaultOf}
use Rattle.bt_log_file.proofs.LogFaults.{of_known, of_name, passed_on}
use Rattle.bt_log_file.proofs.opening.open_in_file.Goals as goal

pub returns-in_err-refuse_known-clause-fault : goal.returns-in_err-refuse_known-clause-fault
returns-in_err-refuse_known-clause-fault g c =
    let path = c.args.opened.path.now in
    let named = HasFileByName (g.R.Lookup.tells c.args.rt.now) (g.R.Lookup.lists c.args.rt.now) c.args.dir.now c.args.torrent.now.files path in
    let own = HasNoFileByName (g.R.Lookup.tells c.args.rt.now) (g.R.Lookup.lists c.args.rt.now) c.args.dir.now c.args.torrent.now.files path in
    let failed = HasFailed (g.R.LogFolder.refuses c.args.rt.now) (g.R.Lookup.lists c.args.rt.now) path in
    let lost = HasFolderThat (g.R.LogFolder.leads c.args.rt.now) (g.R.LogFolder.loses c.args.rt.now) path in
    passed_on c.from_residual.result c.in_err-refuse_known.field-0.0
    (IsLogFaultOf c.args.known.now c.args.opened.opening.identity c.args.torrent.now.infohash (IsCallFaultOf failed lost) named own c.args.opened.disk)
    c.from_residual.ensures.1
    (of_known _ _ c.args.torrent.now.infohash failed lost c.args.opened.disk _ named own c.in_err-refuse_known.ensures.fault)

pub returns-in_err-refuse_other_name-clause-fault : goal.returns-in_err-refuse_other_name-clause-fault
returns-in_err-refuse_other_name-clause-fault g c =
    let path = c.args.opened.path.now in
    let named = λ (files : List File). HasFileByName (g.R.Lookup.tells c.args.rt.now) (g.R.Lookup.lists c.args.rt.now) c.args.dir.now files path in
    let own = λ (files : List File). HasNoFileByName (g.R.Lookup.tells c.args.rt.now) (g.R.Lookup.lists c.args.rt.now) c.args.dir.now files path in
    let failed = HasFailed (g.R.LogFolder.refuses c.args.rt.now) (g.R.Lookup.lists c.args.rt.now) path in
    let lost = HasFolderThat (g.R.LogFolder.leads c.args.rt.now) (g.R.LogFolder.loses c.args.rt.now) path in
    let files = c.args.torrent.now.files in
    passed_on c.from_residual-in_err-refuse_other_name.result c.in_err-refuse_other_name.field-0.0
    (IsLogFaultOf c.args.known.now c.args.opened.opening.identity c.args.torrent.now.infohash (IsCallFaultOf failed lost) (named files) (own files) c.args.opened.disk)
    c.from_residual-in_err-refuse_other_name.ensures.1
    (of_name c.args.known.now c.args.opened.opening.identity c.args.torrent.now.infohash failed lost c.args.opened.disk _ _ named own (map file_of c.files.result.now) files
    (λ told. inr told) c.files.ensures.said c.in_err-refuse_other_name.ensures.fault)
