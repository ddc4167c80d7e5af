use Rattle.std.proofs.Common.{sym, subst}
use Rattle.bt_meta.specs.Torrent.{Metainfo}
use Rattle.bt_log_file.proofs.LogFaults.{where_both}
use Rattle.bt_files.specs.OwnPaths.{AreOwnPaths}
use Rattle.bt_files.specs.StoreLog.{IsLogApart}
use Rattle.bt_log_file.specs.Looking.{HasNoFileAt}
use Rattle.bt_files.proofs.Faults.{err_weaker, ok_weaker, passed_on, while_opening}
use Rattle.bt_files.proofs.OwnTorrents.{twice_looked, twice_opened, twice_read, while_looking}
use Rattle.bt_files.proofs.loading.load_store.Goals as goal

pub returns-clause-loaded : goal.returns-clause-loaded
returns-clause-loaded g c = ok_weaker c.open_store.result _ _ (λ engine opened. record {
  torrent = c.in_ok-torrent.torrent;
  read = c.in_ok-torrent.ensures.torrent;
  opened = opened;
}) c.open_store.ensures.opened

pub returns-clause-looked : goal.returns-clause-looked
returns-clause-looked g c = where_both c.open_store.result _ _ _
    (λ engine opened looked. subst (λ (torrent : Metainfo). IsLogApart (g.R.Lookup.tells c.args.rt.now) c.args.dir.now torrent.files c.args.log)
    (sym opened.begun.same) looked) c.open_store.ensures.opened c.open_store.ensures.looked

pub returns-clause-own : goal.returns-clause-own
returns-clause-own g c = where_both c.open_store.result _ _ _
    (λ engine opened own writes. subst (λ (torrent : Metainfo). AreOwnPaths (g.R.Lookup.lists c.args.rt.now) c.args.dir.now torrent.files)
    (sym opened.begun.same) (own writes)) c.open_store.ensures.opened c.open_store.ensures.own

pub returns-clause-fault : goal.returns-clause-fault
returns-clause-fault g c = err_weaker c.open_store.result _ _
    (while_opening c.args.source.is_info c.args.context.usage c.in_ok-torrent.torrent c.args.log c.in_ok-torrent.ensures.torrent) c.open_store.ensures.fault

pub returns-clause-apart : goal.returns-clause-apart
returns-clause-apart g c = ok_weaker c.open_store.result _ _
    (λ engine opened writes. subst (λ (torrent : Metainfo). HasNoFileAt (g.R.Lookup.tells c.args.rt.now) c.args.dir.now torrent.files c.args.source.path.now)
    (sym opened.begun.same) (c.in_ok-look_at_source.ensures.apart writes)) c.open_store.ensures.opened

pub returns-clause-same : goal.returns-clause-same
returns-clause-same g c = err_weaker c.open_store.result _ _
    (λ fault cause. twice_opened (g.R.Lookup.tells c.args.rt.now) c.args.source.is_info c.args.dir.now c.args.source.path.now fault
    c.args.context.usage c.in_ok-torrent.torrent c.args.log c.in_ok-torrent.ensures.torrent cause) c.open_store.ensures.fault

pub returns-in_err-torrent-clause-same : goal.returns-in_err-torrent-clause-same
returns-in_err-torrent-clause-same g c =
    passed_on c.from_residual.result _ _ c.from_residual.ensures.1
    (twice_read (g.R.Lookup.tells c.args.rt.now) c.args.source.is_info c.args.dir.now c.args.source.path.now _ c.in_err-torrent.ensures.fault)

pub returns-in_err-look_at_source-clause-fault : goal.returns-in_err-look_at_source-clause-fault
returns-in_err-look_at_source-clause-fault g c =
    passed_on c.from_residual-in_err-look_at_source.result _ _ c.from_residual-in_err-look_at_source.ensures.1
    (while_looking (g.R.Lookup.tells c.args.rt.now) c.args.source.is_info c.args.context.usage c.in_ok-torrent.torrent c.args.log c.args.dir.now
    c.args.source.path.now _ c.in_ok-torrent.ensures.torrent c.in_err-look_at_source.ensures.fault)

pub returns-in_err-look_at_source-clause-same : goal.returns-in_err-look_at_source-clause-same
returns-in_err-look_at_source-clause-same g c =
    passed_on c.from_residual-in_err-look_at_source.result _ _ c.from_residual-in_err-look_at_source.ensures.1
    (twice_looked (g.R.Lookup.tells c.args.rt.now) c.args.source.is_info c.args.dir.now c.args.source.path.now _
    c.args.context.usage c.in_ok-torrent.torrent c.in_ok-torrent.ensures.torrent c.in_err-look_at_source.ensures.fault)
