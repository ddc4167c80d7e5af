use Rattle.std.proofs.Common.{IfErr, sym, subst}
use Rattle.std.specs.Prelude.{OnOk}
use Rattle.bt_files.specs.StoreLog.{IsLogApart, IsLookFaultBy}
use Rattle.bt_files.proofs.store_log.look_at_log.Goals as goal

pub returns-in-Some-clause-looked : goal.returns-in-Some-clause-looked
returns-in-Some-clause-looked g c =
    subst (λ log. OnOk c.refuse_data_file-outcome.result (IsLogApart (g.R.Lookup.tells c.args.rt.now) c.args.dir.now c.args.torrent.now.files log)) (sym c.in-Some.is)
    c.refuse_data_file-outcome.ensures.free

pub returns-in-Some-clause-fault : goal.returns-in-Some-clause-fault
returns-in-Some-clause-fault g c =
    subst (λ log. IfErr c.refuse_data_file-outcome.result (IsLookFaultBy (g.R.Lookup.tells c.args.rt.now) c.args.dir.now c.args.torrent.now.files log)) (sym c.in-Some.is)
    c.refuse_data_file-outcome.ensures.fault

pub returns-in-None-clause-looked : goal.returns-in-None-clause-looked
returns-in-None-clause-looked g c =
    subst (λ log. IsLogApart (g.R.Lookup.tells c.args.rt.now) c.args.dir.now c.args.torrent.now.files log) (sym c.in-None.is) tt
