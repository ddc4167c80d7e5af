use Rattle.bt_log_file.proofs.Refusals.{by_what_is_told}
use Rattle.bt_log_file.proofs.looking.is_data_file.Goals as goal

pub returns : goal.returns
returns g c =
    by_what_is_told (g.R.Lookup.tells c.args.rt.now) c.args.dir.now c.args.path.now c.is_among.result c.identity_at-found.result
    c.identity_at-found.ensures c.files.ensures.said c.is_among.ensures
