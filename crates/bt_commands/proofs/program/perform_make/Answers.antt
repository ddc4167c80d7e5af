use Rattle.bt_commands.proofs.ProgramRun.{made, not_made}
use Rattle.bt_commands.proofs.program.perform_make.Goals as goal

pub returns-in_err-torrent-clause-ended : goal.returns-in_err-torrent-clause-ended
returns-in_err-torrent-clause-ended g c =
    not_made c.from_residual.result c.args.request _ c.in_err-torrent.field-0.0 c.in_err-torrent.ensures.fault c.in_err-torrent.ensures.length c.from_residual.ensures.1

pub returns-clause-done : goal.returns-clause-done
returns-clause-done g c =
    made c.args.request c.in_ok-torrent.torrent _ _ c.in_ok-ready.ready.torrent c.in_ok-torrent.ensures.torrent c.in_ok-ready.ensures
    c.in_ok-publish.ensures.line
