use Rattle.std.proofs.Common.{refl}
use Rattle.bt_commands.proofs.program.perform_part.Goals as goal

pub check_part-requires : goal.check_part-requires
check_part-requires g c = (c.args.task.torrent.is_info, c.in_ok-torrent.ensures.torrent)

pub returns-clause-done : goal.returns-clause-done
returns-clause-done g c =
    let told = c.in_ok-check_part.ensures.report in
    record {
      text = _;
      written = told.2;
      is = record { torrent = c.in_ok-torrent.torrent; loaded = c.in_ok-torrent.ensures.torrent; runs = told.0; report = told.1; lines = refl; answer = refl };
    }
