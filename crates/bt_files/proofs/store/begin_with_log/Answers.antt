use Rattle.std.proofs.Common.{refl}
use Rattle.sha2.specs.Sha256.{sha256}
use Rattle.bt_engine.specs.Leads.{none}
use Rattle.bt_files.proofs.Adoptions.{takes_none}
use Rattle.bt_files.proofs.Starting.{started}
use Rattle.bt_files.proofs.store.begin_with_log.Goals as goal

pub returns-in-Ok-clause-begun : goal.returns-in-Ok-clause-begun
returns-in-Ok-clause-begun g c = λ filled.
    let began = started g.D.Disk.conduct sha256 c.args.torrent c.args.disks.items _ c.in-Ok.engine c.in-Ok.ensures.answer refl in
    record {
      first = c.in-Ok.engine;
      placed = began.placed;
      devices = began.devices;
      begins = began.begins;
      taken_in = takes_none g.D.Disk.conduct sha256 c.in-Ok.engine;
      run = none c.in-Ok.engine;
      same = began.same_torrent;
      no_peer = began.no_peer;
      unlogged = began.unlogged;
    }
