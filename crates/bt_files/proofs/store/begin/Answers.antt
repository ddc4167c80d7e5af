use Rattle.std.proofs.Common.{refl, ◌∙◌}
use Rattle.std.proofs.lemmas.Result.{err_from_is_err_and}
use Rattle.sha2.specs.Sha256.{sha256}
use Rattle.bt_files.proofs.Adoptions.{adoption_fault}
use Rattle.bt_files.proofs.Starting.{started}
use Rattle.bt_files.proofs.Unlogged.{stays_unlogged}
use Rattle.bt_files.proofs.store.begin.Goals as goal

pub returns-in_err-adopt_files-in-Ok-clause-fault : goal.returns-in_err-adopt_files-in-Ok-clause-fault
returns-in_err-adopt_files-in-Ok-clause-fault g c =
    let p = err_from_is_err_and c.from_residual.result c.from_residual.ensures.1 in
    let stops = c.in_err-adopt_files-in-Ok.ensures.fault in
    rw (p.1, p.2) (adoption_fault stops.answer _ stops.cause)

pub returns-in-Ok-clause-begun : goal.returns-in-Ok-clause-begun
returns-in-Ok-clause-begun g c =
    let began = started g.D.Disk.conduct sha256 c.args.torrent c.args.disks.items _ c.in-Ok.engine c.in-Ok.ensures.answer refl in
    record {
      first = c.in-Ok.engine;
      placed = began.placed;
      devices = began.devices;
      begins = began.begins;
      taken_in = rw c.deref.ensures.value at c.in_ok-adopt_files-in-Ok.ensures.taken_in;
      run = c.adopt_files.ensures.run;
      same = c.adopt_files.ensures.torrent ∙ began.same_torrent;
      no_peer = c.adopt_files.ensures.no_peer;
      unlogged = λ none. stays_unlogged g.D.Disk.conduct sha256 c.adopt_files.ensures.run (began.unlogged none);
    }
