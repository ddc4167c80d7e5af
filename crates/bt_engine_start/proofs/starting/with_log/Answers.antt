use Rattle.std.proofs.Common.{refl, ap, ◌∙◌}
use Rattle.std.specs.Prelude.{not}
use Rattle.bt_engine_start.proofs.Restarts.{begun_with_log}
use Rattle.bt_engine_start.proofs.Starts.{none_by, begins_bare, begins_logged, lawful_first}
use Rattle.bt_engine_start.proofs.starting.with_log.Goals as goal

pub returns-then-is_none : goal.returns-then-is_none
returns-then-is_none g c = record {
  begins = begins_bare c.args.parts c.args.log c.requires.first c.requires.begun (none_by c.args.log (c.is_none.ensures ∙ ap not c.if-is_none.true));
  lawful = c.requires.first.lawful;
  torrent = refl;
  tied = c.requires.begun.tied;
}

pub recover_files-requires : goal.recover_files-requires
recover_files-requires g c =
    let b = begun_with_log c.args.parts c.args.log c.requires.begun in
    record { tied = b.tied; shaped = b.shaped; alone = b.alone; missing = b.missing; runs = c.requires.runs }

pub returns : goal.returns
returns g c = record {
  begins = begins_logged c.args.parts c.args.log c.requires.first c.requires.begun c.recover_files.ensures.recovers c.requires.pending
      (c.is_none.ensures ∙ ap not c.if-is_none.false) c.requires.same c.recover_files.ensures.torrent c.recover_files.ensures.log;
  lawful = lawful_first c.requires.first c.recover_files.ensures.torrent;
  torrent = c.recover_files.ensures.torrent;
  tied = c.recover_files.ensures.tied;
}
