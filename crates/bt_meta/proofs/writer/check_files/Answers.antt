use Rattle.bt_meta.proofs.Base.{◌∙◌, refl, drop_more, given_of, HasRoot, All-push}
use Rattle.std.proofs.lemmas.List.{map_more}
use Rattle.bt_meta.proofs.writer.check_files.Goals as goal

pub loop-file-preserved : goal.loop-file-preserved
loop-file-preserved c =
    let old = c.loop-file.invariant in
    let e = c.in_ok-take.ensures in
    let more = map_more given_of c.args.files.now c.loop-file.file-index c.file-item.result c.loop-file-test.true in
    let rest = drop_more c.args.files.now c.loop-file.file-index c.file-item.result c.loop-file-test.true in
    record {
      within = e.within;
      taken = rw (more, ← c.file-item.is) (e.taken _ old.taken);
      faultless = old.faultless ∙ rw (more, rest, ← c.file-item.is, e.faultless _ old.taken) refl;
      rooted = rw (more, ← c.file-item.is) (All-push HasRoot _ _ old.rooted e.rooted);
    }
