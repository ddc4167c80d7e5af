use Rattle.bt_meta.proofs.Base.{refl, map-append, given_of, take_all}
use Rattle.std.proofs.lemmas.List.{map_more}
use Rattle.bt_meta.proofs.writer.references.Goals as goal

pub loop-file-preserved : goal.loop-file-preserved
loop-file-preserved c =
    let more = map_more given_of c.args.files.now c.loop-file.file-index c.file-item.result c.loop-file-test.true in
    rw (more, ← c.file-item.is, c.in_ok-push.ensures.items, map-append, c.loop-file.invariant) refl

pub returns : goal.returns
returns c = rw (take_all _ _ c.loop-file-test.false) at c.loop-file.invariant
