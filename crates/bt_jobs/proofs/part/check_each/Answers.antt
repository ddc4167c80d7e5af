use Rattle.std.proofs.Common.{map, sym, ◌∙◌, subst}
use Rattle.std.specs.List.{All}
use Rattle.std.specs.Vec.Iter.{into_iter_items}
use Rattle.std.proofs.lemmas.List.{nil_from_length}
use Rattle.bt_jobs.specs.Trees.{IsReadyPart, part_at}
use Rattle.bt_jobs.proofs.PartReports.{IsPartTelling, all_told, first_next, first_ready, telling_begun, telling_more}
use Rattle.bt_jobs.proofs.part.check_each.Goals as goal

pub loop-data-init : goal.loop-data-init
loop-data-init g c =
    let d = g.D.Disk in
    let t = c.requires.trees in
    let old = g.W.Write.contents c.args.writer.now in
    let files = c.args.files.items in (
      t.0,
      subst (λ left. IsPartTelling d.conduct c.args.size.layer t.0 files left c.args.trees.now old old)
          (sym c.into_iter-data-iterator.ensures.into_iter_gives.0)
          (telling_begun d.conduct c.args.size.layer t.0 files c.args.trees.now old c.requires.ready t.1 t.2),
    )

pub check_next-requires-clause-ready : goal.check_next-requires-clause-ready
check_next-requires-clause-ready g c =
    let d = g.D.Disk in
    let (layer_at, t) = c.loop-data.invariant in
    first_ready d.conduct c.args.size.layer layer_at c.in-Some.«data» _
    (subst (λ left. All (IsReadyPart c.args.size.layer) (map part_at left)) c.in-Some.ensures.steps.0 t.ready)

pub check_next-requires-clause-trees : goal.check_next-requires-clause-trees
check_next-requires-clause-trees g c =
    let d = g.D.Disk in
    let (layer_at, t) = c.loop-data.invariant in
    first_next d.conduct c.args.size.layer layer_at c.args.files.items _ _ c.in-Some.«data» _ _ _ t c.in-Some.ensures.steps.0

pub loop-data-preserved : goal.loop-data-preserved
loop-data-preserved g c =
    let d = g.D.Disk in
    let (layer_at, t) = c.loop-data.invariant in (
      layer_at,
      telling_more d.conduct c.args.size.layer layer_at c.args.files.items _ _ c.in-Some.«data» _ _ _ _ _ t c.in-Some.ensures.steps.0
          c.in_ok-check_next.ensures.told,
    )

pub returns-clause-told : goal.returns-clause-told
returns-clause-told g c =
    let d = g.D.Disk in
    let (layer_at, t) = c.loop-data.invariant in
    let none_left = nil_from_length (into_iter_items c.loop-data.data-iterator) (sym c.loop-data.data-iterator.rest.ok.0 ∙ c.in-None.ensures.steps.0) in
    all_told d.conduct c.args.size.layer layer_at c.args.files.items _ _ _
    (subst (λ left. IsPartTelling d.conduct c.args.size.layer layer_at c.args.files.items left c.loop-data.trees
    (g.W.Write.contents c.args.writer.now) (g.W.Write.contents c.loop-data.writer)) none_left t)
