use Rattle.std.proofs.Common.{◌<◌, sym, subst}
use Rattle.sha2.specs.Sha256.{sha256}
use Rattle.bt_tree.specs.Blocks.{block_count}
use Rattle.bt_store.proofs.SmallGroups.{alone_adopted}
use Rattle.bt_jobs.proofs.share.adopt_ahead.Goals as goal

pub returns-clause-ok : goal.returns-clause-ok
returns-clause-ok g c =
    let d = g.D.Disk in
    let found = c.in-Ok.ensures.ok in (
      found.0,
      alone_adopted d.conduct sha256 c.args.tree.now c.adopt.new.tree c.args.from c.args.store.now c.adopt.new.self found.0 c.in-Ok.group
          (subst (λ n. c.args.from < block_count n) (sym c.requires.geometry) c.requires.inside) found.1,
    )
