use Rattle.std.proofs.Common.{◌<◌, sym, subst}
use Rattle.bt_tree.specs.Blocks.{block_count}
use Rattle.bt_store.specs.SmallGroups.{StopsInTurn}
use Rattle.bt_store.proofs.SmallGroups.{alone_adopted, alone_stopped}
use Rattle.bt_store.proofs.file_store.FileStore.adopt_alone.Goals as goal

pub returns-clause-ok : goal.returns-clause-ok
returns-clause-ok g c =
    let d = g.D.Disk in
    let found = c.in-Ok.ensures.ok in (
      found.0,
      alone_adopted d.conduct g.H.NodeHash.digest c.args.tree.now c.adopt.new.tree c.args.from c.args.self.now c.adopt.new.self found.0 c.in-Ok.group
          (subst (λ n. c.args.from < block_count n) (sym c.requires.geometry) c.requires.inside) found.1,
    )

pub returns-in_default-clause-stop : goal.returns-in_default-clause-stop
returns-in_default-clause-stop g c =
    let d = g.D.Disk in
    let stops = c.in_default.ensures.stop in (
      stops.0,
      subst (λ k. StopsInTurn d.conduct g.H.NodeHash.digest c.args.tree.now c.args.from c.args.self.now stops.0 k c.adopt.new.self) (sym c.in_default.ensures.tree)
          (alone_stopped d.conduct g.H.NodeHash.digest c.args.tree.now c.adopt.new.tree c.args.from c.args.self.now c.adopt.new.self stops.0 stops.1),
    )
