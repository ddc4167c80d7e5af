use Rattle.std.proofs.Common.{ap, ◌∙◌}
use Rattle.std.specs.Prelude.{slice_set}
use Rattle.bt_store.specs.declared.block_states.BlockState.TheVariants.{Marked}
use Rattle.bt_store.proofs.SingleBlocks.{restores_right, restores_wrong, restores_none, is_restored}
use Rattle.bt_store.proofs.file_store.FileStore.find.Goals as goal

pub returns-in-Right : goal.returns-in-Right
returns-in-Right g c =
    let d = g.D.Disk in
    let e = c.in-Right.ensures.read in
    is_restored d.conduct g.H.NodeHash.digest c.args.tree.now c.args.block c.self.view_is c.requires.geometry e.1 (c.set.ensures ∙ ap (λ s. slice_set s.states c.args.block Marked) c.self.view_is)
    (restores_right g.H.NodeHash.digest c.args.tree.now c.args.block _ c.requires.lost e.2)

pub returns-in-Wrong : goal.returns-in-Wrong
returns-in-Wrong g c =
    let d = g.D.Disk in
    let e = c.in-Wrong.ensures.read in
    is_restored d.conduct g.H.NodeHash.digest c.args.tree.now c.args.block c.self.view_is c.requires.geometry e.1 (ap (λ s. s.states) c.self.view_is)
    (restores_wrong g.H.NodeHash.digest c.args.tree.now c.args.block _ c.requires.lost e.2)

pub returns-in-Fault : goal.returns-in-Fault
returns-in-Fault g c =
    let d = g.D.Disk in
    let e = c.in-Fault.ensures.read in
    is_restored d.conduct g.H.NodeHash.digest c.args.tree.now c.args.block c.self.view_is c.requires.geometry e.1 (ap (λ s. s.states) c.self.view_is)
    (restores_none g.H.NodeHash.digest c.args.tree.now c.args.block _ c.requires.lost e.2)
