use Rattle.std.proofs.Common.{ap, ◌∙◌, [], refl, sym}
use Rattle.std.specs.Prelude.{slice_set}
use Rattle.bt_tree.specs.Blocks.{block_length}
use Rattle.bt_disk.proofs.CallLists.{has_none}
use Rattle.bt_store.specs.SingleBlock.{not_marked}
use Rattle.bt_store.specs.declared.block_states.BlockState.TheVariants.{Missing}
use Rattle.bt_store.proofs.SingleBlocks.{lends_right, lends_wrong, lends_none, is_lent}
use Rattle.bt_store.proofs.file_store.FileStore.read.Goals as goal

pub returns-then-not-is_marked-clause-lent : goal.returns-then-not-is_marked-clause-lent
returns-then-not-is_marked-clause-lent g c =
    let d = g.D.Disk in
    ([], record { calls = has_none d.conduct c.args.self.now.disk; answer = not_marked c.if-not-is_marked.ensures.no; same_file = refl })

pub returns-in-Right-clause-lent : goal.returns-in-Right-clause-lent
returns-in-Right-clause-lent g c =
    let d = g.D.Disk in
    let e = c.in-Right.ensures.read in
    is_lent d.conduct g.H.NodeHash.digest c.args.tree.now c.args.block c.self.view_is c.requires.geometry e.1 (ap (λ s. s.states) c.self.view_is)
    (lends_right g.H.NodeHash.digest c.args.tree.now c.args.block _ _ (c.block_len.ensures.value ∙ ap (λ n. block_length n c.args.block) (ap (λ s. s.file_length) c.self.view_is ∙ sym c.requires.geometry)) c.if-not-is_marked.ensures.yes e.2)

pub returns-in-Wrong-clause-lent : goal.returns-in-Wrong-clause-lent
returns-in-Wrong-clause-lent g c =
    let d = g.D.Disk in
    let e = c.in-Wrong.ensures.read in
    is_lent d.conduct g.H.NodeHash.digest c.args.tree.now c.args.block c.self.view_is c.requires.geometry e.1 (c.set.ensures ∙ ap (λ s. slice_set s.states c.args.block Missing) c.self.view_is)
    (lends_wrong g.H.NodeHash.digest c.args.tree.now c.args.block _ c.if-not-is_marked.ensures.yes e.2)

pub returns-in-Fault-clause-lent : goal.returns-in-Fault-clause-lent
returns-in-Fault-clause-lent g c =
    let d = g.D.Disk in
    let e = c.in-Fault.ensures.read in
    is_lent d.conduct g.H.NodeHash.digest c.args.tree.now c.args.block c.self.view_is c.requires.geometry e.1 (ap (λ s. s.states) c.self.view_is)
    (lends_none g.H.NodeHash.digest c.args.tree.now c.args.block _ c.if-not-is_marked.ensures.yes e.2)
