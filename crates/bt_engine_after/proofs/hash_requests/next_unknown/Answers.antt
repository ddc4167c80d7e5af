use Rattle.std.proofs.Common.{◌∙◌, ap, ◌≡◌}
use Rattle.std.specs.Option.{unwrap_or}
use Rattle.bt_tree.specs.Blocks.{block_count}
use Rattle.bt_sparse.specs.SparseTree.{blocks_of}
use Rattle.bt_engine_state.specs.Parts.{state_of}
use Rattle.bt_engine_after.proofs.HashNeeds.{unknown_by}
use Rattle.bt_engine_after.proofs.hash_requests.next_unknown.Goals as goal

pub returns-clause-unknown : goal.returns-clause-unknown
returns-clause-unknown g c =
    let blocks : c.blocks-blocks.result ≡ blocks_of c.tree_at-tree.result.now = c.blocks-blocks.ensures.value ∙ ap block_count c.geometry.ensures.value in
    unknown_by g.H.NodeHash.digest (state_of c.args.parts.now) c.requires.sound.shaped c.args.block c.requires.has c.tree_at-tree.ensures c.next_unknown.result c.unwrap_or.result
    (c.unwrap_or.ensures ∙ ap (unwrap_or c.next_unknown.result) blocks) c.next_unknown.ensures.some c.next_unknown.ensures.none
