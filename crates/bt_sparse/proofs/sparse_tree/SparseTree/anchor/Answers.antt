use Rattle.std.proofs.Common.{◌≡◌, ℕ, ◌/◌, ◌^◌, ◌<◌, None, is_some, sym, ◌∙◌, ap, subst, arith}
use Rattle.bt_tree.specs.Blocks.{block_count}
use Rattle.bt_tree.specs.TreeShape.{height_of}
use Rattle.bt_sparse.specs.SparseTree.{height, held_at, IsSound}
use Rattle.bt_sparse.specs.Anchor.{IsAnchor}
use Rattle.bt_sparse.proofs.Anchors.{anchor_at_root}
use Rattle.bt_sparse.proofs.sparse_tree.SparseTree.anchor.Goals as goal

pub returns-then-is_some-clause-nearest : goal.returns-then-is_some-clause-nearest
returns-then-is_some-clause-nearest g c =
    let k = c.args.self.now in
    let top : c.height-height.result ≡ height k = c.height-height.ensures.value ∙ ap (λ t. height_of (block_count t.file_length)) c.self.view_is in
    record {
      inside = omega (arith, c.loop-layer-test.true, top);
      held = ap is_some (sym c.held.ensures) ∙ sym c.is_some.ensures ∙ c.if-is_some.true;
      nearest = c.loop-layer.invariant;
    }

pub returns-clause-nearest : goal.returns-clause-nearest
returns-clause-nearest g c =
    let dig = g.H.NodeHash.digest in
    let k = c.args.self.now in
    let top : c.height-height.result ≡ height k = c.height-height.ensures.value ∙ ap (λ t. height_of (block_count t.file_length)) c.self.view_is in
    let sound : IsSound dig k = subst (λ t. IsSound dig t) c.self.view_is c.self.invariant in
    let below : (l : ℕ) → l < height k → held_at k l (c.args.leaf / 2 ^ l) ≡ None
    = λ l h. c.loop-layer.invariant l (omega (arith, h, top, c.loop-layer-test.false)) in
    subst (λ (layer : ℕ). IsAnchor k c.args.leaf layer) (sym top) (anchor_at_root dig k c.args.leaf c.requires sound.rooted below)
