use Rattle.std.proofs.Common.{◌≡◌, sym, ap, ◌∙◌, subst, arith}
use Rattle.std.proofs.lemmas.Bool.{false≢true}
use Rattle.bt_tree.specs.Blocks.{block_count}
use Rattle.bt_sparse.specs.SparseTree.{blocks_of, height, held_at}
use Rattle.bt_sparse.specs.Claim.{HasShape, top_layer, top_node}
use Rattle.bt_sparse.specs.Acceptance.{HasPadding, shape, padding}
use Rattle.bt_sparse.specs.ExpansionSteps.{IsShort}
use Rattle.bt_sparse.specs.PaddingSteps.{HasPaddedRun, HasPaddedUncles}
use Rattle.bt_sparse.proofs.Expansions.{short_run}
use Rattle.bt_sparse.proofs.Paddings.{has_padding, run_padded, uncles_padded, top_held, top_unheld}
use Rattle.bt_sparse.proofs.sparse_tree.SparseTree.top.Goals as goal
use Rattle.bt_sparse.proofs.sparse_tree.SparseTree.top.Goals.{then-not-is_run_padded-via-then-not-is_run_padded, then-not-is_run_padded-via-else-not-is_run_padded+then-not-are_uncles_padded}

pub returns-then-not-has_shape-clause-refused : goal.returns-then-not-has_shape-clause-refused
returns-then-not-has_shape-clause-refused g c =
    let level : c.height.result ≡ height c.args.self.now = c.height.ensures.value ∙ ap height c.self.view_is in
    shape (λ h. false≢true (sym c.if-not-has_shape.true ∙ c.has_shape.ensures.1 (subst (λ n. HasShape n c.args.claim.now) (sym level) h)))

pub returns-then-not-is_run_padded-clause-refused : goal.returns-then-not-is_run_padded-clause-refused
returns-then-not-is_run_padded-clause-refused g c =
    let level : c.height.result ≡ height c.args.self.now = c.height.ensures.value ∙ ap height c.self.view_is in
    let shaped : HasShape (height c.args.self.now) c.args.claim.now = subst (λ h. HasShape h c.args.claim.now) level (c.has_shape.ensures.0 c.if-not-has_shape.false) in
    let short : IsShort c.args.claim.now = short_run (height c.args.self.now) c.args.claim.now shaped (omega (arith, c.height.ensures.limit, level)) in
    let blocks : block_count c.self.inside.geometry ≡ blocks_of c.args.self.now = ap blocks_of c.self.view_is in
    padding shaped (λ h. elim c.then-not-is_run_padded.branch [
      | then-not-is_run_padded-via-then-not-is_run_padded w ↦
          false≢true (sym w.if-not-is_run_padded.true ∙ c.is_run_padded.ensures.1 (subst (λ n. HasPaddedRun g.H.NodeHash.digest n c.args.claim.now) (sym blocks)
          (run_padded g.H.NodeHash.digest c.args.self.now c.args.claim.now shaped short h)))
      | then-not-is_run_padded-via-else-not-is_run_padded+then-not-are_uncles_padded w ↦
          false≢true (sym w.if-not-are_uncles_padded.true ∙ w.are_uncles_padded.ensures.1 (subst (λ n. HasPaddedUncles g.H.NodeHash.digest n c.args.claim.now) (sym blocks)
          (uncles_padded g.H.NodeHash.digest c.args.self.now c.args.claim.now shaped h)))
    ])

pub top_of-layer-requires-clause-short : goal.top_of-layer-requires-clause-short
top_of-layer-requires-clause-short g c =
    short_run c.height.result c.args.claim.now (c.has_shape.ensures.0 c.if-not-has_shape.false) c.height.ensures.limit

pub returns-clause-ok : goal.returns-clause-ok
returns-clause-ok g c =
    let level : c.height.result ≡ height c.args.self.now = c.height.ensures.value ∙ ap height c.self.view_is in
    let shaped : HasShape (height c.args.self.now) c.args.claim.now = subst (λ h. HasShape h c.args.claim.now) level (c.has_shape.ensures.0 c.if-not-has_shape.false) in
    let short : IsShort c.args.claim.now = short_run (height c.args.self.now) c.args.claim.now shaped (omega (arith, c.height.ensures.limit, level)) in
    let blocks : block_count c.self.inside.geometry ≡ blocks_of c.args.self.now = ap blocks_of c.self.view_is in
    let padded : HasPadding g.H.NodeHash.digest c.args.self.now c.args.claim.now = has_padding g.H.NodeHash.digest c.args.self.now c.args.claim.now short
    (subst (λ n. HasPaddedRun g.H.NodeHash.digest n c.args.claim.now) blocks (c.is_run_padded.ensures.0 c.if-not-is_run_padded.false))
    (subst (λ n. HasPaddedUncles g.H.NodeHash.digest n c.args.claim.now) blocks (c.are_uncles_padded.ensures.0 c.if-not-are_uncles_padded.false)) in
    let held : held_at c.args.self.now (top_layer c.args.claim.now) (top_node c.args.claim.now) ≡ c.held.result =
    ap (λ l. held_at c.args.self.now l (top_node c.args.claim.now)) (sym c.top_of-layer.ensures.layer)
    ∙ ap (held_at c.args.self.now c.top_of-layer.result.0) (sym c.top_of-layer.ensures.index) ∙ sym c.held.ensures in
    rw c.ok_or.ensures.value (top_held g.H.NodeHash.digest c.args.self.now c.args.claim.now c.held.result shaped padded held)

pub returns-clause-refused : goal.returns-clause-refused
returns-clause-refused g c =
    let level : c.height.result ≡ height c.args.self.now = c.height.ensures.value ∙ ap height c.self.view_is in
    let shaped : HasShape (height c.args.self.now) c.args.claim.now = subst (λ h. HasShape h c.args.claim.now) level (c.has_shape.ensures.0 c.if-not-has_shape.false) in
    let short : IsShort c.args.claim.now = short_run (height c.args.self.now) c.args.claim.now shaped (omega (arith, c.height.ensures.limit, level)) in
    let blocks : block_count c.self.inside.geometry ≡ blocks_of c.args.self.now = ap blocks_of c.self.view_is in
    let padded : HasPadding g.H.NodeHash.digest c.args.self.now c.args.claim.now = has_padding g.H.NodeHash.digest c.args.self.now c.args.claim.now short
    (subst (λ n. HasPaddedRun g.H.NodeHash.digest n c.args.claim.now) blocks (c.is_run_padded.ensures.0 c.if-not-is_run_padded.false))
    (subst (λ n. HasPaddedUncles g.H.NodeHash.digest n c.args.claim.now) blocks (c.are_uncles_padded.ensures.0 c.if-not-are_uncles_padded.false)) in
    let held : held_at c.args.self.now (top_layer c.args.claim.now) (top_node c.args.claim.now) ≡ c.held.result =
    ap (λ l. held_at c.args.self.now l (top_node c.args.claim.now)) (sym c.top_of-layer.ensures.layer)
    ∙ ap (held_at c.args.self.now c.top_of-layer.result.0) (sym c.top_of-layer.ensures.index) ∙ sym c.held.ensures in
    rw c.ok_or.ensures.value (top_unheld g.H.NodeHash.digest c.args.self.now c.args.claim.now c.held.result shaped padded held)
