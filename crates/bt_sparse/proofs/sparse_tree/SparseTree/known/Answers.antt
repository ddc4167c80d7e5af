use Rattle.std.proofs.Common.{◌≡◌, Some, None, sym, ap, ◌∙◌, subst, arith}
use Rattle.bt_tree.specs.Tree.{padding_digest}
use Rattle.bt_sparse.specs.NodeMap.{nodes_in}
use Rattle.bt_sparse.specs.SparseTree.{held_at, value_at}
use Rattle.bt_sparse.proofs.Values.{value_high, value_wide, value_covers, value_padding}
use Rattle.bt_sparse.proofs.sparse_tree.SparseTree.known.Goals as goal

pub returns-then-layer-height : goal.returns-then-layer-height
returns-then-layer-height g c =
    subst (λ k. None ≡ value_at g.H.NodeHash.digest k c.args.layer c.args.index) c.self.view_is
    (sym (value_high g.H.NodeHash.digest record { file_length = c.self.inside.geometry; root = c.self.inside.root; nodes = nodes_in c.self.inside.nodes } c.args.layer c.args.index
    (omega (arith, c.height.ensures.value, c.if-layer-height.true))))

pub returns-then-index-width : goal.returns-then-index-width
returns-then-index-width g c =
    subst (λ k. None ≡ value_at g.H.NodeHash.digest k c.args.layer c.args.index) c.self.view_is
    (sym (value_wide g.H.NodeHash.digest record { file_length = c.self.inside.geometry; root = c.self.inside.root; nodes = nodes_in c.self.inside.nodes } c.args.layer c.args.index
    (omega (arith, c.width.ensures, c.if-index-width.true))))

pub returns-then-index-real : goal.returns-then-index-real
returns-then-index-real g c =
    c.held.ensures ∙ subst (λ k. held_at k c.args.layer c.args.index ≡ value_at g.H.NodeHash.digest k c.args.layer c.args.index) c.self.view_is
    (sym (value_covers g.H.NodeHash.digest record { file_length = c.self.inside.geometry; root = c.self.inside.root; nodes = nodes_in c.self.inside.nodes } c.args.layer c.args.index
    record {
      inside = record { in_height = omega (arith, c.height.ensures.value); in_width = omega (arith, c.width.ensures, c.if-index-width.false) };
      real = omega (arith, c.real.ensures.value, c.if-index-real.true);
    }))

pub returns-else-index-real : goal.returns-else-index-real
returns-else-index-real g c =
    ap (λ d. Some d) c.pad.ensures ∙ subst (λ k. Some (padding_digest g.H.NodeHash.digest c.args.layer) ≡ value_at g.H.NodeHash.digest k c.args.layer c.args.index) c.self.view_is
    (sym (value_padding g.H.NodeHash.digest record { file_length = c.self.inside.geometry; root = c.self.inside.root; nodes = nodes_in c.self.inside.nodes } c.args.layer c.args.index
    record {
      inside = record { in_height = omega (arith, c.height.ensures.value); in_width = omega (arith, c.width.ensures, c.if-index-width.false) };
      past = omega (arith, c.real.ensures.value, c.if-index-real.false);
    }))
