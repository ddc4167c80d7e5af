use Rattle.std.proofs.Common.{◌≡◌, ◌+◌, ◌*◌, ◌/◌, ◌<◌, ◌≤◌, [], ℕ, List, min, length, get_or, ap, ◌∙◌, subst, arith}
use Rattle.std.proofs.lemmas.Grind.{div_ceil_times}
use Rattle.bt_tree.proofs.TreeShape.{real_lt}
use Rattle.bt_sparse.specs.NodeMap.{nodes_in}
use Rattle.bt_sparse.specs.ExpansionSteps.{AreParents}
use Rattle.bt_sparse.specs.LayerSteps.{IsFilled}
use Rattle.bt_sparse.proofs.LayerNodes.{parents_known}
use Rattle.bt_sparse.proofs.layer.add_parents.Goals as goal

pub loop-page-preserved : goal.loop-page-preserved
loop-page-preserved g c = λ n base row low e p h.
    let inside : c.loop-page.page * 512 < c.args.width = real_lt c.args.width 512 c.loop-page.page (omega arith) (omega (arith, c.div_ceil-page-end.ensures, c.loop-page-test.true)) in
    let here : min (c.loop-page.page * 512) c.args.width ≡ c.loop-page.page * 512 = omega arith in
    let start = subst (λ (w : ℕ). IsFilled g.H.NodeHash.digest n row base (c.args.below + 1) w (nodes_in c.loop-page.nodes)) here (c.loop-page.invariant n base row low e p h) in
    let parents = subst (λ (l : List (List ℕ)). AreParents g.H.NodeHash.digest l c.in_ok-digests.digests.items (length l / 2)) c.deref.ensures.value c.in_ok-digests.ensures in
    let put = c.in_ok-put_nodes.ensures g.H.NodeHash.digest n base row e
    (λ i lt. ap (λ ds. get_or ds i []) c.deref-in-loop-page.ensures.value
    ∙ parents_known g.H.NodeHash.digest n base c.args.below (c.loop-page.page * 512) c.min-count.result row (nodes_in c.loop-page.nodes) c.args.padding.now c.in_ok-children.children.items
    c.in_ok-digests.digests.items start low p c.in_ok-children.ensures parents i (omega (arith, lt, ap length c.deref-in-loop-page.ensures.value))) start in
    let all : c.loop-page.page * 512 + length c.deref-in-loop-page.result.now ≡ min ((c.loop-page.page + 1) * 512) c.args.width =
    omega (arith, ap length c.deref-in-loop-page.ensures.value, parents.size, c.in_ok-children.ensures.size, c.min-count.ensures, inside) in
    subst (λ (w : ℕ). IsFilled g.H.NodeHash.digest n row base (c.args.below + 1) w (nodes_in c.put_nodes.new.nodes)) all put

pub returns : goal.returns
returns g c = λ n base row low e p h.
    let past : c.args.width ≤ c.loop-page.page * 512 = omega (arith, (div_ceil_times c.args.width 512 (omega arith)).0, c.div_ceil-page-end.ensures, c.loop-page-test.false) in
    let all : min (c.loop-page.page * 512) c.args.width ≡ c.args.width = omega arith in
    subst (λ (w : ℕ). IsFilled g.H.NodeHash.digest n row base (c.args.below + 1) w (nodes_in c.loop-page.nodes)) all (c.loop-page.invariant n base row low e p h)
