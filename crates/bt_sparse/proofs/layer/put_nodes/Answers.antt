use Rattle.std.proofs.Common.{◌≡◌, ◌+◌, ℕ, [], length, get_or, subst, arith}
use Rattle.bt_sparse.specs.NodeMap.{nodes_in}
use Rattle.bt_sparse.specs.LayerSteps.{IsFilled}
use Rattle.bt_sparse.proofs.LayerNodes.{filled_more}
use Rattle.bt_sparse.proofs.layer.put_nodes.Goals as goal

pub loop-i-init : goal.loop-i-init
loop-i-init c = λ dig n base row size same h.
    let none : c.args.first ≡ c.args.first + 0 = omega arith in
    subst (λ (w : ℕ). IsFilled dig n row base c.args.layer w (nodes_in c.args.nodes.now)) none h

pub loop-i-preserved : goal.loop-i-preserved
loop-i-preserved c = λ dig n base row size same h.
    let next : c.args.first + c.loop-i.i + 1 ≡ c.args.first + (c.loop-i.i + 1) = omega arith in
    subst (λ (w : ℕ). IsFilled dig n row base c.args.layer w (nodes_in c.insert.new.self)) next
    (filled_more dig n base c.args.layer (c.args.first + c.loop-i.i) row (nodes_in c.loop-i.nodes) (nodes_in c.insert.new.self) (get_or c.args.digests.now c.loop-i.i [])
    (c.loop-i.invariant dig n base row size same h) (omega (arith, size, c.requires, c.loop-i-test.true)) (same c.loop-i.i c.loop-i-test.true)
    (c.told-digests c.loop-i.i c.loop-i-test.true) c.in_ok-insert.ensures)

pub returns : goal.returns
returns c = λ dig n base row size same h.
    let all : c.loop-i.i ≡ length c.args.digests.now = omega arith in
    subst (λ (w : ℕ). IsFilled dig n row base c.args.layer (c.args.first + w) (nodes_in c.loop-i.nodes)) all (c.loop-i.invariant dig n base row size same h)
