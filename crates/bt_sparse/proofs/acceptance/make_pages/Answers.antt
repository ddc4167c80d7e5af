use Rattle.std.proofs.Common.{ap, ◌∙◌, arith}
use Rattle.bt_tree.specs.Blocks.{block_count}
use Rattle.bt_sparse.specs.NodeMap.{nodes_in}
use Rattle.bt_sparse.proofs.Differences.{no_pair}
use Rattle.bt_sparse.proofs.Growths.{places_more}
use Rattle.bt_sparse.proofs.acceptance.make_pages.Goals as goal
use Rattle.bt_sparse.proofs.acceptance.make_pages.Goals.{then-pair-width+in_ok-reach, else-pair-width}

pub loop-pair-preserved : goal.loop-pair-preserved
loop-pair-preserved c = elim c.if-pair-width.branch [
  | then-pair-width+in_ok-reach w ↦ record {
    same = ap nodes_in w.nodes-is ∙ w.reach.ensures.nodes ∙ c.loop-pair.invariant.same;
    ready = rw w.nodes-is (places_more (block_count c.args.geometry) c.loop-pair.nodes w.reach.new.self c.args.pairs.now c.loop-pair.pair-index no_pair
        c.loop-pair-test.true w.reach.ensures.longer c.loop-pair.invariant.ready
        (λ real i e lt. w.in_ok-reach.ensures.ready i e (omega (arith, c.real-width.ensures.value, lt))));
  }
  | else-pair-width w ↦ record {
    same = ap nodes_in w.nodes-is ∙ c.loop-pair.invariant.same;
    ready = rw w.nodes-is (places_more (block_count c.args.geometry) c.loop-pair.nodes c.loop-pair.nodes c.args.pairs.now c.loop-pair.pair-index no_pair
        c.loop-pair-test.true (λ l t k. omega arith) c.loop-pair.invariant.ready
        (λ real. absurd (omega (arith, c.real-width.ensures.value, w.if-pair-width.false, real))));
  }
]
