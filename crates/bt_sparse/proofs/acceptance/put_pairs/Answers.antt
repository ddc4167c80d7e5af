use Rattle.std.proofs.Common.{arith}
use Rattle.std.proofs.lemmas.List.{take_all}
use Rattle.bt_sparse.proofs.Differences.{no_pair}
use Rattle.bt_sparse.proofs.Growths.{pair_more}
use Rattle.bt_sparse.proofs.acceptance.put_pairs.Goals as goal

pub loop-pair-preserved : goal.loop-pair-preserved
loop-pair-preserved c =
    let w = c.loop-pair.invariant in
    record {
      limit = omega (arith, w.limit, c.put-count.ensures.put.one, c.put-count-in-loop-pair.ensures.put.one);
      places = λ l t k. omega (arith, w.places l t k, c.put-count.ensures.longer l t k, c.put-count-in-loop-pair.ensures.longer l t k);
      grown = λ dig k all agrees.
          pair_more c.args.pairs.now c.loop-pair.pair-index no_pair c.loop-pair-test.true all agrees (w.grown dig k all agrees)
          c.put-count.ensures.put c.put-count-in-loop-pair.ensures.put;
    }

pub returns : goal.returns
returns c = λ dig k all agrees. rw (take_all c.loop-pair.pair-index c.args.pairs.now c.loop-pair-test.false) at (c.loop-pair.invariant.grown dig k all agrees)
