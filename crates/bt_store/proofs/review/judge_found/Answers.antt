use Rattle.std.proofs.Common.{◌≡◌, ◌+◌, ◌<◌, [], length, get_or, refl, sym, ap, ◌∙◌, arith}
use Rattle.bt_store.specs.ReviewSteps.{verdict_of, verdict_at, after_verdict, added, tally_sum}
use Rattle.bt_store.specs.declared.batches.BlockFound.TheVariants.{Whole, Failed}
use Rattle.bt_sparse.specs.SparseTree.{value_at}
use Rattle.bt_store.proofs.Found.{get_or_defaults}
use Rattle.bt_store.proofs.Judgements.{length-after_verdict, sum_added, judged_none, judged_next, tally_none, tally_next}
use Rattle.bt_store.proofs.review.judge_found.Goals as goal

pub loop-j-init : goal.loop-j-init
loop-j-init g c =
    let dig = g.H.NodeHash.digest in
    let k = c.args.tree.now in
    record {
      states = judged_none dig k c.args.first c.args.blocks_found.now c.args.forgiving c.args.states.now;
      size = refl;
      tally = c.new-tally.ensures ∙ tally_none dig k c.args.first c.args.blocks_found.now;
      sum = ap tally_sum c.new-tally.ensures;
    }

pub loop-j-preserved : goal.loop-j-preserved
loop-j-preserved g c =
    let dig = g.H.NodeHash.digest in
    let k = c.args.tree.now in
    let j = c.loop-j.j in
    let before = c.loop-j.invariant in
    let few : j < length c.args.blocks_found.now = omega (arith, c.told-blocks_found, c.requires.few) in
    let verdict : c.verdict_of-verdict.result ≡ verdict_at dig k c.args.first c.args.blocks_found.now j =
    c.verdict_of-verdict.ensures ∙ ap (λ leaf. verdict_of leaf (get_or c.args.blocks_found.now j (Whole []))) c.known.ensures
    ∙ ap (verdict_of (value_at dig k 0 (c.args.first + j))) (get_or_defaults c.args.blocks_found.now j (Whole []) Failed few) in
    record {
      states = c.give_state.ensures ∙ ap (λ v. after_verdict c.args.forgiving (c.args.first + j) v c.loop-j.states) verdict
          ∙ ap (after_verdict c.args.forgiving (c.args.first + j) (verdict_at dig k c.args.first c.args.blocks_found.now j)) before.states
          ∙ sym (judged_next dig k c.args.first c.args.blocks_found.now c.args.forgiving j c.args.states.now);
      size = ap length c.give_state.ensures ∙ length-after_verdict c.args.forgiving (c.args.first + j) c.verdict_of-verdict.result c.loop-j.states ∙ before.size;
      tally = c.with-tally.ensures ∙ ap (λ v. added v c.loop-j.tally) verdict ∙ ap (added (verdict_at dig k c.args.first c.args.blocks_found.now j)) before.tally
          ∙ sym (tally_next dig k c.args.first c.args.blocks_found.now j);
      sum = ap tally_sum c.with-tally.ensures ∙ sum_added c.verdict_of-verdict.result c.loop-j.tally ∙ ap (λ n. n + 1) before.sum;
    }
