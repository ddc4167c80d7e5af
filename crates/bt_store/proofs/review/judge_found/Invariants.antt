use Rattle.std.proofs.Common.{◌≡◌, length}
use Rattle.bt_store.specs.ReviewSteps.{judged_found, tally_of, tally_sum}
use Rattle.bt_store.proofs.review.judge_found.Given as goal

abbrev pub invariant-loop-j : goal.invariant-loop-j
invariant-loop-j g l = record {
  states : l.states ≡ judged_found g.H.NodeHash.digest l.tree l.forgiving l.first l.blocks_found l.j l.fn.states;
  size : length l.states ≡ length l.fn.states;
  tally : l.tally ≡ tally_of g.H.NodeHash.digest l.tree l.first l.blocks_found l.j;
  sum : tally_sum l.tally ≡ l.j;
}
