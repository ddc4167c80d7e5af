use Rattle.bt_book.proofs.Pairs.{kept_full}
use Rattle.bt_book.proofs.book.Book.wanting_all.Goals as goal

pub invariant_of-result : goal.invariant_of-result
invariant_of-result c = (
  kept_full c.args.blocks.now c.in_ok-full.ensures c.in_ok-full-2.ensures c.in_ok-peers.ensures.items c.sum_of.ensures,
  search c.in_ok-peers.ensures.capacity,
)
