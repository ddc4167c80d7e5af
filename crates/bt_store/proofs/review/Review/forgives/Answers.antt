use Rattle.std.proofs.Common.{rules}
use Rattle.bt_store.proofs.review.Review.forgives.Goals as goal

pub returns-in-Marked : goal.returns-in-Marked
returns-in-Marked c = search rules
