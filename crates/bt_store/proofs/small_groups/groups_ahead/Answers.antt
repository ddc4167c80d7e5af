use Rattle.std.proofs.Common.{arith, rules}
use Rattle.bt_store.proofs.SmallGroups.{small_anchor, batch_ahead}
use Rattle.bt_store.proofs.small_groups.groups_ahead.Goals as goal

pub returns-clause-batch : goal.returns-clause-batch
returns-clause-batch g c =
    let below = c.batch_below-count.ensures in
    batch_ahead _ _ _ _ _ (small_anchor _ (omega (arith, c.if-anchor-eq0.false)) (omega (arith, c.if-anchor-gt2.false))) (search rules) (c.if-from-size-ne0.false)
    below.few below.inside below.nearest below.whole
