use Rattle.std.proofs.Common.{◌≡◌, ◌+◌, ◌-◌, ◌<◌, length, take, drop, sym, ap, ◌∙◌, subst, arith}
use Rattle.std.proofs.lemmas.List.{take_rest}
use Rattle.bt_store.specs.SmallGroupsSteps.{AdoptsFound, StopsBatch}
use Rattle.bt_store.proofs.SmallGroups.{way_begun, way_nearest, way_more, way_stops}
use Rattle.bt_store.proofs.file_store.FileStore.adopt_found.Goals as goal

pub loop-total-init : goal.loop-total-init
loop-total-init g c = way_begun _ _ _ _ _ _ _ c.requires.batch

pub group_below-group-requires-clause-nearest : goal.group_below-group-requires-clause-nearest
group_below-group-requires-clause-nearest g c = way_nearest _ _ _ _ _ _ _ _ _ _ c.loop-total.invariant (omega (arith, c.loop-total-test.true))

pub loop-total-preserved : goal.loop-total-preserved
loop-total-preserved g c =
    let left : c.loop-total.total.next < c.args.from + c.args.batch.count = omega (arith, c.loop-total-test.true) in
    let found = c.args.blocks_found.now in
    let done = c.loop-total.total.next - c.args.from in
    let told : length found ≡ 8 = omega (arith, c.told-blocks_found) in
    let rest : take (8 - done) (drop done found) ≡ drop done found = ap (λ n. take (n - done) (drop done found)) (sym told) ∙ take_rest found done in
    let adopts : AdoptsFound g.H.NodeHash.digest c.loop-total.self.file_length c.loop-total.tree c.args.batch.anchor c.group_below-group.result.first
    c.group_below-group.result.count c.loop-total.self.states (drop done found) c.in-Ok.adopted c.adopt_read.new.tree c.adopt_read.new.self.states =
    subst (λ l. AdoptsFound g.H.NodeHash.digest c.loop-total.self.file_length c.loop-total.tree c.args.batch.anchor c.group_below-group.result.first
    c.group_below-group.result.count c.loop-total.self.states l c.in-Ok.adopted c.adopt_read.new.tree c.adopt_read.new.self.states) rest c.in-Ok.ensures.ok in
    rw c.with-total.ensures (way_more _ _ _ _ _ _ _ _ _ _ c.loop-total.invariant left _ _ c.group_below-group.ensures.group c.requires.read _ _ _
    adopts c.in-Ok.ensures.next c.in-Ok.ensures.marked c.in-Ok.ensures.faults c.adopt_read.ensures.others)

pub returns-in_default-clause-stop : goal.returns-in_default-clause-stop
returns-in_default-clause-stop g c =
    let dig = g.H.NodeHash.digest in
    let old = c.args.self.now in
    let left : c.loop-total.total.next < c.args.from + c.args.batch.count = omega (arith, c.loop-total-test.true) in
    let stops : StopsBatch dig old.file_length c.args.tree.now c.args.from c.args.batch.count old.states c.args.blocks_found.now c.loop-total.tree c.loop-total.self.states =
    way_stops _ _ _ _ _ _ _ _ _ _ c.loop-total.invariant left _ _ c.group_below-group.ensures.group in
    subst (λ t. StopsBatch dig old.file_length c.args.tree.now c.args.from c.args.batch.count old.states c.args.blocks_found.now t c.adopt_read.new.self.states) (sym c.in_default.ensures.tree)
    (subst (λ s. StopsBatch dig old.file_length c.args.tree.now c.args.from c.args.batch.count old.states c.args.blocks_found.now c.loop-total.tree s.states) (sym c.in_default.ensures.states) stops)
