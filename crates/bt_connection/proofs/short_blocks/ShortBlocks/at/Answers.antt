use Rattle.std.proofs.Common.{ltb, Some, ◌∙◌, ap, rules, arith}
use Rattle.std.proofs.lemmas.List.Sorted.{IsPartitionPoint-from_clause}
use Rattle.bt_wire.specs.declared.message.Ask.{Ask}
use Rattle.bt_connection.proofs.LastBlocks.{parted, is_found}
use Rattle.bt_connection.proofs.short_blocks.ShortBlocks.at.Goals as goal

pub returns-in-Some-clause-only : goal.returns-in-Some-clause-only
returns-in-Some-clause-only c ask there piece begin =
    let point = IsPartitionPoint-from_clause (λ (a : Ask). ltb a.piece c.args.piece) c.self.inside.blocks.items c.partition_point-index.result
    (rw c.deref.ensures.value at c.partition_point-index.ensures.partitioned)
    (parted c.self.inside.blocks.items c.args.piece c.self.invariant) (λ a r q k. search rules) in
    let is = is_found c.args.self.now c.self.inside.blocks.items c.deref-2.result.now ask c.args.piece c.partition_point-index.result
    c.self.view_is c.deref-2.ensures.value c.self.invariant there piece point in
    ap Some (c.in-Some.ensures.lookup.3.1 ask ∙ is.1)

pub returns-in_default-clause-only : goal.returns-in_default-clause-only
returns-in_default-clause-only c ask there piece begin =
    let point = IsPartitionPoint-from_clause (λ (a : Ask). ltb a.piece c.args.piece) c.self.inside.blocks.items c.partition_point-index.result
    (rw c.deref.ensures.value at c.partition_point-index.ensures.partitioned)
    (parted c.self.inside.blocks.items c.args.piece c.self.invariant) (λ a r q k. search rules) in
    let is = is_found c.args.self.now c.self.inside.blocks.items c.deref-2.result.now ask c.args.piece c.partition_point-index.result
    c.self.view_is c.deref-2.ensures.value c.self.invariant there piece point in
    absurd (c.if-ask-begin.false (ap (λ (a : Ask). a.begin) (c.in-Some.ensures.lookup.3.1 ask ∙ is.1) ∙ begin))

pub returns-in_default-2-clause-only : goal.returns-in_default-2-clause-only
returns-in_default-2-clause-only c ask there piece begin =
    let point = IsPartitionPoint-from_clause (λ (a : Ask). ltb a.piece c.args.piece) c.self.inside.blocks.items c.partition_point-index.result
    (rw c.deref.ensures.value at c.partition_point-index.ensures.partitioned)
    (parted c.self.inside.blocks.items c.args.piece c.self.invariant) (λ a r q k. search rules) in
    let is = is_found c.args.self.now c.self.inside.blocks.items c.deref-2.result.now ask c.args.piece c.partition_point-index.result
    c.self.view_is c.deref-2.ensures.value c.self.invariant there piece point in
    absurd (c.if-ask-piece.false (ap (λ (a : Ask). a.piece) (c.in-Some.ensures.lookup.3.1 ask ∙ is.1) ∙ piece))

pub returns-in_default-3-clause-only : goal.returns-in_default-3-clause-only
returns-in_default-3-clause-only c ask there piece begin =
    let point = IsPartitionPoint-from_clause (λ (a : Ask). ltb a.piece c.args.piece) c.self.inside.blocks.items c.partition_point-index.result
    (rw c.deref.ensures.value at c.partition_point-index.ensures.partitioned)
    (parted c.self.inside.blocks.items c.args.piece c.self.invariant) (λ a r q k. search rules) in
    let is = is_found c.args.self.now c.self.inside.blocks.items c.deref-2.result.now ask c.args.piece c.partition_point-index.result
    c.self.view_is c.deref-2.ensures.value c.self.invariant there piece point in
    let behind = rw c.in_default.is at c.get.ensures.lookup in
    absurd (omega (arith, is.0, behind.3))
