use Rattle.std.proofs.Common.{arith}
use Rattle.bt_engine_messages.proofs.Slots.{has_store, below_trees, geometry, span_marked, sends_from_slot, stops_in_slot}
use Rattle.bt_engine_messages.proofs.request.read_slot.Goals as goal

pub unreachable-requires : goal.unreachable-requires
unreachable-requires g c = has_store c.requires.marked.has_store c.index-slots-span.result c.in_default.is

pub offset_bounds-trees-slot : goal.offset_bounds-trees-slot
offset_bounds-trees-slot g c = omega (arith, below_trees c.requires.marked.has_store c.index-slots-span.result)

pub bounds-trees-slot : goal.bounds-trees-slot
bounds-trees-slot g c = below_trees c.requires.marked.has_store c.index-slots-span.result

pub read_span-requires-clause-geometry : goal.read_span-requires-clause-geometry
read_span-requires-clause-geometry g c =
    geometry c.requires.marked.has_store c.index-slots-span.result c.in-Some.store c.in-Some.is c.index-trees-slot.result c.index-trees-slot.is

pub read_span-requires-clause-marked : goal.read_span-requires-clause-marked
read_span-requires-clause-marked g c = span_marked c.requires.marked c.index-slots-span.result c.in-Some.store c.in-Some.is

pub returns-clause-right : goal.returns-clause-right
returns-clause-right g c =
    sends_from_slot c.requires.marked c.index-slots-span.result c.in-Some.store c.in-Some.is c.index-trees-slot.result c.index-trees-slot.is
    g.D.Disk.conduct g.H.NodeHash.digest c.read_span.new.store c.read_span.ensures.same_file c.read_span.result c.read_span.ensures.right

pub returns-clause-wrong : goal.returns-clause-wrong
returns-clause-wrong g c =
    stops_in_slot c.requires.marked c.index-slots-span.result c.in-Some.store c.in-Some.is c.index-trees-slot.result c.index-trees-slot.is
    g.D.Disk.conduct g.H.NodeHash.digest c.read_span.new.store c.read_span.ensures.same_file c.read_span.result c.read_span.ensures.wrong
