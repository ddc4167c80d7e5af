use Rattle.std.proofs.Common.{arith}
use Rattle.bt_engine_messages.proofs.Slots.{has_store, below_trees, geometry, puts_in_slot}
use Rattle.bt_engine_messages.proofs.piece.put_in_slot.Goals as goal

pub unreachable-requires : goal.unreachable-requires
unreachable-requires g c = has_store c.requires.can.has_store c.index-slots-block.result c.in_default.is

pub offset_bounds-trees-slot : goal.offset_bounds-trees-slot
offset_bounds-trees-slot g c = omega (arith, below_trees c.requires.can.has_store c.index-slots-block.result)

pub bounds-trees-slot : goal.bounds-trees-slot
bounds-trees-slot g c = below_trees c.requires.can.has_store c.index-slots-block.result

pub put-requires : goal.put-requires
put-requires g c =
    geometry c.requires.can.has_store c.index-slots-block.result c.in-Some.store c.in-Some.is c.index-trees-slot.result c.index-trees-slot.is

pub returns : goal.returns
returns g c =
    puts_in_slot c.requires.can c.index-slots-block.result c.in-Some.store c.in-Some.is c.index-trees-slot.result c.index-trees-slot.is
    g.D.Disk.conduct g.H.NodeHash.digest c.put.new.self c.put.result
    c.put.ensures.why c.put.ensures.states c.put.ensures.calls c.put.ensures.same_file
