use Rattle.std.proofs.Common.{◌+◌, ◌<◌, length, arith}
use Rattle.std.specs.Prelude.{slice_set}
use Rattle.bt_engine_state.proofs.Chains.{stands_there, none_passed, walk_begins, walk_goes_on}
use Rattle.bt_engine_messages.specs.RunSteps.{FitsLength}
use Rattle.bt_engine_messages.specs.NoteRooms.{slot_room}
use Rattle.bt_engine_messages.proofs.RunSettlings.{settled_idle, settled_none, settled_more, settled_past, settled_all, room_left, stays_at, all_at, room_at}
use Rattle.std.proofs.lemmas.Option.{slice_get-get_or}
use Rattle.bt_engine_messages.proofs.runs.settle_slots.Goals as goal

pub returns-then-not-waits-clause-settles : goal.returns-then-not-waits-clause-settles
returns-then-not-waits-clause-settles g c =
    let d = g.D.Disk in
    settled_idle d.conduct g.H.NodeHash.digest c.args.tree.now c.args.index c.args.from c.args.count c.args.slots.now c.args.notes.now.items
    (c.requires.idle c.if-not-waits.true)

pub loop-file-init : goal.loop-file-init
loop-file-init g c =
    let d = g.D.Disk in
    let slots = c.args.slots.now in
    let is = walk_begins c.requires.lead c.index.result.now c.index.ensures in
    let none = none_passed is in
    let left = room_left slots c.args.index c.args.count 0 c.index.result.now is.inside is.limit none in
    record {
      stands = stands_there is;
      settled = settled_past d.conduct g.H.NodeHash.digest c.args.tree.now c.args.index c.args.from c.args.count slots c.args.notes.now.items
          0 c.index.result.now c.args.notes.now.items slots is.inside is.limit none
          (settled_none d.conduct g.H.NodeHash.digest c.args.tree.now c.args.index c.args.from c.args.count slots c.args.notes.now.items);
      few = omega (arith, left);
      room = omega (arith, left, c.requires.room);
    }

pub settle_slot-requires-clause-fits : goal.settle_slot-requires-clause-fits
settle_slot-requires-clause-fits g c =
    let x = c.index-slots-file.result in
    all_at c.args.slots.now c.loop-file.slots c.loop-file.file x (FitsLength c.args.tree.now c.args.index) c.requires.fits
    (stays_at c.args.slots.now c.loop-file.slots c.loop-file.file x (omega (arith, c.loop-file-test.true, c.loop-file.auto.slots)) (c.loop-file.invariant.settled.rest c.loop-file.file (omega arith)))

pub settle_slot-requires-clause-room : goal.settle_slot-requires-clause-room
settle_slot-requires-clause-room g c =
    let x = c.index-slots-file.result in
    let at = stays_at c.args.slots.now c.loop-file.slots c.loop-file.file x (omega (arith, c.loop-file-test.true, c.loop-file.auto.slots)) (c.loop-file.invariant.settled.rest c.loop-file.file (omega arith)) in
    omega (arith, room_at c.args.slots.now c.loop-file.slots c.loop-file.file x (slot_room c.args.index c.args.count) at, c.loop-file.invariant.room)

pub loop-file-preserved : goal.loop-file-preserved
loop-file-preserved g c =
    let d = g.D.Disk in
    let x = c.index-slots-file.result in
    let slots = c.args.slots.now in
    let now = c.loop-file.slots in
    let file = c.loop-file.file in
    let new = c.settle_slot.new.slot in
    let lt : file < length now = omega (arith, c.loop-file-test.true, c.loop-file.auto.slots) in
    let at = stays_at slots now file x lt (c.loop-file.invariant.settled.rest file (omega arith)) in
    let is = walk_goes_on c.requires.lead c.index-in-loop-file.result.now c.loop-file.invariant.stands (omega (arith, lt, c.loop-file.auto.slots)) c.index-in-loop-file.ensures in
    let none = none_passed is in
    let left = room_left slots c.args.index c.args.count (file + 1) c.index-in-loop-file.result.now is.inside is.limit none in
    let r = c.settle_slot.ensures.settles in
    record {
      stands = stands_there is;
      settled = settled_past d.conduct g.H.NodeHash.digest c.args.tree.now c.args.index c.args.from c.args.count slots c.args.notes.now.items
          (file + 1) c.index-in-loop-file.result.now c.settle_slot.new.notes.items (slice_set now file new) is.inside is.limit none
          (settled_more d.conduct g.H.NodeHash.digest c.args.tree.now c.args.index c.args.from c.args.count slots c.args.notes.now.items
          file c.loop-file.notes.items c.settle_slot.new.notes.items now new r.0 c.loop-file.invariant.settled (slice_get-get_or now file x lt) r.1 r.2);
      few = omega (arith, left, room_at slots now file x (slot_room c.args.index c.args.count) at, c.loop-file.invariant.few, c.settle_slot.ensures.few);
      room = omega (arith, left, room_at slots now file x (slot_room c.args.index c.args.count) at, c.loop-file.invariant.room, c.settle_slot.ensures.few, c.settle_slot.ensures.capacity);
    }

pub loop-file-smaller : goal.loop-file-smaller
loop-file-smaller g c =
    let lt : c.loop-file.file < length c.args.slots.now = omega (arith, c.loop-file-test.true, c.loop-file.auto.slots) in
    let is = walk_goes_on c.requires.lead c.index-in-loop-file.result.now c.loop-file.invariant.stands lt c.index-in-loop-file.ensures in
    omega (arith, is.inside, lt)

pub returns-clause-settles : goal.returns-clause-settles
returns-clause-settles g c =
    let d = g.D.Disk in
    settled_all d.conduct g.H.NodeHash.digest c.args.tree.now c.args.index c.args.from c.args.count c.args.slots.now c.args.notes.now.items
    c.loop-file.file c.loop-file.notes.items c.loop-file.slots (omega (arith, c.loop-file-test.false, c.loop-file.auto.slots, c.loop-file.invariant.stands.limit)) c.loop-file.invariant.settled

pub returns-clause-few : goal.returns-clause-few
returns-clause-few g c = omega (arith, c.loop-file.invariant.few)
