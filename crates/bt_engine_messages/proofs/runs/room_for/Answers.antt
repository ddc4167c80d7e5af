use Rattle.std.proofs.Common.{◌+◌, sym, ap, ◌∙◌, arith}
use Rattle.std.proofs.lemmas.List.{take_all}
use Rattle.std.proofs.lemmas.List.Sums.{sum_by_more}
use Rattle.std.specs.Prelude.{sum_by}
use Rattle.bt_engine_state.proofs.Chains.{stands_there, none_passed, walk_begins, walk_goes_on}
use Rattle.bt_engine_messages.specs.NoteRooms.{slot_room}
use Rattle.bt_engine_messages.proofs.RunSettlings.{idle_room, room_taken}
use Rattle.bt_engine_messages.proofs.runs.room_for.Goals as goal

pub returns-then-not-waits-clause-value : goal.returns-then-not-waits-clause-value
returns-then-not-waits-clause-value g c = sym (idle_room c.args.slots.now c.args.index c.args.count (c.requires.idle c.if-not-waits.true))

pub loop-file-init : goal.loop-file-init
loop-file-init g c =
    let slots = c.args.slots.now in
    let is = walk_begins c.requires.lead c.index.result.now c.index.ensures in
    record {
      stands = stands_there is;
      summed = omega (arith, room_taken slots c.args.index c.args.count 0 c.index.result.now is.inside is.limit (none_passed is));
      few = omega arith;
    }

pub loop-file-preserved : goal.loop-file-preserved
loop-file-preserved g c =
    let l = c.loop-file in
    let slots = c.args.slots.now in
    let room = slot_room c.args.index c.args.count in
    let is = walk_goes_on c.requires.lead c.index-in-loop-file.result.now l.invariant.stands c.loop-file-test.true c.index-in-loop-file.ensures in
    let more = sum_by_more room slots l.file c.index-slots-file.result c.loop-file-test.true in
    let here = ap (λ slot. room slot) c.index-slots-file.is in
    record {
      stands = stands_there is;
      summed = omega (arith, l.invariant.summed, c.slot_room-room.ensures.value, here, more, room_taken slots c.args.index c.args.count (l.file + 1) c.index-in-loop-file.result.now is.inside is.limit (none_passed is));
      few = omega (arith, l.invariant.few, c.slot_room-room.ensures.few, is.inside);
    }

pub loop-file-smaller : goal.loop-file-smaller
loop-file-smaller g c =
    let is = walk_goes_on c.requires.lead c.index-in-loop-file.result.now c.loop-file.invariant.stands c.loop-file-test.true c.index-in-loop-file.ensures in
    omega (arith, is.inside, c.loop-file-test.true)

pub returns-clause-value : goal.returns-clause-value
returns-clause-value g c =
    c.loop-file.invariant.summed ∙ ap (λ slots. sum_by (slot_room c.args.index c.args.count) slots) (take_all c.loop-file.file c.args.slots.now c.loop-file-test.false)

pub returns-clause-small : goal.returns-clause-small
returns-clause-small g c = omega (arith, c.loop-file.invariant.few, c.loop-file.invariant.stands.limit)
