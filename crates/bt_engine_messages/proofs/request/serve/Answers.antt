use Rattle.std.proofs.Common.{ap, sym, ◌∙◌, refl, arith}
use Rattle.std.specs.Vec.{with_items}
use Rattle.bt_machine.proofs.Lists.{some_is}
use Rattle.bt_machine.proofs.Shape.{map_set}
use Rattle.bt_engine_state.specs.declared.peer.Peer.{Peer}
use Rattle.bt_engine_state.proofs.Lists.{get_read}
use Rattle.bt_engine_messages.specs.RequestSteps.{IsLookedAt}
use Rattle.bt_engine_messages.proofs.Slots.{below_slots, sends_of, stops_of}
use Rattle.bt_engine_messages.proofs.StoreChanges.{has_changed, tied_new}
use Rattle.bt_engine_messages.proofs.Requests.{can_read, takes_sent, tied_sent, damage_changes, takes_damaged, takes_device, tied_device}
use Rattle.bt_engine_messages.proofs.request.serve.Goals as goal

pub read_slot-requires-clause-inside : goal.read_slot-requires-clause-inside
read_slot-requires-clause-inside g c =
    rw c.deref_mut.ensures.value (below_slots (can_read c.args.parts.now c.args.span c.requires.looked.tied c.requires.short c.requires.looked.are).has_store)

pub read_slot-requires-clause-marked : goal.read_slot-requires-clause-marked
read_slot-requires-clause-marked g c =
    rw (c.deref_mut.ensures.value, c.deref.ensures.value) (can_read c.args.parts.now c.args.span c.requires.looked.tied c.requires.short c.requires.looked.are)

pub index_mut-peer-requires : goal.index_mut-peer-requires
index_mut-peer-requires g c = c.requires.looked.inside

pub follow_block-requires : goal.follow_block-requires
follow_block-requires g c =
    let old = c.args.parts.now in
    let next = record old { slots = with_items old.slots c.read_slot.new.slots } in
    let r = stops_of old.slots old.trees (rw c.in-Err-Damaged.field-0-is at c.in-Err-Damaged.ensures.wrong) c.deref_mut.ensures.value c.deref.ensures.value (c.read_slot.auto.slots ∙ c.deref_mut.ensures.len) in
    rw c.in-Err-Damaged.field-0-is (has_changed (damage_changes c.requires.looked next r))

pub returns-in-Ok : goal.returns-in-Ok
returns-in-Ok g c =
    let old = c.args.parts.now in
    let p = c.index_mut-peer.result.now in
    let there = get_read old.peers.items c.args.index p c.requires.looked.there c.index_mut-peer.ensures.value in
    let was = c.requires.looked in
    let look : IsLookedAt old c.args.index c.args.ask c.args.span = record was {
      peer = p;
      here = there;
      open_to = ap (λ (p : Peer). p.am_choking) (some_is (sym there ∙ was.here)) ∙ was.open_to;
    } in
    let next = record old { slots = with_items old.slots c.read_slot.new.slots } in
    let r = sends_of old.slots old.trees c.in-Ok.ensures.right c.deref_mut.ensures.value c.deref.ensures.value (c.read_slot.auto.slots ∙ c.deref_mut.ensures.len) in
    record {
      takes = rw c.new.ensures (takes_sent look next c.in-Ok.bytes c.saturating_add-peer.result r (omega (arith, c.saturating_add-peer.ensures)));
      few = omega arith;
      rest = record { torrent = refl; log = refl; tied = tied_sent look next c.in-Ok.bytes c.saturating_add-peer.result r };
      keys = record {
        keys = map_set (λ (p : Peer). p.key) old.peers.items c.args.index (record p { payload = c.saturating_add-peer.result }) there refl;
        len = refl;
      };
    }

pub returns-in-Err-Damaged : goal.returns-in-Err-Damaged
returns-in-Err-Damaged g c =
    let old = c.args.parts.now in
    let look = c.requires.looked in
    let next = record old { slots = with_items old.slots c.read_slot.new.slots } in
    let r = stops_of old.slots old.trees (rw c.in-Err-Damaged.field-0-is at c.in-Err-Damaged.ensures.wrong) c.deref_mut.ensures.value c.deref.ensures.value (c.read_slot.auto.slots ∙ c.deref_mut.ensures.len) in
    let f = c.follow_block in
    record {
      takes = rw c.in-Err-Damaged.field-0-is (takes_damaged look next r f.new.book f.new.counts f.ensures.asked);
      few = omega arith;
      rest = record {
        torrent = refl;
        log = refl;
        tied = tied_new (damage_changes look next r) f.new.book f.new.counts f.ensures.asked f.ensures.peers
            (λ s t same before one. f.ensures.followed s t same before (rw c.in-Err-Damaged.field-0-is one));
      };
      keys = record { keys = refl; len = refl };
    }

pub returns-in-Err-Device : goal.returns-in-Err-Device
returns-in-Err-Device g c =
    let old = c.args.parts.now in
    let next = record old { slots = with_items old.slots c.read_slot.new.slots } in
    let r = stops_of old.slots old.trees (rw c.in-Err-Device.field-0-is at c.in-Err-Device.ensures.wrong) c.deref_mut.ensures.value c.deref.ensures.value (c.read_slot.auto.slots ∙ c.deref_mut.ensures.len) in
    record {
      takes = takes_device c.requires.looked next r;
      few = omega arith;
      rest = record { torrent = refl; log = refl; tied = tied_device c.requires.looked next r };
      keys = record { keys = refl; len = refl };
    }
