use Rattle.std.proofs.Common.{refl, ◌∙◌}
use Rattle.std.specs.Vec.{with_items}
use Rattle.bt_engine_messages.proofs.Slots.{below_slots, puts_of}
use Rattle.bt_engine_messages.proofs.StoreChanges.{has_changed, tied_new}
use Rattle.bt_engine_messages.proofs.Storing.{can_put, put_changes, puts_block}
use Rattle.bt_engine_messages.proofs.piece.put_block.Goals as goal

pub put_in_slot-answer-requires-clause-inside : goal.put_in_slot-answer-requires-clause-inside
put_in_slot-answer-requires-clause-inside g c =
    rw c.deref_mut.ensures.value (below_slots (can_put c.args.parts.now c.args.block c.args.bytes.now c.requires.sound.tied c.requires.missing c.requires.whole).has_store)

pub put_in_slot-answer-requires-clause-can : goal.put_in_slot-answer-requires-clause-can
put_in_slot-answer-requires-clause-can g c =
    rw (c.deref_mut.ensures.value, c.deref.ensures.value) (can_put c.args.parts.now c.args.block c.args.bytes.now c.requires.sound.tied c.requires.missing c.requires.whole)

pub follow_block-requires : goal.follow_block-requires
follow_block-requires g c =
    let old = c.args.parts.now in
    let a = c.put_in_slot-answer in
    let puts = puts_of old.slots old.trees a.ensures c.deref_mut.ensures.value c.deref.ensures.value (a.auto.slots ∙ c.deref_mut.ensures.len) in
    has_changed (put_changes old (record old { slots = with_items old.slots a.new.slots }) c.requires.sound.tied c.requires.sound.shaped c.requires.missing puts c.state_after.ensures)

pub outcome_of-requires : goal.outcome_of-requires
outcome_of-requires g c = c.put_in_slot-answer.ensures.of_missing

pub returns : goal.returns
returns g c =
    let old = c.args.parts.now in
    let a = c.put_in_slot-answer in
    let next = record old { slots = with_items old.slots a.new.slots } in
    let puts = puts_of old.slots old.trees a.ensures c.deref_mut.ensures.value c.deref.ensures.value (a.auto.slots ∙ c.deref_mut.ensures.len) in
    let f = c.follow_block in
    record {
      puts = puts_block old next c.requires.sound.tied c.requires.sound.shaped c.requires.missing puts c.state_after.ensures f.new.book f.new.counts f.ensures.asked
          c.asked-others.result.items (record { ascending = c.asked-others.ensures.ascending; exact = c.asked-others.ensures.exact }) c.args.ask c.outcome_of.result c.outcome_of.ensures.effect;
      no_proof = c.outcome_of.ensures.no_proof;
      few = c.outcome_of.ensures.few;
      rest = record {
        torrent = refl;
        log = refl;
        tied = tied_new (put_changes old next c.requires.sound.tied c.requires.sound.shaped c.requires.missing puts c.state_after.ensures) f.new.book f.new.counts
            f.ensures.asked f.ensures.peers f.ensures.followed;
      };
      peers = refl;
    }
