use Rattle.std.proofs.Common.{List, map, sym, ap, ◌∙◌, subst}
use Rattle.bt_book.specs.Choking.{IsChoice, HaveOwnKeys}
use Rattle.bt_book.specs.declared.choking.Standing.{Standing}
use Rattle.bt_meta.specs.Torrent.{Metainfo}
use Rattle.bt_machine.specs.Shape.{IsShaped}
use Rattle.bt_engine_state.specs.Parts.{state_of}
use Rattle.bt_engine_after.specs.ServingSteps.{standing_at}
use Rattle.bt_engine_after.proofs.Turns.{own_keys, same_standings}
use Rattle.bt_engine_after.proofs.ServingFollowUps.{shape_begun, rechokes_so}
use Rattle.bt_engine_after.proofs.serving.rechoke.Goals as goal

pub choose-served-requires : goal.choose-served-requires
choose-served-requires g c =
    let all = c.deref-2.ensures.value ∙ c.in_ok-standings.ensures ∙ ap (map standing_at) c.deref.ensures.value in
    subst (λ (standings : List Standing). HaveOwnKeys standings) (sym all) (own_keys c.args.parts.now.peers.items c.requires.sound.tied.in_order)

pub begin_turn-requires-clause-choice : goal.begin_turn-requires-clause-choice
begin_turn-requires-clause-choice g c =
    let old = c.args.parts.now in
    let all = c.deref-2.ensures.value ∙ c.in_ok-standings.ensures ∙ ap (map standing_at) c.deref.ensures.value in
    rw c.as_slice.ensures.value (subst (λ (standings : List Standing). IsChoice standings old.turn c.choose-served.result.items)
    (all ∙ sym (same_standings old.book old.peers.items)) c.choose-served.ensures)

pub follow_up_all-requires-clause-sound : goal.follow_up_all-requires-clause-sound
follow_up_all-requires-clause-sound g c = record {
  tied = c.begin_turn.ensures.rest.tied;
  shaped = subst (λ (m : Metainfo). IsShaped m (state_of c.begin_turn.new.parts)) (sym c.begin_turn.ensures.rest.torrent)
      (shape_begun g.H.NodeHash.digest (state_of c.args.parts.now) (state_of c.begin_turn.new.parts) c.begin_turn.ensures.state c.requires.sound.shaped);
}

pub returns-clause-rest : goal.returns-clause-rest
returns-clause-rest g c =
    let begun = c.begin_turn.ensures.rest in
    let followed = c.follow_up_all.ensures.rest in
    record {
      devices = followed.devices ∙ begun.devices;
      torrent = followed.torrent ∙ begun.torrent;
      log = followed.log ∙ begun.log;
      tied = followed.tied;
    }

pub returns-clause-step : goal.returns-clause-step
returns-clause-step g c =
    rechokes_so g.H.NodeHash.digest (state_of c.args.parts.now) (state_of c.begin_turn.new.parts) (state_of c.follow_up_all.new.parts)
    c.in_ok-send.send.items c.begin_turn.new.send.items c.follow_up_all.new.send.items c.new.result.items
    c.in_ok-send.ensures.items c.begin_turn.ensures.state c.begin_turn.ensures.sent c.follow_up_all.ensures.follows c.new.ensures.items
