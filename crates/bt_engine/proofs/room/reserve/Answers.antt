use Rattle.std.proofs.Common.{◌+◌, ◌*◌, List, length, sym, ap, ◌∙◌, subst, arith}
use Rattle.bt_book.specs.Book.{max_askers}
use Rattle.bt_engine_after.specs.AfterEvent.{max_frames}
use Rattle.bt_engine_state.specs.Ties.{IsTied}
use Rattle.bt_engine_state.proofs.Ties.{tied_logged}
use Rattle.bt_engine_state.specs.declared.peer.Peer.{Peer}
use Rattle.bt_engine_state.specs.declared.parts.Parts.{Parts}
use Rattle.bt_engine.specs.RoomSteps.{IsNoteBound, HasRoom}
use Rattle.bt_engine.specs.declared.room.EventLists.{EventLists}
use Rattle.bt_engine.proofs.Handled.{bound_logged}
use Rattle.bt_engine.proofs.room.reserve.Goals as goal

pub returns-clause-tied : goal.returns-clause-tied
returns-clause-tied g c =
    subst (λ (p : Parts g.row.D.Denot g.row.H.Denot). IsTied p) (sym c.reserve_hints.ensures.others)
    (tied_logged c.args.parts.now c.reserve_hints.new.parts.log c.requires.sound.tied)

pub returns-in_err-reserve_hints-clause-tied : goal.returns-in_err-reserve_hints-clause-tied
returns-in_err-reserve_hints-clause-tied g c =
    subst (λ (p : Parts g.row.D.Denot g.row.H.Denot). IsTied p) (sym c.reserve_hints.ensures.others)
    (tied_logged c.args.parts.now c.reserve_hints.new.parts.log c.requires.sound.tied)

pub returns-clause-room : goal.returns-clause-room
returns-clause-room g c =
    let old = c.args.parts.now in
    let others = c.reserve_hints.ensures.others in
    let bound = c.note_bound-bound.result in
    let room : EventLists = record { send = c.in_ok-send.send; notes = c.in_ok-notes.notes } in
    let peers = ap (λ (ps : List Peer). length ps) c.as_slice-peers.ensures.value in
    let has : HasRoom bound (length old.peers.items) room = record {
      nothing_sent = c.in_ok-send.ensures.items;
      nothing_noted = c.in_ok-notes.ensures.items;
      send_room = c.in_ok-send.ensures.exact ∙ ap (λ n. bound * n + max_askers + max_frames) peers;
      note_room = c.in_ok-notes.ensures.exact ∙ omega arith;
    } in (
      bound,
      subst (λ (p : Parts g.row.D.Denot g.row.H.Denot). IsNoteBound p c.args.event.now bound) (sym others)
          (bound_logged old c.reserve_hints.new.parts.log c.args.event.now bound c.note_bound-bound.ensures.bound),
      subst (λ (p : Parts g.row.D.Denot g.row.H.Denot). HasRoom bound (length p.peers.items) room) (sym others) has,
      c.in_ok-reserve_hints.ensures.room,
    )
