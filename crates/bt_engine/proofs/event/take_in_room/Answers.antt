use Rattle.std.proofs.Common.{List, Option, option_map, sym, ap, ◌∙◌, subst, arith}
use Rattle.bt_meta.specs.Torrent.{Metainfo, IsLawful}
use Rattle.bt_machine.specs.Devices.{HaveCalls}
use Rattle.bt_machine.proofs.Pairs.{contains_some}
use Rattle.bt_engine_state.specs.Parts.{state_of, disks_of, peer_of}
use Rattle.bt_engine_state.proofs.Lists.{get_mapped}
use Rattle.bt_engine_state.specs.declared.open_log.OpenLog.{OpenLog}
use Rattle.bt_engine.proofs.Events.{stands_at, shaped_then, there_then, as_many, told_then, stays_on, closes_on}
use Rattle.bt_engine.proofs.event.take_in_room.Goals as goal

pub handle-requires-clause-pieces : goal.handle-requires-clause-pieces
handle-requires-clause-pieces g c = λ p here.
    let parts = c.args.parts.now in
    (c.requires.orderly.each (peer_of parts.book p) (contains_some (state_of parts).peers c.args.index (get_mapped (peer_of parts.book) parts.peers.items c.args.index here))).pieces

pub close-requires : goal.close-requires
close-requires g c =
    let lt = there_then c.in_ok-why.ensures.handled c.requires.orderly (stands_at c.args.parts.now c.args.index c.requires.peer.there) in
    record { tied = c.handle.ensures.rest.tied; inside = omega (arith, lt, c.handle.new.parts.peers.ok.0); there = lt }

pub keep-requires-clause-peer : goal.keep-requires-clause-peer
keep-requires-clause-peer g c =
    let lt = there_then c.in_ok-why.ensures.handled c.requires.orderly (stands_at c.args.parts.now c.args.index c.requires.peer.there) in
    record {
      tied = c.handle.ensures.rest.tied;
      shaped = shaped_then c.in_ok-why.ensures.handled c.requires.orderly (stands_at c.args.parts.now c.args.index c.requires.peer.there) c.requires.peer.shaped c.handle.ensures.rest.torrent;
      inside = omega (arith, lt, c.handle.new.parts.peers.ok.0);
      there = lt;
    }

pub keep-requires-clause-told : goal.keep-requires-clause-told
keep-requires-clause-told g c =
    let h = rw c.in-Stays.is at c.in_ok-why.ensures.handled in
    (state_of c.args.parts.now, told_then h c.requires.orderly (stands_at c.args.parts.now c.args.index c.requires.peer.there))

pub keep-requires-clause-readable : goal.keep-requires-clause-readable
keep-requires-clause-readable g c =
    let h = rw c.in-Stays.is at c.in_ok-why.ensures.handled in
    h.keeps.readable

pub keep-requires-clause-room : goal.keep-requires-clause-room
keep-requires-clause-room g c =
    let room = c.requires.room in
    let h = c.in_ok-why.ensures.handled in
    let few = rw c.in-Stays.is at c.in_ok-why.ensures.few in
    (room.0, few room.0 room.1, rw (as_many h c.requires.orderly (stands_at c.args.parts.now c.args.index c.requires.peer.there)) room.2, rw c.handle.ensures.rest.log room.3)

pub returns-in_err-why-clause-rest : goal.returns-in_err-why-clause-rest
returns-in_err-why-clause-rest g c = record {
  torrent = c.handle.ensures.rest.torrent;
  log = ap (λ (log : Option (OpenLog g.row.D.Denot)). option_map (λ opened. opened.log) log) c.handle.ensures.rest.log;
  tied = c.handle.ensures.rest.tied;
}

pub returns-in-Closed-clause-rest : goal.returns-in-Closed-clause-rest
returns-in-Closed-clause-rest g c = record {
  torrent = c.close.ensures.rest.torrent ∙ c.handle.ensures.rest.torrent;
  log = ap (λ (log : Option (OpenLog g.row.D.Denot)). option_map (λ opened. opened.log) log) (c.close.ensures.rest.log ∙ c.handle.ensures.rest.log);
  tied = c.close.ensures.rest.tied;
}

pub returns-in-Stays-clause-rest : goal.returns-in-Stays-clause-rest
returns-in-Stays-clause-rest g c = record {
  torrent = c.keep.ensures.rest.torrent ∙ c.handle.ensures.rest.torrent;
  log = c.keep.ensures.rest.log ∙ ap (λ (log : Option (OpenLog g.row.D.Denot)). option_map (λ opened. opened.log) log) c.handle.ensures.rest.log;
  tied = c.keep.ensures.rest.tied;
}

pub returns-in-Closed-clause-step : goal.returns-in-Closed-clause-step
returns-in-Closed-clause-step g c =
    let h = rw c.in-Closed.is at c.in_ok-why.ensures.handled in
    let made = subst (λ (ds : List (Option g.row.D.Denot)). HaveCalls g.D.Disk.conduct (disks_of c.args.parts.now) h.calls ds)
    (sym c.close.ensures.rest.devices) h.made in
    (h.calls, made, closes_on c.close.new.parts h c.close.ensures.is c.close.ensures.gone)

pub returns-in-Stays-clause-step : goal.returns-in-Stays-clause-step
returns-in-Stays-clause-step g c =
    let h = rw c.in-Stays.is at c.in_ok-why.ensures.handled in
    let made = subst (λ (ds : List (Option g.row.D.Denot)). HaveCalls g.D.Disk.conduct (disks_of c.args.parts.now) h.calls ds)
    (sym c.keep.ensures.devices) h.made in
    let shaped = shaped_then h c.requires.orderly (stands_at c.args.parts.now c.args.index c.requires.peer.there) c.requires.peer.shaped c.handle.ensures.rest.torrent in
    let lawful = subst (λ (t : Metainfo). IsLawful t.piece_length t.files) (sym c.handle.ensures.rest.torrent) c.keeps_laws.ensures.lawful in
    (h.calls, made, stays_on c.keep.new.parts h c.requires.orderly shaped lawful c.keep.ensures.follows)
