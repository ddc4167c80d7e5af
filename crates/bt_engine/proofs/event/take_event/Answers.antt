use Rattle.std.proofs.Common.{◌<◌, List, Option, length, sym, ap, ◌∙◌, subst}
use Rattle.std.specs.Prelude.{IfOk}
use Rattle.std.specs.Vec.{vec_len}
use Rattle.bt_machine.specs.Devices.{DeviceCalls, HaveCalls}
use Rattle.bt_machine.specs.Orderly.{IsOrderly}
use Rattle.bt_machine.specs.Output.{Output}
use Rattle.bt_machine.specs.Shape.{IsShaped}
use Rattle.bt_machine.specs.State.{EngineState}
use Rattle.bt_engine_state.specs.Parts.{state_of, disks_of}
use Rattle.bt_engine_state.specs.declared.parts.Parts.{Parts}
use Rattle.bt_engine.specs.EventSteps.{GoesOn}
use Rattle.bt_engine.proofs.event.take_event.Goals as goal

pub take_in_room-requires-clause-peer : goal.take_in_room-requires-clause-peer
take_in_room-requires-clause-peer g c =
    let same = sym c.reserve.ensures.others in
    record {
      tied = c.reserve.ensures.tied;
      shaped = subst (λ (s : EngineState). IsShaped s.torrent s) (sym c.reserve.ensures.state) c.requires.peer.shaped;
      inside = subst (λ (p : Parts g.row.D.Denot g.row.H.Denot). c.args.index < vec_len p.peers) same c.requires.peer.inside;
      there = subst (λ (p : Parts g.row.D.Denot g.row.H.Denot). c.args.index < length p.peers.items) same c.requires.peer.there;
    }

pub returns-in_err-room-clause-rest : goal.returns-in_err-room-clause-rest
returns-in_err-room-clause-rest g c = record {
  torrent = ap (λ (p : Parts g.row.D.Denot g.row.H.Denot). p.torrent) c.reserve.ensures.others;
  log = c.reserve.ensures.log;
  tied = c.reserve.ensures.tied;
}

pub returns-clause-rest : goal.returns-clause-rest
returns-clause-rest g c = record {
  torrent = c.take_in_room.ensures.rest.torrent ∙ ap (λ (p : Parts g.row.D.Denot g.row.H.Denot). p.torrent) c.reserve.ensures.others;
  log = c.take_in_room.ensures.rest.log ∙ c.reserve.ensures.log;
  tied = c.take_in_room.ensures.rest.tied;
}

pub take_in_room-requires-clause-orderly : goal.take_in_room-requires-clause-orderly
take_in_room-requires-clause-orderly g c = subst (λ (s : EngineState). IsOrderly s) (sym c.reserve.ensures.state) c.requires.orderly

pub returns-clause-step : goal.returns-clause-step
returns-clause-step g c =
    let dig = g.H.NodeHash.digest in
    let have = λ (ds : List (Option g.row.D.Denot)) (calls : DeviceCalls). HaveCalls g.D.Disk.conduct ds calls (disks_of c.take_in_room.new.parts) in
    let mid = disks_of c.reserve.new.parts in
    subst (λ (ds : List (Option g.row.D.Denot)). IfOk c.take_in_room.result (λ (out : Output). (calls : DeviceCalls) × have ds calls
    × GoesOn dig c.args.index c.args.event.now calls out (state_of c.args.parts.now) (state_of c.take_in_room.new.parts)))
    (ap (λ (p : Parts g.row.D.Denot g.row.H.Denot). disks_of p) c.reserve.ensures.others)
    (subst (λ (s : EngineState). IfOk c.take_in_room.result (λ (out : Output). (calls : DeviceCalls) × have mid calls
    × GoesOn dig c.args.index c.args.event.now calls out s (state_of c.take_in_room.new.parts))) c.reserve.ensures.state c.take_in_room.ensures.step)
