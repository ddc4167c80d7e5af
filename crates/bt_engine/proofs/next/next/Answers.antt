use Rattle.std.proofs.Common.{[], List, Option, option_map, refl, sym, ap, ◌∙◌, subst, arith}
use Rattle.bt_machine.specs.Devices.{HaveCalls}
use Rattle.bt_machine.specs.Next.{no_peer, without_peer}
use Rattle.bt_engine_state.specs.declared.open_log.OpenLog.{OpenLog}
use Rattle.bt_machine.specs.Orderly.{IsOrderly}
use Rattle.bt_machine.specs.State.{EngineState}
use Rattle.bt_machine.proofs.Orderly.{stream_order}
use Rattle.bt_engine_after.proofs.FollowUps.{shaped_again}
use Rattle.bt_engine_state.specs.Parts.{state_of, disks_of}
use Rattle.bt_engine_state.proofs.Ties.{no_peer_of, peer_at}
use Rattle.bt_engine.proofs.Events.{waits_so, goes_so, drops_event, drops_unread, has_not_failed, faulty_so}
use Rattle.bt_engine.proofs.Handled.{no_calls}
use Rattle.bt_engine.proofs.next.next.Goals as goal

pub returns-in_default-clause-step : goal.returns-in_default-clause-step
returns-in_default-clause-step g c = (
  [],
  no_calls g.D.Disk.conduct c.args.parts.now c.args.parts.now refl,
  no_peer (no_peer_of c.args.parts.now c.args.key c.in_default.ensures.none) refl refl refl,
)

pub returns-in-Ok-None-clause-step : goal.returns-in-Ok-None-clause-step
returns-in-Ok-None-clause-step g c =
    let found = rw c.in-Ok-None.field-0-is at c.in-Ok-None.ensures.found in (
      [],
      no_calls g.D.Disk.conduct c.args.parts.now c.next_event.new.parts c.next_event.ensures.rest.devices,
      waits_so (peer_at c.args.parts.now c.in-Some.ensures.some) g.H.NodeHash.digest (state_of c.next_event.new.parts) found refl,
    )

pub next_event-requires : goal.next_event-requires
next_event-requires g c = record {
  tied = c.requires.sound.tied;
  inside = c.in-Some.ensures.inside;
  there = omega (arith, c.in-Some.ensures.inside, c.args.parts.now.peers.ok.0);
}

pub take_event-requires-clause-peer : goal.take_event-requires-clause-peer
take_event-requires-clause-peer g c = record {
  tied = c.next_event.ensures.peer.tied;
  shaped = shaped_again _ _ c.requires.sound.shaped c.in-Ok-Some.ensures.found.after;
  inside = c.next_event.ensures.peer.inside;
  there = c.next_event.ensures.peer.there;
}

pub drop_peer-requires : goal.drop_peer-requires
drop_peer-requires g c =
    let same = c.in-Err-take_event.ensures.peers in
    record {
      tied = c.take_event.ensures.rest.tied;
      inside = rw same c.next_event.ensures.peer.inside;
      there = rw same c.next_event.ensures.peer.there;
    }

pub returns-in-Ok-None-clause-rest : goal.returns-in-Ok-None-clause-rest
returns-in-Ok-None-clause-rest g c = record {
  torrent = c.next_event.ensures.rest.torrent;
  log = ap (λ (log : Option (OpenLog g.row.D.Denot)). option_map (λ opened. opened.log) log) c.next_event.ensures.rest.log;
  tied = c.next_event.ensures.rest.tied;
}

pub returns-in-Ok-clause-rest : goal.returns-in-Ok-clause-rest
returns-in-Ok-clause-rest g c = record {
  torrent = c.take_event.ensures.rest.torrent ∙ c.next_event.ensures.rest.torrent;
  log = c.take_event.ensures.rest.log ∙ ap (λ (log : Option (OpenLog g.row.D.Denot)). option_map (λ opened. opened.log) log) c.next_event.ensures.rest.log;
  tied = c.take_event.ensures.rest.tied;
}

pub returns-in-Ok-Some-clause-rest : goal.returns-in-Ok-Some-clause-rest
returns-in-Ok-Some-clause-rest g c =
    let logged = λ (log : Option (OpenLog g.row.D.Denot)). option_map (λ opened. opened.log) log in
    record {
      torrent = c.drop_peer.ensures.rest.torrent ∙ c.take_event.ensures.rest.torrent ∙ c.next_event.ensures.rest.torrent;
      log = ap logged c.drop_peer.ensures.rest.log ∙ c.take_event.ensures.rest.log ∙ ap logged c.next_event.ensures.rest.log;
      tied = c.drop_peer.ensures.rest.tied;
    }

pub returns-in-OutOfMemory-clause-rest : goal.returns-in-OutOfMemory-clause-rest
returns-in-OutOfMemory-clause-rest g c = record {
  torrent = c.drop_peer-in-OutOfMemory.ensures.rest.torrent ∙ c.next_event.ensures.rest.torrent;
  log = ap (λ (log : Option (OpenLog g.row.D.Denot)). option_map (λ opened. opened.log) log) (c.drop_peer-in-OutOfMemory.ensures.rest.log ∙ c.next_event.ensures.rest.log);
  tied = c.drop_peer-in-OutOfMemory.ensures.rest.tied;
}

pub take_event-requires-clause-orderly : goal.take_event-requires-clause-orderly
take_event-requires-clause-orderly g c =
    let found = rw c.in-Ok-Some.field-0-is at c.in-Ok-Some.ensures.found in
    subst (λ (x : EngineState). IsOrderly x) (sym found.after) (stream_order g.H.NodeHash.digest c.in-Some.index found.rest found.here found.cut.not_failed c.requires.orderly)

pub returns-in-Ok-clause-step : goal.returns-in-Ok-clause-step
returns-in-Ok-clause-step g c =
    let found = rw c.in-Ok-Some.field-0-is at c.in-Ok-Some.ensures.found in
    let step = c.in-Ok.ensures.step in (
      step.0,
      subst (λ (ds : List (Option g.row.D.Denot)). HaveCalls g.D.Disk.conduct ds step.0 (disks_of c.take_event.new.parts))
          c.next_event.ensures.rest.devices step.1,
      goes_so (peer_at c.args.parts.now c.in-Some.ensures.some) g.H.NodeHash.digest (state_of c.take_event.new.parts) found step.2,
    )

pub returns-in-Ok-Some-clause-step : goal.returns-in-Ok-Some-clause-step
returns-in-Ok-Some-clause-step g c =
    let found = rw c.in-Ok-Some.field-0-is at c.in-Ok-Some.ensures.found in
    let same = c.in-Err-take_event.ensures.state in
    let devices = c.in-Err-take_event.ensures.devices in (
      [],
      no_calls g.D.Disk.conduct c.args.parts.now c.drop_peer.new.parts
          (c.drop_peer.ensures.rest.devices ∙ devices ∙ c.next_event.ensures.rest.devices),
      drops_event (peer_at c.args.parts.now c.in-Some.ensures.some) g.H.NodeHash.digest (state_of c.drop_peer.new.parts) found
          (c.drop_peer.ensures.gone ∙ ap (λ (s : EngineState). without_peer c.in-Some.index s) same),
    )

pub returns-in-OutOfMemory-clause-step : goal.returns-in-OutOfMemory-clause-step
returns-in-OutOfMemory-clause-step g c =
    let refused = rw c.in-OutOfMemory.is at c.in-Err.ensures.refused in (
      [],
      no_calls g.D.Disk.conduct c.args.parts.now c.drop_peer-in-OutOfMemory.new.parts
          (c.drop_peer-in-OutOfMemory.ensures.rest.devices ∙ c.next_event.ensures.rest.devices),
      drops_unread (peer_at c.args.parts.now c.in-Some.ensures.some) g.H.NodeHash.digest (state_of c.drop_peer-in-OutOfMemory.new.parts) refused
          c.drop_peer-in-OutOfMemory.ensures.gone,
    )

pub returns-in-Ok-Some-clause-devices : goal.returns-in-Ok-Some-clause-devices
returns-in-Ok-Some-clause-devices g c =
    c.drop_peer.ensures.rest.devices ∙ c.in-Err-take_event.ensures.devices ∙ c.next_event.ensures.rest.devices

pub returns-in-OutOfMemory-clause-devices : goal.returns-in-OutOfMemory-clause-devices
returns-in-OutOfMemory-clause-devices g c =
    c.drop_peer-in-OutOfMemory.ensures.rest.devices ∙ c.next_event.ensures.rest.devices

pub unreachable-requires : goal.unreachable-requires
unreachable-requires g c =
    let refused = rw c.in-Failed.is at c.in-Err.ensures.refused in
    has_not_failed (peer_at c.args.parts.now c.in-Some.ensures.some) c.requires.orderly refused

pub returns : goal.returns
returns g c = record {
  step = (
    [],
    no_calls g.D.Disk.conduct c.args.parts.now c.close.new.parts
        (c.close.ensures.rest.devices ∙ c.next_event.ensures.rest.devices),
    faulty_so (peer_at c.args.parts.now c.in-Some.ensures.some) g.H.NodeHash.digest (state_of c.close.new.parts) c.in_default-fault.not-OutOfMemory
        c.requires.orderly c.in-Err.ensures.refused c.close.ensures.is c.close.ensures.gone,
  );
  devices = tt;
  rest = record {
    torrent = c.close.ensures.rest.torrent ∙ c.next_event.ensures.rest.torrent;
    log = ap (λ (log : Option (OpenLog g.row.D.Denot)). option_map (λ opened. opened.log) log) (c.close.ensures.rest.log ∙ c.next_event.ensures.rest.log);
    tied = c.close.ensures.rest.tied;
  };
}
