use Rattle.std.proofs.Common.{arith}
use Rattle.bt_machine.proofs.Base.{length-map}
use Rattle.bt_engine_state.specs.Parts.{peer_of}
use Rattle.bt_engine_after.proofs.ServingFollowUps.{none_followed, one_followed, all_followed}
use Rattle.bt_engine_after.proofs.serving.follow_up_all.Goals as goal

pub loop-index-init : goal.loop-index-init
loop-index-init g c = record {
  followed = none_followed g.H.NodeHash.digest c.args.parts.now c.args.send.now.items c.requires.sound.tied c.requires.sound.shaped;
  room = omega (arith, c.requires.room);
}

pub follow_up-requires-clause-peer : goal.follow_up-requires-clause-peer
follow_up-requires-clause-peer g c = record {
  tied = c.loop-index.invariant.followed.tied;
  shaped = c.loop-index.invariant.followed.shaped;
  inside = omega (arith, c.loop-index-test.true, c.len-index-end.ensures, c.args.parts.now.peers.ok.0, c.loop-index.parts.peers.ok.0, c.loop-index.invariant.followed.count);
  there = omega (arith, c.loop-index-test.true, c.len-index-end.ensures, c.args.parts.now.peers.ok.0, c.loop-index.invariant.followed.count);
}

pub follow_up-requires-clause-room : goal.follow_up-requires-clause-room
follow_up-requires-clause-room g c =
    omega (arith, c.loop-index-test.true, c.len-index-end.ensures, c.args.parts.now.peers.ok.0, c.loop-index.invariant.room)

pub loop-index-preserved : goal.loop-index-preserved
loop-index-preserved g c = record {
  followed = one_followed g.H.NodeHash.digest c.args.parts.now c.args.send.now.items c.loop-index.index c.loop-index.parts c.follow_up.new.parts
      c.loop-index.send.items c.follow_up.new.send.items c.loop-index.invariant.followed c.follow_up.ensures.follows c.follow_up.ensures.rest.devices
      c.follow_up.ensures.rest.torrent c.follow_up.ensures.rest.log c.follow_up.ensures.keys.keys c.follow_up.ensures.rest.tied;
  room = omega (
    arith,
    c.loop-index-test.true,
    c.len-index-end.ensures,
    c.args.parts.now.peers.ok.0,
    c.loop-index.invariant.room,
    c.follow_up.ensures.few,
    c.follow_up.ensures.capacity,
  );
}

pub returns-clause-rest : goal.returns-clause-rest
returns-clause-rest g c =
    let followed = c.loop-index.invariant.followed in
    record { devices = followed.devices; torrent = followed.torrent; log = followed.log; tied = followed.tied }

pub returns-clause-follows : goal.returns-clause-follows
returns-clause-follows g c =
    let old = c.args.parts.now in
    all_followed g.H.NodeHash.digest old c.args.send.now.items c.loop-index.index c.loop-index.parts c.loop-index.send.items
    (omega (arith, c.loop-index-test.false, c.loop-index.auto.index-end, c.len-index-end.ensures, old.peers.ok.0, length-map old.peers.items (peer_of old.book)))
    c.loop-index.invariant.followed
