use Rattle.std.proofs.Common.{[], ◌+◌, ◌<◌, ◌++◌, ◌∷◌, List, length, refl, ap, ◌∙◌, arith}
use Rattle.bt_book.specs.declared.names.PeerKey.{PeerKey}
use Rattle.bt_machine.proofs.Base.{length-map}
use Rattle.bt_machine.specs.State.{PeerState}
use Rattle.bt_engine_state.specs.Connection.{peer_with}
use Rattle.bt_engine_state.specs.Parts.{state_of, peer_of}
use Rattle.bt_engine_state.specs.declared.peer.Peer.{Peer}
use Rattle.bt_engine_state.proofs.Joins.{joined_true, not_joined, as_many, peers_then, tied_joined}
use Rattle.bt_engine_state.proofs.connection.join.Goals as goal

pub returns-clause-joined : goal.returns-clause-joined
returns-clause-joined g c =
    let old = c.args.parts.now in
    let key : PeerKey = record { 0 = old.last_key + 1 } in
    let tied = c.requires.tied in
    let orderly = c.requires.orderly in
    let few : length old.book.peers < 64 = omega (arith, c.requires.room, as_many old key tied orderly refl) in
    let asked = joined_true c.join.result c.join.ensures.when (not_joined old key tied orderly refl, few) c.join.ensures.asked in
    let room : length old.peers.items < 64 = c.requires.room in
    let pushed = c.push.ensures.succeeds (omega (arith, room, old.peers.ok.0, tied.room)) in
    let peers = rw pushed at c.push.ensures.items in
    let is = c.new_peer.ensures ∙ ap (peer_with key) c.requires.none in
    let items = peers ∙ ap (λ (p : Peer). old.peers.items ++ p ∷ []) is in
    record {
      room = rw (length-map old.peers.items (peer_of old.book)) room;
      left = c.requires.key;
      next = refl;
      after = ap {A = List PeerState} (λ ps. record (state_of old) { peers = ps; next_key = old.last_key + 1 + 1 })
          (peers_then old key tied orderly refl (record old { peers = c.push.new.self; book = c.join.new.self; last_key = old.last_key + 1 }) items
          c.join.ensures.others asked);
    }

pub returns-clause-rest : goal.returns-clause-rest
returns-clause-rest g c =
    let old = c.args.parts.now in
    let key : PeerKey = record { 0 = old.last_key + 1 } in
    let tied = c.requires.tied in
    let orderly = c.requires.orderly in
    let few : length old.book.peers < 64 = omega (arith, c.requires.room, as_many old key tied orderly refl) in
    let book = joined_true c.join.result c.join.ensures.when (not_joined old key tied orderly refl, few) c.join.ensures.joined in
    let room : length old.peers.items < 64 = c.requires.room in
    let pushed = c.push.ensures.succeeds (omega (arith, room, old.peers.ok.0, tied.room)) in
    let peers = rw pushed at c.push.ensures.items in
    let is = c.new_peer.ensures ∙ ap (peer_with key) c.requires.none in
    let items = peers ∙ ap (λ (p : Peer). old.peers.items ++ p ∷ []) is in
    record {
      devices = refl;
      torrent = refl;
      log = refl;
      tied = tied_joined old key tied orderly refl (record old { peers = c.push.new.self; book = c.join.new.self; last_key = old.last_key + 1 }) items
          refl refl refl refl refl refl book (omega (arith, tied.room, c.push.ensures.capacity));
    }
