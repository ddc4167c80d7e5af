use Rattle.std.proofs.Common.{refl, sym}
use Rattle.bt_engine_state.specs.Parts.{state_of, peer_of}
use Rattle.bt_engine_state.proofs.Lists.{get_read, get_mapped}
use Rattle.bt_engine_messages.proofs.Heard.{tied_heard, heard_so}
use Rattle.bt_engine_messages.proofs.message.take_message.Goals as goal

pub returns-clause-step : goal.returns-clause-step
returns-clause-step g c = λ dig x at.
    let old = c.args.parts.now in
    let p = c.index_mut-peer.result.now in
    let here = get_read old.peers.items c.args.index p c.requires.peer.there c.index_mut-peer.ensures.value in
    heard_so old c.args.index c.change_peer.new.peer c.drop_asked.new.book c.requires.peer.tied here c.change_peer.ensures.key dig c.args.message.now c.change_peer.result x at
    c.change_peer.ensures.cutter c.change_peer.ensures.payload c.drop_asked.ensures.others c.drop_asked.ensures.asked
    (c.change_peer.ensures.takes dig (state_of old) c.args.index (peer_of old.book p) (get_mapped (peer_of old.book) old.peers.items c.args.index here) refl (sym c.pieces-pieces.ensures.counted))

pub returns-clause-rest : goal.returns-clause-rest
returns-clause-rest g c =
    let old = c.args.parts.now in
    let p = c.index_mut-peer.result.now in
    record {
      devices = refl;
      torrent = refl;
      log = refl;
      tied = tied_heard old c.args.index c.change_peer.new.peer c.drop_asked.new.book c.requires.peer.tied
          (get_read old.peers.items c.args.index p c.requires.peer.there c.index_mut-peer.ensures.value) c.change_peer.ensures.key
          c.drop_asked.ensures.wanted c.drop_asked.ensures.peers;
    }
