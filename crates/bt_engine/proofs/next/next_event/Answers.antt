use Rattle.std.proofs.Common.{refl, arith}
use Rattle.std.proofs.Math.ListN.{length-set}
use Rattle.bt_engine_state.specs.declared.peer.Peer.{Peer}
use Rattle.bt_engine_state.specs.Parts.{peer_of}
use Rattle.bt_engine_state.proofs.Lists.{get_mapped, get_read}
use Rattle.bt_engine_state.proofs.Ties.{tied_set, state_set}
use Rattle.bt_engine.proofs.Handled.{if_ok, if_err}
use Rattle.bt_engine.proofs.next.next_event.Goals as goal

pub returns-clause-found : goal.returns-clause-found
returns-clause-found g c =
    let old = c.args.parts.now in
    let p = c.index_mut-peer.result.now in
    let at = get_read old.peers.items c.args.index p c.requires.there c.index_mut-peer.ensures.value in
    if_ok _ _ c.next.result c.next.ensures.answer (λ found answer. record {
      peer = peer_of old.book p;
      rest = c.next.new.self;
      here = get_mapped (peer_of old.book) old.peers.items c.args.index at;
      cut = answer;
      after = state_set old c.args.index (record p { cutter = c.next.new.self }) c.requires.tied at refl;
    })

pub returns-clause-refused : goal.returns-clause-refused
returns-clause-refused g c =
    let old = c.args.parts.now in
    let p = c.index_mut-peer.result.now in
    let at = get_read old.peers.items c.args.index p c.requires.there c.index_mut-peer.ensures.value in
    if_err _ _ c.next.result c.next.ensures.refused (λ error refusal. record {
      peer = peer_of old.book p;
      rest = c.next.new.self;
      here = get_mapped (peer_of old.book) old.peers.items c.args.index at;
      cut = refusal;
      after = state_set old c.args.index (record p { cutter = c.next.new.self }) c.requires.tied at refl;
    })

pub returns-clause-rest : goal.returns-clause-rest
returns-clause-rest g c =
    let p = c.index_mut-peer.result.now in
    let at = get_read c.args.parts.now.peers.items c.args.index p c.requires.there c.index_mut-peer.ensures.value in
    record {
      devices = refl;
      torrent = refl;
      log = refl;
      tied = tied_set c.args.parts.now c.args.index (record p { cutter = c.next.new.self }) c.requires.tied at refl;
    }

pub returns-clause-peer : goal.returns-clause-peer
returns-clause-peer g c =
    let p = c.index_mut-peer.result.now in
    let at = get_read c.args.parts.now.peers.items c.args.index p c.requires.there c.index_mut-peer.ensures.value in
    let q : Peer = record p { cutter = c.next.new.self } in
    record {
      tied = tied_set c.args.parts.now c.args.index q c.requires.tied at refl;
      inside = c.requires.inside;
      there = omega (arith, c.requires.there, length-set c.args.parts.now.peers.items c.args.index q);
    }
