use Rattle.std.proofs.Common.{◌≡◌, true, false, List, refl, ap, sym, ◌∙◌}
use Rattle.bt_machine.proofs.Lists.{set_id}
use Rattle.bt_machine.proofs.Pairs.{contains_some}
use Rattle.bt_machine.specs.State.{PeerState}
use Rattle.bt_machine.specs.Blocks.{with_peer}
use Rattle.bt_machine.specs.Peers.{feeds, no_peer, no_memory}
use Rattle.bt_wire.specs.Cutter.{Stream}
use Rattle.bt_engine_state.specs.Parts.{state_of, peer_of}
use Rattle.bt_engine_state.proofs.Lists.{get_mapped}
use Rattle.bt_engine_state.proofs.Ties.{no_peer_of, found_at, tied_set, state_set}
use Rattle.bt_engine_state.proofs.peers.feed_buffer.Goals as goal

pub returns-in_default-clause-step : goal.returns-in_default-clause-step
returns-in_default-clause-step g c = no_peer (no_peer_of c.args.parts.now c.args.key c.in_default.ensures.none) refl refl

pub index_mut-peer-requires : goal.index_mut-peer-requires
index_mut-peer-requires g c = c.in-Some.ensures.inside

pub unreachable-requires : goal.unreachable-requires
unreachable-requires g c =
    let old = c.args.parts.now in
    let p = c.index_mut-peer.result.now in
    let at = found_at p c.in-Some.ensures.some c.index_mut-peer.ensures.value in
    let here = get_mapped (peer_of old.book) old.peers.items c.in-Some.index at.0 in
    let orderly = c.requires.orderly.each (peer_of old.book p) (contains_some (state_of old).peers c.in-Some.index here) in
    let refused = rw c.in-Err-Failed.field-0-is at c.in-Err-Failed.ensures.refused in
    let bad : false ≡ true = sym orderly.running ∙ refused in
    cc

pub returns-in-Err-OutOfMemory-clause-step : goal.returns-in-Err-OutOfMemory-clause-step
returns-in-Err-OutOfMemory-clause-step g c =
    let old = c.args.parts.now in
    let p = c.index_mut-peer.result.now in
    let at = found_at p c.in-Some.ensures.some c.index_mut-peer.ensures.value in
    let here = get_mapped (peer_of old.book) old.peers.items c.in-Some.index at.0 in
    no_memory c.in-Some.index (peer_of old.book p) (record { here = here; same_key = at.1 }) refl
    (state_set old c.in-Some.index (record p { cutter = c.feed_buffer.new.self }) c.requires.tied at.0 refl
    ∙ ap (λ (s : Stream). with_peer (state_of old) c.in-Some.index (record (peer_of old.book p) { stream = s })) c.in-Err-OutOfMemory.ensures.kept
    ∙ ap (λ (ps : List PeerState). record (state_of old) { peers = ps }) (set_id (state_of old).peers c.in-Some.index here))

pub returns-in-Err-OutOfMemory-clause-rest : goal.returns-in-Err-OutOfMemory-clause-rest
returns-in-Err-OutOfMemory-clause-rest g c =
    let p = c.index_mut-peer.result.now in
    let at = found_at p c.in-Some.ensures.some c.index_mut-peer.ensures.value in
    record {
      devices = refl;
      torrent = refl;
      log = refl;
      tied = tied_set c.args.parts.now c.in-Some.index (record p { cutter = c.feed_buffer.new.self }) c.requires.tied at.0 refl;
    }

pub returns-in-Ok-clause-step : goal.returns-in-Ok-clause-step
returns-in-Ok-clause-step g c =
    let old = c.args.parts.now in
    let p = c.index_mut-peer.result.now in
    let at = found_at p c.in-Some.ensures.some c.index_mut-peer.ensures.value in
    let here = get_mapped (peer_of old.book) old.peers.items c.in-Some.index at.0 in
    feeds c.in-Some.index (peer_of old.book p) (record { here = here; same_key = at.1 }) refl
    (state_set old c.in-Some.index (record p { cutter = c.feed_buffer.new.self }) c.requires.tied at.0 refl
    ∙ ap (λ (s : Stream). with_peer (state_of old) c.in-Some.index (record (peer_of old.book p) { stream = s })) c.in-Ok.ensures.fed)

pub returns-in-Ok-clause-rest : goal.returns-in-Ok-clause-rest
returns-in-Ok-clause-rest g c =
    let p = c.index_mut-peer.result.now in
    let at = found_at p c.in-Some.ensures.some c.index_mut-peer.ensures.value in
    record {
      devices = refl;
      torrent = refl;
      log = refl;
      tied = tied_set c.args.parts.now c.in-Some.index (record p { cutter = c.feed_buffer.new.self }) c.requires.tied at.0 refl;
    }
