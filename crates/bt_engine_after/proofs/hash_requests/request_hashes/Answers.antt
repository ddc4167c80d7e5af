use Rattle.std.proofs.Common.{refl, ap, sym, ◌∙◌, ◌<◌, subst, arith, length, map}
use Rattle.std.specs.Prelude.{Some, None, slice_get}
use Rattle.std.specs.Vec.{vec_len, with_item}
use Rattle.bt_wire.specs.declared.message.Message.TheVariants.{HashRequest}
use Rattle.bt_machine.specs.State.{EngineState}
use Rattle.bt_machine.proofs.Lists.{some_is}
use Rattle.bt_machine.proofs.Shape.{map_set}
use Rattle.bt_machine.specs.declared.hash_state.HashState.TheVariants.{Asked}
use Rattle.bt_engine_state.specs.Parts.{peer_of, state_of, disks_of}
use Rattle.bt_engine_state.specs.declared.peer.Peer.{Peer}
use Rattle.bt_engine_state.specs.declared.parts.Parts.{Parts}
use Rattle.bt_engine_state.proofs.Lists.{get_read}
use Rattle.bt_engine_state.proofs.Ties.{tied_set}
use Rattle.bt_engine_after.specs.HashRequestsSteps.{AreHashesRequested}
use Rattle.bt_engine_after.proofs.KnownPieces.{state_same, shaped_same}
use Rattle.bt_engine_after.proofs.HashRequests.{sends_none, sends_one}
use Rattle.bt_engine_after.proofs.hash_requests.request_hashes.Goals as goal

pub returns-in_default-clause-requested : goal.returns-in_default-clause-requested
returns-in_default-clause-requested g c =
    let old = c.args.parts.now in
    let p = c.index-peer.result.now in
    let here = get_read old.peers.items c.args.index p c.requires.there c.index-peer.ensures in
    sends_none g.H.NodeHash.digest old c.args.index p c.requires.tied here (λ idle. absurd (c.in_default.not-Idle idle))

pub next_key-requires : goal.next_key-requires
next_key-requires g c = record {
  tied = c.note_known_pieces.ensures.tied;
  shaped = shaped_same c.args.parts.now c.note_known_pieces.new.parts c.note_known_pieces.ensures.others c.requires.shaped;
}

pub returns-in_err-key : goal.returns-in_err-key
returns-in_err-key g c =
    let old = c.args.parts.now in
    let mid = c.note_known_pieces.new.parts in
    let others = c.note_known_pieces.ensures.others in
    let i = c.args.index in
    let there : i < length mid.peers.items = omega (arith, c.requires.there, ap (λ (x : Parts _ _). length x.peers.items) others) in
    let q = c.index.result.now in
    let here = get_read mid.peers.items i q there c.index.ensures in
    record {
      requested = rw c.from_residual.ensures
          (subst (λ (s : EngineState). AreHashesRequested g.H.NodeHash.digest s i None (state_of mid)) (state_same old mid others)
          (sends_none g.H.NodeHash.digest mid i q c.note_known_pieces.ensures.tied here (λ idle. c.in_err-key.ensures.none (peer_of mid.book q) refl)));
      rest = record {
        devices = ap (λ (x : Parts _ _). disks_of x) others;
        torrent = ap (λ (x : Parts _ _). x.torrent) others;
        log = ap (λ (x : Parts _ _). x.log) others;
        tied = c.note_known_pieces.ensures.tied;
      };
      keys = record {
        keys = ap (λ (x : Parts _ _). map (λ (r : Peer). r.key) x.peers.items) others;
        len = ap (λ (x : Parts _ _). vec_len x.peers) others;
      };
    }

pub returns : goal.returns
returns g c =
    let old = c.args.parts.now in
    let mid = c.note_known_pieces.new.parts in
    let others = c.note_known_pieces.ensures.others in
    let i = c.args.index in
    let there : i < length mid.peers.items = omega (arith, c.requires.there, ap (λ (x : Parts _ _). length x.peers.items) others) in
    let p = c.index_mut-peer.result.now in
    let here = get_read mid.peers.items i p there c.index_mut-peer.ensures.value in
    let before = get_read old.peers.items i c.index-peer.result.now c.requires.there c.index-peer.ensures in
    let was = some_is (sym here ∙ ap (λ (x : Parts _ _). slice_get x.peers.items i) others ∙ before) in
    let same = some_is (sym here ∙ get_read mid.peers.items i c.index.result.now there c.index.ensures) in
    let key = c.in_ok-key.key in
    let asked : Peer = record p { hash = Asked key } in
    record {
      requested = subst (λ (s : EngineState). AreHashesRequested g.H.NodeHash.digest s i (Some (HashRequest key)) (state_of (record mid { peers = with_item mid.peers i asked })))
          (state_same old mid others)
          (sends_one g.H.NodeHash.digest mid i p c.note_known_pieces.ensures.tied here key (ap (λ (q : Peer). q.hash) was ∙ c.in-Idle.is)
          (c.in_ok-key.ensures.some (peer_of mid.book p) (ap (λ (q : Peer). q.has) same)));
      rest = record {
        devices = ap (λ (x : Parts _ _). disks_of x) others;
        torrent = ap (λ (x : Parts _ _). x.torrent) others;
        log = ap (λ (x : Parts _ _). x.log) others;
        tied = tied_set mid i asked c.note_known_pieces.ensures.tied here refl;
      };
      keys = record {
        keys = map_set (λ (q : Peer). q.key) mid.peers.items i asked here refl ∙ ap (λ (x : Parts _ _). map (λ (r : Peer). r.key) x.peers.items) others;
        len = ap (λ (x : Parts _ _). vec_len x.peers) others;
      };
    }
