use Rattle.std.proofs.Common.{refl, ap, sym, ◌∙◌, List, map, ◌<◌}
use Rattle.std.proofs.lemmas.List.Quantifiers.{all_pairs_remove}
use Rattle.bt_machine.proofs.Lists.{some_below}
use Rattle.bt_machine.specs.State.{PeerState}
use Rattle.bt_machine.specs.Peers.{goes, no_peer}
use Rattle.bt_book.specs.Book.{BookState}
use Rattle.bt_engine_state.specs.Parts.{state_of, peer_of}
use Rattle.bt_engine_state.specs.declared.peer.Peer.{Peer}
use Rattle.bt_engine_state.proofs.PeerLists.{peers_removed}
use Rattle.bt_engine_state.proofs.Ties.{no_peer_of, peer_at, tied_again, keys_left}
use Rattle.bt_engine_state.proofs.peers.lost.Goals as goal

pub returns-in_default-clause-step : goal.returns-in_default-clause-step
returns-in_default-clause-step g c = no_peer (no_peer_of c.args.parts.now c.args.key c.in_default.ensures.none) refl refl

pub remove-requires : goal.remove-requires
remove-requires g c = c.in-Some.ensures.inside

pub returns-clause-step : goal.returns-clause-step
returns-clause-step g c =
    let old = c.args.parts.now in
    let at = c.in-Some.ensures.some in
    goes c.in-Some.index (peer_of old.book at.peer) (peer_at old at) refl
    (ap (λ (ps : List PeerState). record (state_of old) { peers = ps })
    (ap (λ (ps : List Peer). map (peer_of c.lost.new.self) ps) c.remove.ensures.items
    ∙ peers_removed old.book c.lost.new.self old.peers.items c.in-Some.index c.requires.in_order at.here
    (λ k apart. c.lost.ensures.others k (λ same. apart (same ∙ sym (ap (λ k. k.0) at.same_key))))))

pub returns-clause-rest : goal.returns-clause-rest
returns-clause-rest g c =
    let old = c.args.parts.now in
    let at = c.in-Some.ensures.some in
    record {
      devices = refl;
      torrent = refl;
      log = refl;
      tied = tied_again old _ c.requires refl refl refl refl refl refl (ap (λ (b : BookState). b.wanted) c.lost.ensures.now)
          (ap (λ (ps : List Peer). map (λ p. p.key) ps) c.remove.ensures.items
          ∙ keys_left old.peers.items old.book.peers c.args.key c.in-Some.index c.requires.joined at.here at.same_key (c.keeps_laws.ensures.once c.args.key)
          ∙ ap (λ (b : BookState). map (λ r. r.peer) b.peers) (sym c.lost.ensures.now))
          (rw c.remove.ensures.items (all_pairs_remove (λ (p q : Peer). p.key.0 < q.key.0) old.peers.items c.in-Some.index (some_below _ _ at.here) c.requires.in_order))
          (rw c.remove.ensures.capacity c.requires.room);
    }
