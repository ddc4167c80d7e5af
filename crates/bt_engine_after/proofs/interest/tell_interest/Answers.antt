use Rattle.std.proofs.Common.{refl, ap, sym, ◌∙◌}
use Rattle.bt_machine.proofs.Lists.{some_is}
use Rattle.bt_machine.proofs.Shape.{map_set}
use Rattle.bt_engine_state.specs.Parts.{peer_of}
use Rattle.bt_engine_state.specs.declared.peer.Peer.{Peer}
use Rattle.bt_engine_state.proofs.Lists.{get_mapped, get_read}
use Rattle.bt_engine_state.proofs.Ties.{tied_set, state_set}
use Rattle.bt_engine_after.proofs.interest.tell_interest.Goals as goal

pub returns-clause-told : goal.returns-clause-told
returns-clause-told g c =
    let old = c.args.parts.now in
    let i = c.args.index in
    let p = c.index_mut-peer.result.now in
    let here = get_read old.peers.items i p c.requires.there c.index_mut-peer.ensures.value in
    let same = some_is (sym here ∙ get_read old.peers.items i c.index.result.now c.requires.there c.index.ensures) in
    record {
      peer = peer_of old.book p;
      after = record (peer_of old.book p) { am_interested = c.is_interesting-interested.result };
      here = get_mapped (peer_of old.book) old.peers.items i here;
      tells = record {
        interest = c.is_interesting-interested.ensures (peer_of old.book p) (ap (λ (q : Peer). q.has) same);
        others = refl;
        told = c.change_of_interest.ensures (peer_of old.book p);
      };
      now = state_set old i (record p { am_interested = c.is_interesting-interested.result }) c.requires.tied here refl;
    }

pub returns-clause-rest : goal.returns-clause-rest
returns-clause-rest g c =
    let old = c.args.parts.now in
    let p = c.index_mut-peer.result.now in
    let here = get_read old.peers.items c.args.index p c.requires.there c.index_mut-peer.ensures.value in
    record {
      devices = refl;
      torrent = refl;
      log = refl;
      tied = tied_set old c.args.index (record p { am_interested = c.is_interesting-interested.result }) c.requires.tied here refl;
    }

pub returns-clause-keys : goal.returns-clause-keys
returns-clause-keys g c =
    let peers = c.args.parts.now.peers.items in
    let p = c.index_mut-peer.result.now in
    record {
      keys = map_set (λ (q : Peer). q.key) peers c.args.index (record p { am_interested = c.is_interesting-interested.result })
          (get_read peers c.args.index p c.requires.there c.index_mut-peer.ensures.value) refl;
      len = refl;
    }
