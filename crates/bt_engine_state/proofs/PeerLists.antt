-- The machine's peers, where a peer changes or goes.
use Rattle.bt_machine.proofs.Base.{◌≡◌, ◌≢◌, ℕ, ◌+◌, ◌<◌, inl, inr, List, ◌++◌, map, take, drop, Some, ap, arith, slice_get, slice_set, AllPairs, cases_lt, BlockId}
use Rattle.std.specs.List.{remove}
use Rattle.bt_machine.proofs.Pairs.{to_pairs, pairs_at}
use Rattle.bt_book.specs.Book.{BookState, KeepsOthers}
use Rattle.bt_machine.specs.State.{PeerState}
use Rattle.bt_engine_state.specs.Parts.{peer_of}
use Rattle.bt_engine_state.specs.declared.peer.Peer.{Peer}
use Rattle.bt_engine_state.proofs.Lists.{SeenAlike, map_set, map_remove}

abbrev pub AreInOrder : List Peer → Type 0
AreInOrder peers = AllPairs (λ p q. p.key.0 < q.key.0) peers

pub keys_apart : (peers : List Peer) (i j : ℕ) {p q : Peer} → AreInOrder peers → slice_get peers i ≡ Some p → slice_get peers j ≡ Some q
    → j ≢ i → q.key.0 ≢ p.key.0
keys_apart peers i j {p} {q} in_order here there apart same =
    let pairs = to_pairs (λ p q. p.key.0 < q.key.0) peers in_order in
    elim (cases_lt i j) [
      | inl lt ↦ (let up = pairs_at (λ p q. p.key.0 < q.key.0) peers i j pairs here there lt in absurd (omega arith))
      | inr le ↦ elim (cases_lt j i) [
        | inl lt ↦ (let up = pairs_at (λ p q. p.key.0 < q.key.0) peers j i pairs there here lt in absurd (omega arith))
        | inr ge ↦ absurd (apart (omega arith))
      ]
    ]

-- a book keeps what all others are asked for
module _ (old new : BookState) (peers : List Peer) (i : ℕ) {p : Peer} (in_order : AreInOrder peers) (here : slice_get peers i ≡ Some p)
    (others : KeepsOthers old new p.key) where
  others_alike : SeenAlike (peer_of old) (peer_of new) peers i
  others_alike = λ j q apart there. ap {A = List BlockId} {B = PeerState} (λ asked. record (peer_of old q) { asked = asked })
      (others q.key (keys_apart peers i j in_order here there apart))

  -- the peer at i is another now, of the same key
  pub peers_set : (next : Peer) → map (peer_of new) (slice_set peers i next) ≡ slice_set (map (peer_of old) peers) i (peer_of new next)
  peers_set next = map_set (peer_of old) (peer_of new) peers i next others_alike

  -- it has gone
  pub peers_removed : map (peer_of new) (remove peers i) ≡ take i (map (peer_of old) peers) ++ drop (i + 1) (map (peer_of old) peers)
  peers_removed = map_remove (peer_of old) (peer_of new) peers i others_alike
