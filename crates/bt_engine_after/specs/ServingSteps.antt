-- Who is served, by the keys of the peers that are chosen.
use Rattle.std.specs.Prelude.{[], ◌≡◌, ℕ, ◌==◌, Bool, not, List, ◌∷◌, ◌++◌, length, Option}
use Rattle.std.specs.List.{list_any, range_with_len}
use Rattle.std.specs.Option.{option_map_or}
use Rattle.bt_book.specs.Book.{BookState}
use Rattle.bt_book.specs.declared.names.PeerKey.{PeerKey}
use Rattle.bt_book.specs.declared.choking.Standing.{Standing}
use Rattle.bt_wire.specs.declared.message.Message.{Message}
use Rattle.bt_machine.specs.State.{PeerState, EngineState}
use Rattle.bt_machine.specs.Output.{Sent, sent_to}
use Rattle.bt_machine.specs.Rechoke.{choking_sent, FollowsEach}
use Rattle.bt_engine_state.specs.Parts.{peer_of}
use Rattle.bt_engine_state.specs.declared.peer.Peer.{Peer}

-- by which a peer is chosen
abbrev pub standing_at : Peer → Standing
standing_at p = record { peer = p.key; interested = p.peer_interested; bytes = p.payload }

abbrev pub is_served : List PeerKey → Peer → Bool
is_served served p = list_any (λ k. k.0 == p.key.0) served

-- the peer, served or not from now on, with nothing counted yet
abbrev pub served_peer : List PeerKey → Peer → Peer
served_peer served p = record p { am_choking = not (is_served served p); payload = 0 }

-- what it is sent where that changes
abbrev pub served_sent : BookState → List PeerKey → Peer → List Sent
served_sent book served p = choking_sent (peer_of book p) p.am_choking (is_served served p)

-- the message is sent to the peer, where there is one
abbrev pub message_sent : PeerState → Option Message → List Sent
message_sent p message = option_map_or (λ m. sent_to p m ∷ []) message []

-- what follows for each peer is sent after the frames before, in the order of keys
pub record SendsAllFollowUps (dig : List ℕ → List ℕ) (s : EngineState) (before after : List Sent)
    (new : EngineState) : Type 0 where
  pub sent : List Sent
  pub follows : FollowsEach dig (range_with_len 0 (length s.peers)) s sent new
  pub behind : after ≡ before ++ sent
