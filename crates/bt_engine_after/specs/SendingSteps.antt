-- Frames of a peer that are put after those that are to be sent.
use Rattle.std.specs.Prelude.{[], ◌≡◌, List, ◌∷◌, ◌++◌, Option}
use Rattle.std.specs.Option.{option_map_or}
use Rattle.bt_meta.specs.Torrent.{Metainfo}
use Rattle.bt_book.specs.declared.names.PeerKey.{PeerKey}
use Rattle.bt_book.specs.declared.names.BlockId.{BlockId}
use Rattle.bt_wire.specs.declared.message.Message.{Message}
use Rattle.bt_machine.specs.declared.answer.Frame.TheVariants.{Message as message_frame}
use Rattle.bt_machine.specs.State.{PeerState, EngineState}
use Rattle.bt_machine.specs.Output.{Sent}
use Rattle.bt_machine.specs.FollowUp.{RequestsEach}

-- the message for the peer of this key, where there is one
abbrev pub frames_of : PeerKey → Option Message → List Sent
frames_of key message = option_map_or (λ m. (key, message_frame m) ∷ []) message []

-- a request of each block is sent to the peer of this key, after what was sent before
pub record AreRequestsSent (torrent : Metainfo) (key : PeerKey) (blocks : List BlockId)
    (before after : List Sent) : Type 0 where
  pub sent : List Sent
  pub requests : (s : EngineState) (p : PeerState) → s.torrent ≡ torrent → p.key ≡ key
      → RequestsEach s p blocks sent
  pub behind : after ≡ before ++ sent
