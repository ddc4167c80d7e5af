-- What holds of the peers of every engine that events lead to, and of what they are asked for.
use Rattle.std.specs.Prelude.{◌≡◌, ◌≢◌, ℕ, ◌<◌, ◌≤◌, false, List, length, Some, Contains}
use Rattle.std.specs.List.{AllPairs}
use Rattle.bt_meta.specs.Torrent.{Metainfo, total_pieces}
use Rattle.bt_store.specs.declared.block_states.BlockState.TheVariants.{Missing}
use Rattle.bt_book.specs.declared.names.BlockId.{BlockId}
use Rattle.bt_book.specs.Book.{max_peers, max_requests, max_askers}
use Rattle.bt_machine.specs.declared.event.Event.{Event}
use Rattle.bt_machine.specs.State.{PeerState, EngineState}
use Rattle.bt_machine.specs.LogCalls.{EventCalls}
use Rattle.bt_machine.specs.Blocks.{state_at, asker_count}
use Rattle.bt_machine.specs.Opening.{Begins}
use Rattle.bt_machine.specs.declared.event.Answer.{Answer}
use Rattle.bt_machine.specs.Step.{Step, Run}

-- Its key was given out, no fault of its stream was answered, and each piece has its bit. It is asked for at
-- most 16 blocks, each once and missing.
pub record IsOrderlyPeer (s : EngineState) (p : PeerState) : Type 0 where
  pub key : p.key.0 < s.next_key
  pub running : p.stream.failed ≡ false
  pub pieces : length p.has ≡ total_pieces s.torrent
  pub few : length p.asked ≤ max_requests
  pub once : AllPairs (λ b c. b ≢ c) p.asked
  pub missing : (b : BlockId) → Contains p.asked b → state_at s b ≡ Some Missing

-- At most 64 peers are connected, in the order of their keys, and no block is asked of more than three.
pub record IsOrderly (s : EngineState) : Type 0 where
  pub few : length s.peers ≤ max_peers
  pub in_order : AllPairs (λ p q. p.key.0 < q.key.0) s.peers
  pub shared : (b : BlockId) → asker_count s b ≤ max_askers
  pub each : (p : PeerState) → Contains s.peers p → IsOrderlyPeer s p

-- an engine begins in order
abbrev pub StartsInOrder : (List ℕ → List ℕ) → Type 0
StartsInOrder dig = (torrent : Metainfo) (first : EngineState) → Begins dig torrent first → IsOrderly first

-- each event keeps an engine in order
abbrev pub StepKeepsOrder : (List ℕ → List ℕ) → Type 0
StepKeepsOrder dig = (old new : EngineState) (event : Event) (calls : EventCalls) (answer : Answer)
    → Step dig old event calls answer new → IsOrderly old → IsOrderly new

-- Every engine that events lead to from the start of a torrent is in order.
abbrev pub RunsAreOrderly : (List ℕ → List ℕ) → Type 0
RunsAreOrderly dig = (torrent : Metainfo) (first last : EngineState)
    (events : List Event) (calls : List EventCalls) (answers : List Answer)
    → Begins dig torrent first → Run dig first events calls answers last → IsOrderly last
