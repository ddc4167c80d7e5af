-- The events of a swarm.
use Rattle.std.specs.Prelude.{◌≡◌, ◌+◌, ◌≤◌, ◌⊎◌, ℕ, true, List, Result, Ok, Contains}
use Rattle.bt_disk.specs.Conduct.{Conduct}
use Rattle.bt_machine.specs.declared.event.Event.{Event}
use Rattle.bt_machine.specs.declared.event.Event.TheVariants.{Adopt, Flush, Restart}
use Rattle.bt_machine.specs.declared.error.FlushError.{FlushError}
use Rattle.bt_machine.specs.declared.event.Answer.{Answer}
use Rattle.bt_machine.specs.declared.event.Answer.TheVariants.{Connected, Flushed}
use Rattle.bt_machine.specs.Report.{all_complete}
use Rattle.bt_machine.specs.State.{PeerState, EngineState, EngineView}
use Rattle.bt_machine.specs.View.{StepsTo}

-- in a swarm no file is taken in, and nothing is begun anew
abbrev pub IsOwn : Event → Type 0
IsOwn (Adopt file) = ⊥
IsOwn Restart = ⊥
IsOwn _ = Unit {0}

-- each of these peers was there before, by its key
abbrev pub AreFrom : EngineState → List PeerState → Type 0
AreFrom old peers = (p : PeerState) → Contains peers p
    → (q : PeerState) × Contains old.peers q × (q.key ≡ p.key)

-- A peer that comes has the next key, and nobody else comes. By no other event somebody comes, and by none a
-- key is taken back.
abbrev pub GivesKey : EngineState → Answer → EngineState → Type 0
GivesKey old (Connected (Ok joined)) new = (joined.0.0 ≡ old.next_key) × (new.next_key ≡ old.next_key + 1)
    × ((p : PeerState) → Contains new.peers p
    → ((q : PeerState) × Contains old.peers q × (q.key ≡ p.key)) ⊎ (p.key ≡ joined.0))
GivesKey old _ new = (old.next_key ≤ new.next_key) × AreFrom old new.peers

-- an event of the machine that happens in a swarm
pub record Steps {D : Type 0} (conduct : Conduct D) (dig : List ℕ → List ℕ) (old : EngineView D)
    (event : Event) (answer : Answer) (new : EngineView D) : Type 0 where
  pub step : StepsTo conduct dig old event answer new
  pub own : IsOwn event
  pub keys : GivesKey old.state answer new.state

-- nothing happened, or a flush
abbrev pub MayBeFlushed : {D : Type 0} → Conduct D → (List ℕ → List ℕ) → EngineView D → EngineView D → Type 0
MayBeFlushed conduct dig old new =
    (new ≡ old) ⊎ ((answer : Result (Unit {0}) FlushError) × Steps conduct dig old Flush (Flushed answer) new)

-- all files are complete
abbrev pub IsComplete : {D : Type 0} → EngineView D → Type 0
IsComplete engine = all_complete engine.state ≡ true
