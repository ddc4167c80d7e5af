-- Many connections at once: what serving them comes to, and what fetching from them does.
use Rattle.std.specs.Prelude.{⊤, ◌≡◌, ◌≤◌, ◌==◌, ◌⊎◌, ℕ, true, List, [], length, Option, Ok, Err, All}
use Rattle.std.specs.Io.KnownBytes.{Appends}
use Rattle.std.specs.List.{count_by}
use Rattle.bt_disk.specs.Conduct.{Conduct}
use Rattle.bt_check.specs.declared.fault.Fault.{Fault}
use Rattle.bt_files.specs.OpenFolder.{IsCallFault}
use Rattle.bt_files.specs.Store.{flush_fault}
use Rattle.bt_files.specs.Waiting.{TakesInAllWaiting}
use Rattle.bt_machine.specs.declared.error.FlushError.{FlushError}
use Rattle.bt_machine.specs.declared.event.Event.TheVariants.{Flush}
use Rattle.bt_machine.specs.declared.event.Answer.TheVariants.{Flushed}
use Rattle.bt_machine.specs.State.{EngineView}
use Rattle.bt_machine.specs.View.{StepsTo}
use Rattle.bt_engine.specs.Leads.{LeadsTo}
use Rattle.bt_session.specs.declared.end.SessionEnd.{SessionEnd}
use Rattle.bt_swarm.specs.Passing.{Passing}
use Rattle.bt_swarm.specs.Steps.{MayBeFlushed}
use Rattle.bt_swarm.specs.Swarm.{HasSwarmed, IsOver}
use Rattle.bt_together.specs.Seating.{gone_in, nobody}
use Rattle.bt_together.specs.ServedLines.{gone_lines}

-- ---- what swarms through

-- what is said of connections that come to an engine and go, all at once: of the engine before, of who came and went, and
-- of the engine afterwards
abbrev pub Swarming : (D : Type 0) → Type 1
Swarming D = EngineView D → List Passing → EngineView D → Type 0

-- Each gave just the bytes that were fed as its own, in their order, and was sent the frames that were for it; and each
-- has gone. A connection is known by the bytes that it gave and took alone.
abbrev pub Swarms : {D : Type 0} → Conduct D → (List ℕ → List ℕ) → Swarming D
Swarms conduct dig old passed new =
    HasSwarmed conduct dig ⊤ ⊤ (λ given taken. ⊤) (λ (bytes : Option (List ℕ)). bytes)
    (λ (bytes : Option (List ℕ)). bytes) old passed new []

-- ---- why it fails

-- Events led on to a flush that was refused, and this fault tells of it.
pub record IsRefusedFlush {D : Type 0} (conduct : Conduct D) (dig : List ℕ → List ℕ) (old : EngineView D)
    (fault : Fault) : Type 0 where
  pub mid : EngineView D
  pub led : LeadsTo conduct dig old mid
  pub error : FlushError
  pub last : EngineView D
  pub refused : StepsTo conduct dig mid Flush (Flushed (Err error)) last
  pub told : fault ≡ flush_fault error

-- a call failed, or a flush was refused
abbrev pub FailsAtOnce : {D : Type 0} → Conduct D → (List ℕ → List ℕ) → EngineView D → Fault → Type 0
FailsAtOnce conduct dig old fault = IsCallFault fault ⊎ IsRefusedFlush conduct dig old fault

-- ---- connections that are served

-- the numbers of these are from 1 to `count`, and none is there twice
pub record AreOfCount (count : ℕ) (ends : List (ℕ × SessionEnd)) : Type 0 where
  pub within : All (λ p. (1 ≤ p.0) × (p.0 ≤ count)) ends
  pub once : (number : ℕ) → 1 ≤ number → count_by (λ p. p.0 == number) ends ≤ 1

-- So many came, numbered as they did, and went: a line tells of each, in the order of going. Then all was put on the
-- devices.
pub record HasServedTogether {D : Type 0} (conduct : Conduct D) (dig : List ℕ → List ℕ) (count : ℕ)
    (old : EngineView D) (before after : Option (List ℕ)) (new : EngineView D) : Type 0 where
  pub passed : List Passing
  pub mid : EngineView D
  pub swarmed : Swarms conduct dig old passed mid
  pub counted : length (gone_in nobody passed) ≡ count
  pub numbers : AreOfCount count (gone_in nobody passed)
  pub lines : Appends before after (gone_lines (gone_in nobody passed))
  pub synced : StepsTo conduct dig mid Flush (Flushed (Ok tt)) new

-- ---- peers that are fetched from

-- All were fetched from at once, until all files were complete or nobody was to come any more; then what came without its
-- hashes is taken in.
pub record SwarmsAndTakesIn {D : Type 0} (conduct : Conduct D) (dig : List ℕ → List ℕ) (is_shut : Type 0)
    (waits : ℕ) (old new : EngineView D) : Type 0 where
  pub passed : List Passing
  pub mid : EngineView D
  pub swarmed : Swarms conduct dig old passed mid
  pub over : IsOver (MayBeFlushed conduct dig) true mid is_shut waits
  pub taken_in : TakesInAllWaiting conduct dig mid new
