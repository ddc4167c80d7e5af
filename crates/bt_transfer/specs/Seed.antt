-- What a seed comes to.
use Rattle.std.specs.Prelude.{◌≡◌, ◌≢◌, ℕ, ◌-◌, ◌^◌, ◌++◌, ◌⊎◌, Bool, true, false, List, Ok, Option, codes}
use Rattle.std.specs.Borrow.{Bor}
use Rattle.std.specs.Fmt.{decimal}
use Rattle.std.specs.Io.KnownBytes.{Appends}
use Rattle.bt_check.specs.Display.{line_text}
use Rattle.bt_check.specs.declared.fault.Fault.{Fault}
use Rattle.bt_disk.specs.Conduct.{Conduct}
use Rattle.bt_resume.specs.ResumeLog.{LogView}
use Rattle.bt_machine.specs.declared.event.Event.TheVariants.{Flush}
use Rattle.bt_machine.specs.declared.event.Answer.TheVariants.{Flushed}
use Rattle.bt_machine.specs.Opening.{BeginsOn}
use Rattle.bt_machine.specs.State.{EngineView}
use Rattle.bt_machine.specs.View.{StepsTo}
use Rattle.bt_meta.specs.Torrent.{Metainfo}
use Rattle.bt_engine.specs.WholeRuns.{HasWholeRun}
use Rattle.bt_files.specs.DataFiles.{DeviceView}
use Rattle.bt_files.specs.OpenFolder.{IsCallFault}
use Rattle.bt_files.specs.Report.{engine_report}
use Rattle.bt_files.specs.declared.file_use.FileUse.{FileUse}
use Rattle.bt_files.specs.declared.file_use.FileUse.TheVariants.{ReadOnly, Seed}
use Rattle.bt_machine.specs.Report.{all_complete}
use Rattle.bt_transfer.specs.Connections.{FailsToServe, HasServed, MeetsAndSyncs}
use Rattle.bt_files.specs.Loading.{IsLoaded}
use Rattle.bt_together.specs.Together.{FailsAtOnce, HasServedTogether}
use Rattle.bt_words.specs.declared.peer.Service.{Service}
use Rattle.bt_words.specs.declared.peer.Serving.{Serving}
use Rattle.bt_words.specs.declared.peer.Serving.TheVariants.{Count, Together, Forever}

-- the port at which connections are waited for
abbrev pub listening_line : ℕ → List ℕ
listening_line port = line_text (codes "listening " ++ decimal port)

-- where a listener listens that was asked for a port: there, or with 0 at some port
abbrev pub IsPortFor : (asked port : ℕ) → Type 0
IsPortFor asked port = asked ≢ 0 → port ≡ asked

module _ {D : Type 0} (conduct : Conduct D) (dig : List ℕ → List ℕ) where
  -- As many connections were served as is said: one after the other, and after each all devices were synced; or at
  -- once. Where no count is given, they were all that can be numbered.
  abbrev pub Serves : Serving → EngineView D → (before after : Option (List ℕ)) → EngineView D → Type 0
  Serves (Count count) old before after new = HasServed (MeetsAndSyncs conduct dig) count old before after new
  Serves (Together count) old before after new = HasServedTogether conduct dig count old before after new
  Serves Forever old before after new = HasServedTogether conduct dig (2 ^ 64 - 1) old before after new

  -- As many were served as is said, and all devices were synced at the end: also where it was none.
  pub record HasServedAll (serving : Serving) (old : EngineView D) (before after : Option (List ℕ))
      (new : EngineView D) : Type 0 where
    pub mid : EngineView D
    pub served : Serves serving old before after mid
    pub synced : StepsTo conduct dig mid Flush (Flushed (Ok tt)) new

  -- the port of a listener was told, as the service asks for one, and then connections were served
  pub record HasListened (service : Service) (old : EngineView D) (before after : Option (List ℕ))
      (new : EngineView D) : Type 0 where
    pub port : ℕ
    pub told : Option (List ℕ)
    pub listening : Appends before told (listening_line port)
    pub served : HasServedAll service.serving old told after new
    pub asked : IsPortFor service.port port

  -- serving fails, one after the other or at once
  abbrev pub FailsServing : EngineView D → Fault → EngineView D → Type 0
  FailsServing old fault new = FailsToServe conduct dig old fault new ⊎ FailsAtOnce conduct dig old fault

  -- a seed fails: before it serves, by a call, and the engine is as it was; or as it serves
  abbrev pub FailsToSeed : EngineView D → Fault → EngineView D → Type 0
  FailsToSeed old fault new = ((new ≡ old) × IsCallFault fault) ⊎ FailsServing old fault new

-- An engine that began so, with a torrent, and with a log or without, and has come to `old`, served
-- connections, and the status is 0. The whole, from its start on, is a run as promised: what it sent was cut
-- from blocks whose digests lie at their leaves, on checked paths to their files' roots, and each block that
-- is marked is so by such bytes.
pub record EndsSeed {D : Type 0} {conduct : Conduct D}
    {dig : List ℕ → List ℕ} {torrent : Metainfo} {placed : List (Option D)} {attached : Option (LogView D)}
    {first : EngineView D} (begins : BeginsOn conduct dig torrent placed attached first)
    (old : EngineView D) (service : Service) (before after : Option (List ℕ)) (status : ℕ) : Type 0 where
  pub last : EngineView D
  pub listened : HasListened conduct dig service old before after last
  pub whole : HasWholeRun begins last
  pub done : status ≡ 0

-- what a seed opens its files for
abbrev pub seed_use : Bool → FileUse
seed_use true = ReadOnly
seed_use false = Seed

-- The store of a torrent of some text was opened in a folder, with a log where the path of one is given, the
-- port is told, and connections were served. Where files are only read, all were complete.
pub record HasSeeded (is_info : Bool) (dir : List ℕ) (service : Service) (log : Option (Bor (List ℕ)))
    (before after : Option (List ℕ)) (status : ℕ) : Type 0 where
  pub store : EngineView DeviceView
  pub loaded : IsLoaded is_info (seed_use service.is_read_only) dir log store
  pub complete : service.is_read_only ≡ true → all_complete store.state ≡ true
  pub ended : EndsSeed loaded.opened.begun.begins store service before after status

-- The store was opened to be read, not all files are complete, and nothing but this was told; the status is
-- 1.
pub record HasNotSeeded (is_info : Bool) (dir : List ℕ) (service : Service) (log : Option (Bor (List ℕ)))
    (before after : Option (List ℕ)) (status : ℕ) : Type 0 where
  pub store : EngineView DeviceView
  pub loaded : IsLoaded is_info (seed_use service.is_read_only) dir log store
  pub read_only : service.is_read_only ≡ true
  pub lacking : all_complete store.state ≡ false
  pub told : Appends before after (engine_report store.state)
  pub answer : status ≡ 1

-- one of the two
abbrev pub IsSeed : Bool → List ℕ → Service → (log : Option (Bor (List ℕ))) → (before after : Option (List ℕ))
    → (status : ℕ) → Type 0
IsSeed is_info dir service log before after status =
    HasSeeded is_info dir service log before after status
    ⊎ HasNotSeeded is_info dir service log before after status
