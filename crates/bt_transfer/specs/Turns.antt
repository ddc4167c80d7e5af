-- Peers that are tried in turn, until all files are complete, or a fault ends it.
use Rattle.std.specs.Prelude.{[], ℕ, ◌≡◌, true, false, List, ◌∷◌, length, replicate, Option, Result, Ok, Err}
use Rattle.bt_disk.specs.Conduct.{Conduct}
use Rattle.bt_check.specs.declared.fault.Fault.{Fault}
use Rattle.bt_files.specs.Store.{flush_fault}
use Rattle.bt_files.specs.Waiting.{StopsAtWaiting, TakesInAllWaiting}
use Rattle.bt_machine.specs.Report.{all_complete}
use Rattle.bt_machine.specs.declared.error.FlushError.{FlushError}
use Rattle.bt_machine.specs.declared.event.Event.TheVariants.{Flush}
use Rattle.bt_machine.specs.declared.event.Answer.TheVariants.{Flushed}
use Rattle.bt_machine.specs.State.{EngineView}
use Rattle.bt_machine.specs.View.{StepsTo}
use Rattle.bt_session.specs.Peers.{IsTried, Trial}
use Rattle.bt_session.specs.declared.flushing.Flushing.{Flushing}
use Rattle.bt_session.specs.declared.peer_end.PeerEnd.{PeerEnd}
use Rattle.bt_session.specs.declared.peer_end.PeerEnd.TheVariants.{Untried, Session}

-- ---- links

-- What is known of the links of a kind: how often one was dialled, how often that failed, and which reader and writer a
-- dial of it may give; of such a reader, the bytes that are left to it; and of such a writer, those that it was given.
pub record LinkConduct (L R W : Type 0) : Type 1 where
  pub dials : L → ℕ
  pub failures : L → ℕ
  pub gives : L → R → W → Type 0
  pub remaining : R → Option (List ℕ)
  pub contents : W → Option (List ℕ)

abbrev pub link_conduct : {L R W : Type 0} → (dials failures : L → ℕ) → (gives : L → R → W → Type 0)
    → (remaining : R → Option (List ℕ)) → (contents : W → Option (List ℕ)) → LinkConduct L R W
link_conduct dials failures gives remaining contents =
    record { dials = dials; failures = failures; gives = gives; remaining = remaining; contents = contents }

-- ---- one peer

-- what a flush answered, as it is told
abbrev pub told_as : Result (Unit {0}) FlushError → Result (Unit {0}) Fault
told_as (Ok done) = Ok done
told_as (Err error) = Err (flush_fault error)

-- what is said of one peer: of the engine and its link, its end, whether a fault ends all with it, and both afterwards
abbrev pub Turn : (D L : Type 0) → Type 1
Turn D L = EngineView D → L → PeerEnd → Result (Unit {0}) Fault → L → EngineView D → Type 0

module _ {D : Type 0} (conduct : Conduct D) (dig : List ℕ → List ℕ) where
  -- Behind a session each file is taken in of which a piece may be whole but for its marks. Where there was no
  -- session nothing is done.
  abbrev pub TakesInBehind : PeerEnd → EngineView D → EngineView D → Type 0
  TakesInBehind (Session end) old new = TakesInAllWaiting conduct dig old new
  TakesInBehind _ old new = new ≡ old

  -- Files are taken in behind such an end, and then there is a flush: its answer is told. Or one could not be
  -- taken in: then its fault is told, whatever a flush answers that comes all the same, so that what was taken
  -- in before it is kept.
  pub data TakesInAndSyncs (end : PeerEnd) (old : EngineView D) (answer : Result (Unit {0}) Fault)
      (new : EngineView D) : Type 0 where
    all_taken_in : (taken : EngineView D) (flushed : Result (Unit {0}) FlushError)
        → TakesInBehind end old taken → StepsTo conduct dig taken Flush (Flushed flushed) new
        → answer ≡ told_as flushed → TakesInAndSyncs end old answer new
    not_taken_in : (stopped : EngineView D) (fault : Fault) (flushed : Result (Unit {0}) FlushError)
        → StopsAtWaiting conduct dig old fault stopped → StepsTo conduct dig stopped Flush (Flushed flushed) new
        → answer ≡ Err fault → TakesInAndSyncs end old answer new

  module _ {L R W : Type 0} (kind : LinkConduct L R W) (flushing : Flushing) (turns : ℕ) where
    -- A peer is tried by a link of this kind, in a session of at most so many turns, and flushed in it and right behind
    -- it, or never.
    abbrev pub Tries : Trial D L
    Tries = IsTried conduct dig kind.dials kind.failures kind.gives kind.remaining kind.contents
        flushing turns

    -- A peer is tried so, no flush was refused, and what came without its hashes is taken in. Or a flush was
    -- refused: that is told, and nothing came after it.
    pub data TriesAndTakesIn (old : EngineView D) (link : L) (end : PeerEnd)
        (answer : Result (Unit {0}) Fault) (after : L) (new : EngineView D) : Type 0 where
      behind : (met : EngineView D) → Tries old link end (Ok tt) after met
          → TakesInAndSyncs end met answer new → TriesAndTakesIn old link end answer after new
      cut_short : (error : FlushError) → Tries old link end (Err error) after new
          → answer ≡ told_as (Err error) → TriesAndTakesIn old link end answer after new

-- ---- one after the other

-- One after the other is tried, as long as one is left, the engine is not complete, and no fault ends it. The links
-- after them are as they were, and their ends are Untried.
pub data InTurnOrStopped {D L : Type 0} (Try : Turn D L)
    : EngineView D → List L → List PeerEnd → List L → Result (Unit {0}) Fault → EngineView D → Type 0 where
  none_left : (engine : EngineView D) → InTurnOrStopped Try engine [] [] [] (Ok tt) engine
  complete : (engine : EngineView D) (links : List L) → all_complete engine.state ≡ true
      → InTurnOrStopped Try engine links (replicate (length links) Untried) links (Ok tt) engine
  tried : (old mid new : EngineView D) (link after : L) (end : PeerEnd) (links rest : List L)
      (ends : List PeerEnd) (answer : Result (Unit {0}) Fault) → all_complete old.state ≡ false
      → Try old link end (Ok tt) after mid → InTurnOrStopped Try mid links ends rest answer new
      → InTurnOrStopped Try old (link ∷ links) (end ∷ ends) (after ∷ rest) answer new
  stopped : (old new : EngineView D) (link after : L) (end : PeerEnd) (links : List L) (fault : Fault)
      → all_complete old.state ≡ false → Try old link end (Err fault) after new
      → InTurnOrStopped Try old (link ∷ links) (end ∷ replicate (length links) Untried) (after ∷ links)
      (Err fault) new
