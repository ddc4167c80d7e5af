-- Peers that are tried one after the other, until the engine is complete.
use Rattle.std.specs.Prelude.{[], ℕ, ◌≡◌, ◌+◌, ◌⊎◌, true, false, List, ◌∷◌, length, replicate, Option, IfSome, Result, Ok, Err}
use Rattle.bt_disk.specs.Conduct.{Conduct}
use Rattle.bt_machine.specs.declared.error.FlushError.{FlushError}
use Rattle.bt_machine.specs.Report.{all_complete}
use Rattle.bt_machine.specs.State.{EngineView}
use Rattle.bt_session.specs.declared.end.SessionEnd.TheVariants.{ReadFault}
use Rattle.bt_session.specs.declared.peer_end.PeerEnd.{PeerEnd}
use Rattle.bt_session.specs.declared.peer_end.PeerEnd.TheVariants.{Untried, Session}
use Rattle.bt_session.specs.declared.flushing.Flushing.{Flushing}
use Rattle.bt_session.specs.Failures.{OnlyAfterFailure}
use Rattle.bt_session.specs.Link.{failure_count}
use Rattle.bt_session.specs.Peer.{EndsAs, IsCutShort}

-- A link was dialled once, and reached its peer by a reader and a writer, or did not.
pub record IsDialled {L R W : Type 0} (dials failures : L → ℕ) (gives : L → R → W → Type 0) (old : L)
    (reached : Option (R × W)) (new : L) : Type 0 where
  pub once : dials new ≡ dials old + 1
  pub failed : failures new ≡ failures old + failure_count reached
  pub given : IfSome reached (λ ways. gives old ways.0 ways.1)

-- A peer is tried: its link is dialled once; where that reaches it, it has a session until the engine is
-- complete, of at most this many turns. And what the last flush answered: Ok where there was none.
pub record IsTried {D L R W : Type 0} (conduct : Conduct D)
    (dig : List ℕ → List ℕ) (dials failures : L → ℕ) (gives : L → R → W → Type 0)
    (remaining : R → Option (List ℕ)) (contents : W → Option (List ℕ)) (flushing : Flushing) (turns : ℕ)
    (old : EngineView D) (link : L) (end : PeerEnd) (answer : Result (Unit {0}) FlushError) (after : L)
    (new : EngineView D) : Type 0 where
  pub reached : Option (R × W)
  pub dialled : IsDialled dials failures gives link reached after
  pub ended : EndsAs conduct dig remaining contents true flushing turns reached old end answer new

-- The same of a peer of which a fault of its reader is told only where a reader failed, or where its session
-- was cut short by a flush.
pub record IsTriedAndTold {D L R W : Type 0} (read_failed : Type 0) (conduct : Conduct D)
    (dig : List ℕ → List ℕ) (dials failures : L → ℕ) (gives : L → R → W → Type 0)
    (remaining : R → Option (List ℕ)) (contents : W → Option (List ℕ)) (flushing : Flushing) (turns : ℕ)
    (old : EngineView D) (link : L) (end : PeerEnd) (answer : Result (Unit {0}) FlushError) (after : L)
    (new : EngineView D) : Type 0 where
  pub tried : IsTried conduct dig dials failures gives remaining contents flushing turns old link end answer
      after new
  pub read_fault : OnlyAfterFailure (Session ReadFault) (read_failed ⊎ IsCutShort conduct dig remaining
      contents true flushing turns answer tried.reached old new) end

-- what is said of one peer: of the engine and its link, its end and what the last flush answered, and both
-- afterwards
abbrev pub Trial : (D L : Type 0) → Type 1
Trial D L = EngineView D → L → PeerEnd → Result (Unit {0}) FlushError → L → EngineView D → Type 0

-- One after the other is tried, as long as one is left, the engine is not complete, and no flush was refused. The
-- links after them are as they were, and their ends are Untried.
pub data InTurn {D L : Type 0} (Try : Trial D L)
    : EngineView D → List L → List PeerEnd → List L → Result (Unit {0}) FlushError → EngineView D
    → Type 0 where
  none_left : (engine : EngineView D) → InTurn Try engine [] [] [] (Ok tt) engine
  complete : (engine : EngineView D) (links : List L) → all_complete engine.state ≡ true
      → InTurn Try engine links (replicate (length links) Untried) links (Ok tt) engine
  tried : (old mid new : EngineView D) (link after : L) (end : PeerEnd) (links rest : List L)
      (ends : List PeerEnd) (answer : Result (Unit {0}) FlushError) → all_complete old.state ≡ false
      → Try old link end (Ok tt) after mid → InTurn Try mid links ends rest answer new
      → InTurn Try old (link ∷ links) (end ∷ ends) (after ∷ rest) answer new
  stopped : (old new : EngineView D) (link after : L) (end : PeerEnd) (links : List L) (error : FlushError)
      → all_complete old.state ≡ false → Try old link end (Err error) after new
      → InTurn Try old (link ∷ links) (end ∷ replicate (length links) Untried) (after ∷ links)
      (Err error) new
