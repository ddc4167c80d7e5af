-- What the lines after a torrent's devices come to: events of its engine, and reports.
use Rattle.std.specs.Prelude.{[], ◌≡◌, ◌≢◌, ℕ, List, ◌∷◌, ◌++◌, Option, Some, None, replicate, take}
use Rattle.bt_disk.specs.Conduct.{Conduct}
use Rattle.bt_meta.specs.Torrent.{Metainfo}
use Rattle.bt_wire.specs.Handshake.{handshake_spelling}
use Rattle.bt_machine.specs.declared.event.Event.{Event}
use Rattle.bt_machine.specs.declared.event.Event.TheVariants.{Connect as connect, Feed as feed, Next as next, Lost as lost, Rechoke as rechoke, Adopt as adopt, Flush as flush, Restart as restart}
use Rattle.bt_machine.specs.declared.event.Answer.{Answer}
use Rattle.bt_machine.specs.State.{EngineView}
use Rattle.bt_machine.specs.View.{StepsTo}
use Rattle.bt_replay.specs.Answer.{answer_text, report_text}
use Rattle.bt_replay.specs.Line.{Spells, SpellsNone}
use Rattle.bt_replay.specs.declared.line.Line.{Line}
use Rattle.bt_replay.specs.declared.line.Line.TheVariants.{Connect, Hello, Feed, Next, Lost, Rechoke, Adopt, Flush, Restart, Report}

-- the handshake that a peer of a script sends: the torrent's, with the peer's id of twenty `p`
abbrev pub peer_handshake : Metainfo → List ℕ
peer_handshake torrent =
    handshake_spelling (record { infohash = take 20 torrent.infohash; peer_id = replicate 20 112 })

-- the event that a line asks for; `hello` feeds the handshake
abbrev pub event_of : (handshake : List ℕ) → Line → Option Event
event_of handshake Connect = Some connect
event_of handshake (Hello key) = Some (feed key handshake)
event_of handshake (Feed key bytes) = Some (feed key bytes)
event_of handshake (Next key) = Some (next key)
event_of handshake (Lost key) = Some (lost key)
event_of handshake Rechoke = Some rechoke
event_of handshake (Adopt file) = Some (adopt file)
event_of handshake Flush = Some flush
event_of handshake Restart = Some restart
event_of handshake _ = None

-- a line asks for an event or a report: from the old engine it led to the new one, and this text tells of it
pub data Does {D : Type 0} (conduct : Conduct D)
    (dig : List ℕ → List ℕ) (handshake : List ℕ) (old : EngineView D) (line : Line) (text : List ℕ)
    (new : EngineView D) : Type 0 where
  does_event : (event : Event) (answer : Answer) → event_of handshake line ≡ Some event
      → StepsTo conduct dig old event answer new → text ≡ answer_text answer
      → Does conduct dig handshake old line text new
  reports : line ≡ Report → new ≡ old → text ≡ report_text old.state
      → Does conduct dig handshake old line text new

-- it asks for neither
pub record IsIdle (handshake : List ℕ) (line : Line) : Type 0 where
  pub no_event : event_of handshake line ≡ None
  pub no_report : line ≢ Report

-- a text that can't stand there: it spells no line, or one that asks for neither
pub data IsBad (handshake text : List ℕ) : Type 0 where
  no_line : SpellsNone text → IsBad handshake text
  idle : (line : Line) → Spells text line → IsIdle handshake line → IsBad handshake text

-- Lines ran, one after the other, from the first engine to the last one, and this text tells of them.
pub data RunsLines {D : Type 0} (conduct : Conduct D)
    (dig : List ℕ → List ℕ) (handshake : List ℕ) (first : EngineView D)
    : List (List ℕ) → List ℕ → EngineView D → Type 0 where
  nothing : RunsLines conduct dig handshake first [] [] first
  one_more : (lines : List (List ℕ)) (line : List ℕ) (spelled : Line) (text said : List ℕ)
      (mid new : EngineView D)
      → RunsLines conduct dig handshake first lines text mid
      → Spells line spelled → Does conduct dig handshake mid spelled said new
      → RunsLines conduct dig handshake first (lines ++ line ∷ []) (text ++ said) new
