-- What a script whose engine was begun comes to.
use Rattle.std.proofs.Common.{◌≡◌, ℕ, ◌+◌, List, ◌∷◌, Option, Result, Ok, Err, IfErr, OnOk, refl}
use Rattle.sha2.specs.Sha256.{sha256}
use Rattle.bt_meta.specs.Torrent.{Metainfo}
use Rattle.bt_machine.specs.State.{EngineView}
use Rattle.bt_replay.specs.Devices.{Device}
use Rattle.bt_replay.specs.Event.{peer_handshake}
use Rattle.bt_replay.specs.Run.{EndsEarly, HasRun}
use Rattle.bt_replay.specs.Script.{BeginsOn, NamesTorrent, Replays, device_conduct, early, script_lines, whole}
use Rattle.bt_replay.specs.declared.fault.ReplayFault.{ReplayFault}

pub replayed : (script first : List ℕ) (lines rest : List (List ℕ)) (torrent : Metainfo)
    (engine now : EngineView Device) (count : ℕ) (old new : Option (List ℕ)) (outcome : Result (Unit {0}) ReplayFault)
    → script_lines script ≡ first ∷ lines → NamesTorrent first torrent → BeginsOn torrent lines engine rest count
    → OnOk outcome (HasRun device_conduct sha256 (peer_handshake torrent) engine rest old new now)
    → IfErr outcome (EndsEarly device_conduct sha256 (peer_handshake torrent) engine (count + 2) rest old new)
    → Replays script old new outcome
replayed script first lines rest torrent engine now count old new (Ok tt) cut named begun ran ended =
    whole first lines rest torrent engine now count cut named begun ran refl
replayed script first lines rest torrent engine now count old new (Err fault) cut named begun ran ended =
    early first lines rest torrent engine count fault cut named begun ended refl
