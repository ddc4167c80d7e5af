-- What holds of the parts of every engine.
use Rattle.std.specs.Prelude.{◌≡◌, ℕ, List}
use Rattle.sha2.specs.Sha256.{sha256}
use Rattle.bt_disk.specs.Conduct.{Conduct}
use Rattle.bt_meta.specs.Torrent.{IsLawful}
use Rattle.bt_machine.specs.Frames.{AreSparseTrees}
use Rattle.bt_machine.specs.Law.{AreRooted}
use Rattle.bt_machine.specs.Sound.{IsSound}
use Rattle.bt_machine.specs.Orderly.{IsOrderly}
use Rattle.bt_machine.specs.Shape.{IsShaped}
use Rattle.bt_engine_state.specs.Parts.{state_of, disks_of, log_of}
use Rattle.bt_engine_state.specs.Ties.{IsTied}
use Rattle.bt_engine_state.specs.declared.parts.Parts.{Parts}
use Rattle.bt_machine.specs.State.{EngineView}

abbrev pub view_of : {D H : Type 0} → Parts D H → EngineView D
view_of parts = record { state = state_of parts; disks = disks_of parts; log = log_of parts }

-- Digests are those by which the torrent was read, and the torrent is lawful. The parts are tied together, they
-- have the torrent's shape, the peers are in order, the trees are sparse trees that hang from their roots, and
-- on honest devices the marked blocks are right.
pub record IsKept {D H : Type 0} (conduct : Conduct D) (dig : List ℕ → List ℕ)
    (parts : Parts D H) : Type 0 where
  pub digest : dig ≡ sha256
  pub lawful : IsLawful parts.torrent.piece_length parts.torrent.files
  pub tied : IsTied parts
  pub shaped : IsShaped parts.torrent (state_of parts)
  pub orderly : IsOrderly (state_of parts)
  pub sparse : AreSparseTrees dig (state_of parts)
  pub rooted : AreRooted dig (state_of parts)
  pub sound : IsSound conduct dig (state_of parts) (disks_of parts)
