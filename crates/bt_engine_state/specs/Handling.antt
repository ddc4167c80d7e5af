-- What a function needs of the parts of an engine, and what it keeps of them.
use Rattle.std.specs.Prelude.{◌≡◌, ◌<◌, ℕ, length, map, vec_len}
use Rattle.bt_machine.specs.Shape.{IsShaped}
use Rattle.bt_engine_state.specs.Parts.{state_of, disks_of, log_of}
use Rattle.bt_engine_state.specs.Ties.{IsTied}
use Rattle.bt_engine_state.specs.declared.parts.Parts.{Parts}

-- ---- what is needed

-- the parts are tied, and their state has its shape
pub record AreInShape {D H : Type 0} (parts : Parts D H) : Type 0 where
  pub tied : IsTied parts
  pub shaped : IsShaped parts.torrent (state_of parts)

-- the parts are tied, and a peer stands at the index
pub record IsTiedAt {D H : Type 0} (parts : Parts D H) (index : ℕ) : Type 0 where
  pub tied : IsTied parts
  pub inside : index < vec_len parts.peers
  pub there : index < length parts.peers.items

-- the same, and a peer stands at the index
pub record AreInShapeAt {D H : Type 0} (parts : Parts D H) (index : ℕ) : Type 0 where
  pub tied : IsTied parts
  pub shaped : IsShaped parts.torrent (state_of parts)
  pub inside : index < vec_len parts.peers
  pub there : index < length parts.peers.items

-- ---- what is kept

-- the torrent and the log are as before, and the parts are tied again
pub record KeepsLog {D H : Type 0} (old new : Parts D H) : Type 0 where
  pub torrent : new.torrent ≡ old.torrent
  pub log : new.log ≡ old.log
  pub tied : IsTied new

-- so are the devices
pub record KeepsDevices {D H : Type 0} (old new : Parts D H) : Type 0 where
  pub devices : disks_of new ≡ disks_of old
  pub torrent : new.torrent ≡ old.torrent
  pub log : new.log ≡ old.log
  pub tied : IsTied new

-- The torrent is as before, and so is the log, but for the hints that wait for it. The parts are tied again.
pub record KeepsWritten {D H : Type 0} (old new : Parts D H) : Type 0 where
  pub torrent : new.torrent ≡ old.torrent
  pub log : log_of new ≡ log_of old
  pub tied : IsTied new

-- the same peers stand in the same order
pub record KeepsKeys {D H : Type 0} (old new : Parts D H) : Type 0 where
  pub keys : map (λ p. p.key) new.peers.items ≡ map (λ p. p.key) old.peers.items
  pub len : vec_len new.peers ≡ vec_len old.peers
