-- The parts of an engine that begins, before its files are restored. No public contract cites them.
use Rattle.std.specs.Prelude.{◌≡◌, None}
use Rattle.bt_meta.specs.Torrent.{IsLawful}
use Rattle.bt_engine_state.specs.declared.parts.Parts.{Parts}

-- nothing came in yet, and there is no log
pub record AreFirst {D H : Type 0} (parts : Parts D H) : Type 0 where
  pub lawful : IsLawful parts.torrent.piece_length parts.torrent.files
  pub first_key : parts.last_key ≡ 0
  pub first_turn : parts.turn ≡ 0
  pub no_log : parts.log ≡ None
