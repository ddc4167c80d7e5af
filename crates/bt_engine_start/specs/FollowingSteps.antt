-- Files whose blocks were missing, and are followed one after the other. No public contract cites it.
use Rattle.std.specs.Prelude.{◌≡◌, ℕ, ◌++◌, List, length, map, take, drop, replicate}
use Rattle.bt_meta.specs.Torrent.{Metainfo}
use Rattle.bt_store.specs.declared.block_states.BlockState.TheVariants.{Missing}
use Rattle.bt_machine.specs.State.{FileState, EngineState}
use Rattle.bt_engine_state.specs.Parts.{file_of}
use Rattle.bt_engine_state.specs.declared.slot.Slot.{Slot}

-- an engine of the torrent that has these files
pub record HasFiles {D H : Type 0} (torrent : Metainfo) (slots : List (Slot D H)) (s : EngineState) : Type 0 where
  pub same_torrent : s.torrent ≡ torrent
  pub files : s.files ≡ map file_of slots

abbrev pub missing_file : FileState → FileState
missing_file f = record f { states = replicate (length f.states) Missing }

-- the same engine, in which all blocks of the files from one on are missing
abbrev pub missing_from : ℕ → EngineState → EngineState
missing_from file s = record s { files = take file s.files ++ map missing_file (drop file s.files) }
