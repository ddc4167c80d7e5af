-- A file that is left out of the request book and of the counts.
use Rattle.std.specs.Prelude.{◌≡◌, ℕ, List, length, replicate, Some, slice_get, slice_set}
use Rattle.std.specs.Option.{option_map_or}
use Rattle.bt_meta.specs.Torrent.{Metainfo}
use Rattle.bt_store.specs.declared.block_states.BlockState.{BlockState}
use Rattle.bt_machine.specs.State.{EngineState, FileState}
use Rattle.bt_machine.specs.Blocks.{states_of}

-- an engine of the torrent that has this file
pub record HasFile (torrent : Metainfo) (file : ℕ) (f : FileState) (s : EngineState) : Type 0 where
  pub same_torrent : s.torrent ≡ torrent
  pub here : slice_get s.files file ≡ Some f

-- the same engine, in which the blocks of this file have these states
abbrev pub with_states : EngineState → ℕ → List BlockState → EngineState
with_states s file states = record s {
  files = option_map_or (λ f. slice_set s.files file (record f { states = states }))
      (slice_get s.files file) s.files;
}

-- the same engine, in which all blocks of this file have one state
abbrev pub with_all : BlockState → EngineState → ℕ → EngineState
with_all state s file = with_states s file (replicate (length (states_of s file)) state)
