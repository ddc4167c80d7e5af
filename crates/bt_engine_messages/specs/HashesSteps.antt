-- Notes of blocks that were settled, and the engines that they lead to.
use Rattle.std.specs.Prelude.{[], ◌≡◌, List, ◌∷◌}
use Rattle.bt_meta.specs.Torrent.{Metainfo}
use Rattle.bt_book.specs.Blocks.{Blocks}
use Rattle.bt_store.specs.declared.block_states.BlockState.TheVariants.{Missing, Waiting, Marked}
use Rattle.bt_machine.specs.declared.answer.Note.{Note}
use Rattle.bt_machine.specs.declared.answer.Note.TheVariants.{Marked as now_marked, Freed}
use Rattle.bt_machine.specs.State.{EngineState}
use Rattle.bt_engine_state.specs.BlockChange.{AreFollowed, OneChanged}
use Rattle.bt_engine_state.specs.declared.counts.Counts.{Counts}

-- the note says what became of a block that waited, and no other block has another state
abbrev pub IsNoteOf : EngineState → Note → EngineState → Type 0
IsNoteOf s (now_marked b) t = OneChanged s t b Waiting Marked
IsNoteOf s (Freed b) t = OneChanged s t b Waiting Missing
IsNoteOf s _ t = t ≡ s

-- each note in its turn
abbrev pub AreNotesOf : EngineState → List Note → EngineState → Type 0
AreNotesOf s [] t = t ≡ s
AreNotesOf s (note ∷ notes) t = (next : EngineState) × IsNoteOf s note next × AreNotesOf next notes t

-- a state of the machine was followed, and the note came since
pub record HasNoted (torrent : Metainfo) (blocks : Blocks) (counts : Counts) (note : Note) : Type 0 where
  pub first : EngineState
  pub last : EngineState
  pub same_torrent : first.torrent ≡ torrent
  pub followed : AreFollowed first blocks counts
  pub noted : IsNoteOf first note last

-- a state of the machine was followed, and these notes lead from it to that one
pub record IsBehind (blocks : Blocks) (counts : Counts) (notes : List Note) (last : EngineState)
    : Type 0 where
  pub first : EngineState
  pub same_torrent : first.torrent ≡ last.torrent
  pub followed : AreFollowed first blocks counts
  pub noted : AreNotesOf first notes last
