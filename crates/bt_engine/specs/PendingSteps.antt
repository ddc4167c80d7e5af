-- What a wire event leaves for the log. No public contract cites it.
use Rattle.std.specs.Prelude.{[], ◌≡◌, ℕ, ◌<◌, ◌≤◌, if◌then◌else◌, List, ◌∷◌, ◌++◌, map, flat_map, Option, Some, Contains}
use Rattle.std.specs.Option.{option_to_list}
use Rattle.bt_tree.specs.Limits.{max_block_count}
use Rattle.bt_book.specs.declared.names.BlockId.{BlockId}
use Rattle.bt_machine.specs.declared.answer.Note.{Note}
use Rattle.bt_machine.specs.declared.answer.Note.TheVariants.{Marked as NowMarked}
use Rattle.bt_machine.specs.Hints.{add_hints}
use Rattle.bt_machine.specs.State.{EngineState, Hint, mark_of}
use Rattle.bt_engine_state.specs.declared.open_log.OpenLog.{OpenLog}

-- the block that the note says is marked
abbrev pub marked_block : Note → List BlockId
marked_block (NowMarked b) = b ∷ []
marked_block _ = []

abbrev pub marks_of : Note → List Hint
marks_of note = map (λ b. mark_of b) (marked_block note)

-- a mark of each block that the notes say is marked
abbrev pub marks_in : List Note → List Hint
marks_in notes = map (λ b. mark_of b) (flat_map marked_block notes)

-- a proof, if there is one, and then the marks
abbrev pub hints_told : Option Hint → List Note → List Hint
hints_told proof notes = option_to_list proof ++ marks_in notes

-- with a log, these hints are pending too
abbrev pub with_hints : EngineState → List Hint → EngineState
with_hints s hints = record s { pending = add_hints s.pending (if s.logged then hints else []) }

-- where there is a log, there is room for this many hints more
abbrev pub HasHintRoom : {D : Type 0} → ℕ → Option (OpenLog D) → Type 0
HasHintRoom {D} count log = (opened : OpenLog D) → log ≡ Some opened → count ≤ opened.pending.room

-- each block that the notes say is marked may be one of a file
abbrev pub AreInside : List Note → Type 0
AreInside notes = (b : BlockId) → Contains notes (NowMarked b) → b.block < max_block_count
