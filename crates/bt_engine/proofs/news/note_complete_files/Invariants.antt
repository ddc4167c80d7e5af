use Rattle.std.proofs.Common.{◌≡◌, ◌+◌, ◌≤◌, ◌++◌, drop, vec_len, vec_capacity}
use Rattle.bt_engine_state.specs.Parts.{state_of}
use Rattle.bt_engine.specs.NewsSteps.{marked_file, notes_if_complete, complete_by}
use Rattle.bt_engine.proofs.Announcements.{said, Begins}
use Rattle.bt_engine.proofs.news.note_complete_files.Given as goal

abbrev pub invariant-loop-index : goal.invariant-loop-index
invariant-loop-index g l =
    (l.notes.items ++ said (notes_if_complete (state_of l.parts)) marked_file l.last (drop l.index l.initial.notes.items)
    ≡ l.initial.notes.items ++ complete_by (state_of l.parts) l.initial.notes.items)
    × Begins l.initial.notes.items l.notes.items
    × (vec_len l.notes ≤ vec_len l.initial.notes + l.index) × (vec_capacity l.initial.notes ≤ vec_capacity l.notes)
