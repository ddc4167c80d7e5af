-- The notes so far have their lines.
use Rattle.std.proofs.Common.{◌≡◌, ◌++◌, take}
use Rattle.std.specs.Prelude.{flat_map, string_bytes}
use Rattle.bt_replay.specs.Answer.{note_line}
use Rattle.bt_replay.proofs.output.push_notes.Given as goal

abbrev pub invariant-loop-note : goal.invariant-loop-note
invariant-loop-note l =
    string_bytes l.text ≡ string_bytes l.initial.text ++ flat_map note_line (take l.note-index l.notes)
