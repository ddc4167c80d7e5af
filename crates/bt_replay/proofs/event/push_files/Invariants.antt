-- The files so far are told after the text, and there are as many.
use Rattle.std.proofs.Common.{◌≡◌, ◌≤◌, ◌++◌, length}
use Rattle.std.specs.Prelude.{flat_map, string_bytes}
use Rattle.std.specs.List.{range_with_len}
use Rattle.bt_machine.specs.Report.{report}
use Rattle.bt_replay.specs.Answer.{file_line}
use Rattle.bt_replay.proofs.event.push_files.Given as goal

abbrev pub invariant-loop-file : goal.invariant-loop-file
invariant-loop-file g l = record {
  told : string_bytes l.text ≡ string_bytes l.initial.text ++ flat_map (λ file. file_line file (report l.engine.state file)) (range_with_len 0 l.file);
  within : l.file ≤ length l.engine.state.files;
}
