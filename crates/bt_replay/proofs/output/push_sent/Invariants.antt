-- The frames so far have their lines.
use Rattle.std.proofs.Common.{◌≡◌, ◌++◌, take}
use Rattle.std.specs.Prelude.{flat_map, string_bytes}
use Rattle.bt_replay.specs.Answer.{send_line}
use Rattle.bt_replay.proofs.output.push_sent.Given as goal

abbrev pub invariant-loop-key : goal.invariant-loop-key
invariant-loop-key l =
    string_bytes l.text ≡ string_bytes l.initial.text ++ flat_map send_line (take l.key-index l.send)
