-- The command has the subcommands so far.
use Rattle.std.proofs.Common.{◌≡◌, map, take}
use Rattle.clap.specs.Words.{app_of}
use Rattle.bt_words.specs.Subcommands.{top_app}
use Rattle.bt_words.specs.SubcommandsSteps.{app_of_row, with_commands}
use Rattle.bt_words.proofs.subcommands.with_commands.Given as goal

abbrev pub invariant-loop-row : goal.invariant-loop-row
invariant-loop-row l = app_of l.command ≡ with_commands top_app (map app_of_row (take l.row-index l.rows))
