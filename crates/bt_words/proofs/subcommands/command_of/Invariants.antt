-- The command has the words so far.
use Rattle.std.proofs.Common.{◌≡◌, false, map, take}
use Rattle.clap.specs.Words.{app_of}
use Rattle.clap.specs.declared.builder.command.Command.TheViews.{out-Command as fields_of}
use Rattle.bt_words.specs.Subcommands.{command_app}
use Rattle.bt_words.specs.SubcommandsSteps.{rule_of_word}
use Rattle.bt_words.proofs.subcommands.command_of.Given as goal

abbrev pub invariant-loop-word : goal.invariant-loop-word
invariant-loop-word l = record {
  words : app_of l.command ≡ command_app l.name (map rule_of_word (take l.word-index l.words));
  local : (fields_of l.command).has_globals ≡ false;
}
