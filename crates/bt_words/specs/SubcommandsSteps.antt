-- The commands and their words, as the private tables have them.
use Rattle.std.specs.Prelude.{List, [], ◌∷◌, Some, map}
use Rattle.clap.specs.Words.{App, Rule, Text, new_rule, with_subcommand}
use Rattle.clap.specs.declared.builder.action.ArgAction.TheVariants.{Append}
use Rattle.bt_words.specs.Subcommands.{command_app, flag_rule, option_rule, required_rule}
use Rattle.bt_words.specs.declared.subcommands.Kind.{Kind}
use Rattle.bt_words.specs.declared.subcommands.Kind.TheVariants.{Needed, NeededList, NeededOption, Default, Value, HiddenValue, ValueOr, Flag}
use Rattle.bt_words.specs.declared.subcommands.Subcommand.{Subcommand}
use Rattle.bt_words.specs.declared.subcommands.Word.{Word}

abbrev pub rule_of_kind : Text → Kind → Rule
rule_of_kind id Needed = required_rule id
rule_of_kind id NeededList = record (required_rule id) { action = Some Append }
rule_of_kind id NeededOption = record (required_rule id) { long = Some id }
rule_of_kind id (Default otherwise) = record (new_rule id) { long = Some id; defaults = otherwise.now ∷ [] }
rule_of_kind id (Value name) = option_rule id
rule_of_kind id (HiddenValue name) = option_rule id
rule_of_kind id (ValueOr name otherwise) = record (option_rule id) { defaults = otherwise.now ∷ [] }
rule_of_kind id Flag = flag_rule id

abbrev pub rule_of_word : Word → Rule
rule_of_word word = rule_of_kind word.id.now word.kind

abbrev pub app_of_row : Subcommand → App
app_of_row row = command_app row.name.now (map rule_of_word row.words.now)

-- a command with these subcommands more, in turn
abbrev pub with_commands : App → List App → App
with_commands app [] = app
with_commands app (command ∷ commands) = with_commands (with_subcommand app command.top) commands
