-- Lemmas on commands and their words.
use Rattle.std.proofs.Common.{◌≡◌, ℕ, ◌+◌, ◌++◌, ◌<◌, List, [], ◌∷◌, ap, length, get_or, map, refl, sym, take, ◌∙◌}
use Rattle.std.proofs.lemmas.List.{map-append, take_more}
use Rattle.clap.specs.Words.{App, Rule, Text, with_rule, with_subcommand}
use Rattle.bt_words.specs.Subcommands.{command_app}
use Rattle.bt_words.specs.SubcommandsSteps.{app_of_row, rule_of_word, with_commands}
use Rattle.bt_words.specs.declared.subcommands.Subcommand.{Subcommand}
use Rattle.bt_words.specs.declared.subcommands.Word.{Word}

-- a command with the first words has one word more
pub one_word_more : (words : List Word) (i : ℕ) (d : Word) (name : Text) (old new : App) (rule : Rule) → i < length words
    → old ≡ command_app name (map rule_of_word (take i words)) → new ≡ with_rule old rule → rule ≡ rule_of_word (get_or words i d)
    → new ≡ command_app name (map rule_of_word (take (i + 1) words))
one_word_more words i d name old new rule below first more is =
    rw (more, first, is, take_more words i d below, map-append rule_of_word (take i words) (get_or words i d ∷ []))

with_commands-push : (app : App) (commands : List App) (command : App)
    → with_commands app (commands ++ command ∷ []) ≡ with_subcommand (with_commands app commands) command.top
with_commands-push app [] command = refl
with_commands-push app (first ∷ commands) command = with_commands-push (with_subcommand app first.top) commands command

-- a command with the first subcommands has one more
pub one_command_more : (rows : List Subcommand) (i : ℕ) (d : Subcommand) (top old new : App) → i < length rows
    → old ≡ with_commands top (map app_of_row (take i rows)) → new ≡ with_subcommand old (app_of_row (get_or rows i d)).top
    → new ≡ with_commands top (map app_of_row (take (i + 1) rows))
one_command_more rows i d top old new below so_far more =
    more ∙ ap (λ app. with_subcommand app (app_of_row (get_or rows i d)).top) so_far
    ∙ sym (with_commands-push top (map app_of_row (take i rows)) (app_of_row (get_or rows i d)))
    ∙ rw (take_more rows i d below, map-append app_of_row (take i rows) (get_or rows i d ∷ []))
