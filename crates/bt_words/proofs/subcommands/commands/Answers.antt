use Rattle.bt_words.specs.Subcommands.{check_app, fetch_app, file_app, make_app, program_app, replay_app, seed_app, show_app, transfer_app}
use Rattle.bt_words.proofs.subcommands.commands.Goals as goal

pub returns : goal.returns
unfolding check_app fetch_app file_app make_app program_app replay_app seed_app show_app transfer_app
returns c = c.with_commands.ensures
