use Rattle.bt_words.proofs.CommandWords.{one_command_more}
use Rattle.bt_words.proofs.subcommands.with_commands.Goals as goal

pub loop-row-preserved : goal.loop-row-preserved
loop-row-preserved c =
    one_command_more c.args.rows.now c.loop-row.row-index _ _ _ _ c.loop-row-test.true c.loop-row.invariant c.in_ok-command.ensures
