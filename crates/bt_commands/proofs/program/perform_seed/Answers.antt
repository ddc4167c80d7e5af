use Rattle.bt_transfer.specs.Seed.{seed_use}
use Rattle.bt_words.specs.declared.command_line.Task.TheVariants.{Seed}
use Rattle.bt_commands.proofs.FullLog.{store_ended, task_ended}
use Rattle.bt_commands.proofs.program.perform_seed.Goals as goal

pub returns-clause-ended : goal.returns-clause-ended
returns-clause-ended g c =
    task_ended c.seed.result (Seed c.args.task) _ _
    (store_ended c.args.task.torrent.is_info (seed_use c.args.task.service.is_read_only) c.args.task.dir.now c.args.task.log c.seed.result
    c.seed.ensures.fault c.seed.ensures.full)
    c.seed.ensures.refused
