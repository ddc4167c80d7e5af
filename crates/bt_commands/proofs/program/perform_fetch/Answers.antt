use Rattle.bt_files.specs.declared.file_use.FileUse.TheVariants.{Fetch as for_fetch}
use Rattle.bt_words.specs.declared.command_line.Task.TheVariants.{Fetch}
use Rattle.bt_commands.proofs.FullLog.{store_ended, task_ended}
use Rattle.bt_commands.proofs.program.perform_fetch.Goals as goal

pub returns-clause-ended : goal.returns-clause-ended
returns-clause-ended g c =
    task_ended c.fetch.result (Fetch c.args.task) _ _
    (store_ended c.args.task.torrent.is_info for_fetch c.args.task.dir.now c.args.task.log c.fetch.result c.fetch.ensures.fault c.fetch.ensures.full)
    c.fetch.ensures.refused
