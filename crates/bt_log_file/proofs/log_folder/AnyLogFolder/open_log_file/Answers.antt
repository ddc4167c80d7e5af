use Rattle.std.proofs.Common.{◌∙◌}
use Rattle.bt_log_file.proofs.LogFiles.{first_file}
use Rattle.bt_log_file.proofs.log_folder.AnyLogFolder.open_log_file.Goals as goal

pub returns-in-Ok-clause-file : goal.returns-in-Ok-clause-file
returns-in-Ok-clause-file g c =
    first_file _ c.writing.new.self c.in-Ok.disk c.args.path.now _ c.in_ok-pool.ensures c.in-Ok.ensures.one_more c.in-Ok.ensures.number
    (c.in-Ok.ensures.path ∙ c.in_ok-name.ensures.ok) c.in-Ok.ensures.access c.opening-opening.ensures.identity c.in-Ok.ensures.is_synced c.in-Ok.ensures.is_written c.in-Ok.ensures.failed
