use Rattle.std.proofs.Common.{rules, arith}
use Rattle.bt_meta.proofs.Steps.{read_steps}
use Rattle.bt_meta.proofs.reader.read_info.Goals as goal

pub info_in-requires-clause-spelled : goal.info_in-requires-clause-spelled
info_in-requires-clause-spelled c = search rules

pub returns-clause-torrent : goal.returns-clause-torrent
returns-clause-torrent c = search rules

pub returns-clause-refused : goal.returns-clause-refused
returns-clause-refused c = grind (arith, read_steps)

pub returns-in_err-info-clause-refused : goal.returns-in_err-info-clause-refused
returns-in_err-info-clause-refused c = grind (arith, read_steps)
