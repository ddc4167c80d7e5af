use Rattle.std.proofs.Common.{rules}
use Rattle.bt_make.proofs.MakeFault.{made_of_folder, unmade_of_folder}
use Rattle.bt_make.proofs.command.make.Goals as goal

pub returns-clause-torrent : goal.returns-clause-torrent
returns-clause-torrent g c = made_of_folder c.torrent_of-outcome.result _ _ _ _ _ (search rules) (search rules) c.torrent_of-outcome.ensures.torrent

pub returns-clause-fault : goal.returns-clause-fault
returns-clause-fault g c = unmade_of_folder c.torrent_of-outcome.result _ _ _ _ _ (search rules) (search rules) c.torrent_of-outcome.ensures.fault
