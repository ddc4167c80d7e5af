use Rattle.bt_meta.proofs.LawMadeFrom.{made_from_given}
use Rattle.bt_meta.proofs.law.torrents_are_made_from_files.Goals as goal

pub returns : goal.returns
returns c = made_from_given
