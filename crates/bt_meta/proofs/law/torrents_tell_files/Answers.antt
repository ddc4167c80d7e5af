use Rattle.bt_meta.proofs.LawMadeFrom.{describes_no_other}
use Rattle.bt_meta.proofs.law.torrents_tell_files.Goals as goal

pub returns : goal.returns
returns c = describes_no_other c.roots_tell_files.ensures
