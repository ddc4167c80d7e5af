use Rattle.bt_hashreq.proofs.KeySpelling.{spells_one_key}
use Rattle.bt_hashreq.proofs.law.keys_are_read_back.Goals as goal

pub returns : goal.returns
returns c = spells_one_key
