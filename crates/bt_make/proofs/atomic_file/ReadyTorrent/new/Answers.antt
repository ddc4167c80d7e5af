use Rattle.std.proofs.Common.{rules}
use Rattle.bt_make.proofs.atomic_file.ReadyTorrent.new.Goals as goal

pub invariant_of-result : goal.invariant_of-result
invariant_of-result c = search rules
