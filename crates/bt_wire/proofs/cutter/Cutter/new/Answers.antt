use Rattle.std.proofs.Common.{rules}
use Rattle.bt_wire.proofs.cutter.Cutter.new.Goals as goal

pub returns : goal.returns
returns c = search rules
