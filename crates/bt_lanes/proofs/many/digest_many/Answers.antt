use Rattle.std.proofs.Common.{rules}
use Rattle.bt_lanes.proofs.many.digest_many.Goals as goal

pub rest-init : goal.rest-init
rest-init c = search rules
