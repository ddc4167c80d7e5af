use Rattle.std.proofs.Common.{rules}
use Rattle.bt_devices.proofs.cache.DigestCache.new.Goals as goal

pub invariant_of-result : goal.invariant_of-result
invariant_of-result c = record { room = search rules; each = λ full. absurd (search rules) }
