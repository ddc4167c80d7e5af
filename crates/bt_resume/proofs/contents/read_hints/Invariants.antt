use Rattle.std.proofs.Common.{◌-◌}
use Rattle.bt_resume.proofs.Readings.{HasRead}
use Rattle.bt_resume.proofs.contents.read_hints.Given as goal

abbrev pub invariant-loop-end : goal.invariant-loop-end
invariant-loop-end g l = let d = g.D.Disk in HasRead d.conduct l.fn.format l.len l.fn.disk l.hints l.end l.disk

abbrev pub decreases-loop-end : goal.decreases-loop-end
decreases-loop-end g l = l.len - l.end
