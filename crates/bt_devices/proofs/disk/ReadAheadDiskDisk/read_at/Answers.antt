use Rattle.std.proofs.Common.{◌≡◌, ap, sym, subst}
use Rattle.bt_devices.specs.Disk.{AheadView}
use Rattle.bt_devices.proofs.ReadRuns.{run_keeps}
use Rattle.bt_devices.proofs.disk.ReadAheadDiskDisk.read_at.Goals as goal

pub returns-clause-answered : goal.returns-clause-answered
returns-clause-answered g c = λ is_honest.
    let d = g.D.Disk in
    let ahead = c.read_ahead.ensures.run in
    let inner : c.self.inside.inner ≡ c.read_ahead.new.self.inner = ap (λ (view : AheadView g.row.D.Denot). view.inner) c.self.view_is in
    let after : c.count.new.self.inner ≡ c.read_at-answer.new.self = ap (λ (view : AheadView g.row.D.Denot). view.inner) c.count.ensures in
    let kept = run_keeps d.conduct c.args.self.now.inner c.args.at c.read_ahead.new.self.inner ahead is_honest in
    let was_honest : d.conduct.honest c.self.inside.inner = subst d.conduct.honest (sym inner) (ahead.made.as_honest.0 is_honest) in
    rw (after, ← kept, ← inner) (c.read_at-answer.ensures.answered was_honest)
