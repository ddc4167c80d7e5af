use Rattle.std.proofs.Common.{◌≡◌, length, take, sym, ap, ◌∙◌, rules}
use Rattle.bt_resume.proofs.Readings.{has_nothing}
use Rattle.bt_resume.proofs.contents.check_header.Goals as goal

pub returns-in-Some : goal.returns-in-Some
returns-in-Some g c =
    let d = g.D.Disk in
    let w = c.in-Ok.ensures in
    let size : length c.read_at.new.out ≡ 40 = search rules in (
      has_nothing d.conduct c.args.disk.now c.read_at.new.self w.counted w.as_honest (λ h. (w.answered h).1),
      λ h. ap (λ n. take n (d.conduct.history c.args.disk.now).now.bytes) (sym size) ∙ sym (w.answered h).0 ∙ c.in-Some.ensures.some,
    )

pub returns-in-None : goal.returns-in-None
returns-in-None g c =
    let d = g.D.Disk in
    let w = c.in-Ok.ensures in
    let size : length c.read_at.new.out ≡ 40 = search rules in (
      has_nothing d.conduct c.args.disk.now c.read_at.new.self w.counted w.as_honest (λ h. (w.answered h).1),
      λ h format e. c.in-None.ensures.none format ((w.answered h).0 ∙ ap (λ n. take n (d.conduct.history c.args.disk.now).now.bytes) size ∙ e),
    )
