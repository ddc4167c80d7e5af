use Rattle.std.proofs.Common.{codes}
use Rattle.std.proofs.lemmas.Result.{on_ok_weaker}
use Rattle.bt_progress.specs.Line.{left_text, time_text}
use Rattle.bt_progress.proofs.LineText.{put_three}
use Rattle.bt_progress.proofs.line.push_left.Goals as goal

pub returns : goal.returns
unfolding left_text
returns c =
    on_ok_weaker c.write-2.result
    (λ h. put_three _ _ _ _ (codes ", ") (time_text c.args.seconds) (codes " left") c.in_ok-write.ensures.bytes c.in_ok-push_time.ensures h)
    c.write-2.ensures.bytes
