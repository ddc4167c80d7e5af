use Rattle.std.proofs.Common.{codes}
use Rattle.std.proofs.lemmas.Result.{on_ok_weaker}
use Rattle.bt_progress.specs.Line.{rate_text, size_text}
use Rattle.bt_progress.proofs.LineText.{put_three}
use Rattle.bt_progress.proofs.line.push_rate.Goals as goal

pub returns : goal.returns
unfolding rate_text
returns c =
    on_ok_weaker c.write-2.result
    (λ h. put_three _ _ _ _ (codes ", ") (size_text c.args.rate) (codes "/s") c.in_ok-write.ensures.bytes c.in_ok-push_size.ensures h)
    c.write-2.ensures.bytes
