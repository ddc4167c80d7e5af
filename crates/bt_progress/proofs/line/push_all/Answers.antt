use Rattle.std.proofs.Common.{codes}
use Rattle.std.specs.Fmt.{decimal}
use Rattle.std.proofs.lemmas.Result.{on_ok_weaker}
use Rattle.bt_progress.specs.Line.{all_text, size_text}
use Rattle.bt_progress.proofs.LineText.{put_five}
use Rattle.bt_progress.proofs.line.push_all.Goals as goal

pub returns : goal.returns
unfolding all_text
returns c =
    on_ok_weaker c.write-2.result
    (λ h. put_five _ _ _ _ (codes " of ") (size_text c.args.all) (codes " (") (decimal c.args.percent) (codes "%)") c.in_ok-write.ensures.bytes c.in_ok-push_size.ensures h)
    c.write-2.ensures.bytes
