use Rattle.std.proofs.Common.{◌∙◌}
use Rattle.std.proofs.lemmas.Result.{IfOk-weaker}
use Rattle.bt_meta.specs.Files.{file_of}
use Rattle.bt_check.proofs.ShowText.{file_printed}
use Rattle.bt_check.proofs.show.file_line.Goals as goal

pub returns : goal.returns
returns c =
    let line = file_printed (file_of c.args.file.now) _ _ c.in_ok-root.ensures c.in_ok-path.ensures in
    IfOk-weaker c.format.result _ _ (λ s h. h ∙ line) c.format.ensures.ok
