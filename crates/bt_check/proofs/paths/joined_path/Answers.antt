use Rattle.std.proofs.Common.{ap, ◌∙◌}
use Rattle.std.proofs.lemmas.Result.{IfOk-weaker}
use Rattle.bt_meta.specs.FilePath.{texts}
use Rattle.bt_check.specs.Paths.{path_text}
use Rattle.bt_check.proofs.ShowText.{path_joined}
use Rattle.bt_check.proofs.paths.joined_path.Goals as goal

pub returns : goal.returns
returns c = IfOk-weaker c.join.result _ _
    (λ s h. h ∙ path_joined (λ t. t.now) c.as_slice.result.now ∙ ap path_text (ap texts c.as_slice.ensures.value ∙ c.elements-elements.ensures)) c.join.ensures.ok
