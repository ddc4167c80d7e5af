use Rattle.std.proofs.Common.{rules, not}
use Rattle.std.specs.Prelude.{◌==◌}
use Rattle.std.proofs.lemmas.Fn.{filter_same}
use Rattle.bt_disk.proofs.open_handles.OpenHandles.tell_loss.Goals as goal

pub returns-clause-once : goal.returns-clause-once
returns-clause-once g c =
    let kept = filter_same _ (λ lost. not (lost == c.args.device)) _ (λ x b f' k. search rules) _ _ c.retain.ensures.filtered in
    search (rules, kept)
