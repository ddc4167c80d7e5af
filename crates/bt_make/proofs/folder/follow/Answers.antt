use Rattle.std.proofs.Common.{rules}
use Rattle.bt_make.proofs.FolderWalk.{followed}
use Rattle.bt_make.proofs.folder.follow.Goals as goal

pub returns : goal.returns
returns c = followed _ _ _ c.in_ok-clone.field-0 c.args.entry.now c.truncate.ensures.items c.in_ok-push.ensures.items (search rules)
