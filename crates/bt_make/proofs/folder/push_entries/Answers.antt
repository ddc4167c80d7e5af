use Rattle.std.proofs.Common.{rules}
use Rattle.bt_make.proofs.FolderWalk.{last_key, puts_more, puts_none}
use Rattle.bt_make.proofs.folder.push_entries.Goals as goal

pub loop-name-init : goal.loop-name-init
loop-name-init g c = puts_none _ _ _

pub loop-name-preserved : goal.loop-name-preserved
loop-name-preserved g c =
    puts_more _ _ _ _ c.in-Some.name c.in-Some.kind _ _ _ c.loop-name.invariant
    (last_key _ _ _ c.in-Some.name c.in-Some.ensures.removal (search rules)) c.in_ok-push.ensures.items
