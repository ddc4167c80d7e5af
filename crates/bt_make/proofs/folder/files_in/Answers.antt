use Rattle.std.proofs.Common.{[], rules}
use Rattle.bt_make.proofs.FolderOrder.{walk_begun, walk_ended, walk_on}
use Rattle.bt_make.proofs.FolderWalk.{files_named}
use Rattle.bt_make.proofs.folder.files_in.Goals as goal

pub loop-init : goal.loop-init
loop-init g c = walk_begun c.in_ok-walk.walk c.in_ok-walk.ensures.walk

pub loop-preserved : goal.loop-preserved
loop-preserved g c = walk_on _ _ (c.in_ok-more.ensures.went (search rules)) c.loop.invariant

pub returns-then-not-more-clause-named : goal.returns-then-not-more-clause-named
returns-then-not-more-clause-named g c = files_named [] _

pub returns-then-not-more-clause-ascending : goal.returns-then-not-more-clause-ascending
returns-then-not-more-clause-ascending g c = walk_ended _ _ _ _ (c.in_ok-more.ensures.ended (search rules)) c.loop.invariant
