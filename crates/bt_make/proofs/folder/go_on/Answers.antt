use Rattle.bt_make.proofs.FolderOrder.{went_on}
use Rattle.bt_make.proofs.folder.go_on.Goals as goal

pub returns-clause-went : goal.returns-clause-went
returns-clause-went g c = λ _.
    went_on _ _ _ _ c.in-Some.entry c.pop.ensures.items c.in-Some.is c.in_ok-push.ensures.items c.in_ok-go_to.ensures.path c.in_ok-go_to.ensures.file
    c.in_ok-go_to.ensures.folder
