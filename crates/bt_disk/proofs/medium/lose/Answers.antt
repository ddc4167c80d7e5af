use Rattle.bt_disk.proofs.medium.lose.Goals as goal

pub returns-in-Filled : goal.returns-in-Filled
returns-in-Filled c = λ greatest. rw c.in-Filled.is (c.fill_lost.ensures greatest)
