use Rattle.std.proofs.Common.{◌∙◌}
use Rattle.bt_files.proofs.Adoptions.{adoption_keeps_peers}
use Rattle.bt_files.proofs.adoption.adopt_file.Goals as goal

pub returns-in-Ok-clause-no_peer : goal.returns-in-Ok-clause-no_peer
returns-in-Ok-clause-no_peer g c = adoption_keeps_peers g.H.NodeHash.digest c.adopt.ensures.step.step.3 ∙ c.requires.no_peer

pub returns-in-Ok-2-clause-no_peer : goal.returns-in-Ok-2-clause-no_peer
returns-in-Ok-2-clause-no_peer g c = adoption_keeps_peers g.H.NodeHash.digest c.adopt.ensures.step.step.3 ∙ c.requires.no_peer

pub returns-in-Err-OutOfMemory-clause-no_peer : goal.returns-in-Err-OutOfMemory-clause-no_peer
returns-in-Err-OutOfMemory-clause-no_peer g c =
    adoption_keeps_peers g.H.NodeHash.digest c.adopt.ensures.step.step.3 ∙ c.requires.no_peer
