use Rattle.bt_machine.proofs.ProofKeys.{proof_keys_answered}
use Rattle.bt_machine.proofs.law.proof_keys_are_answered.Goals as goal

pub returns : goal.returns
returns g c = proof_keys_answered g.H.NodeHash.digest c.heights_are_least.ensures
