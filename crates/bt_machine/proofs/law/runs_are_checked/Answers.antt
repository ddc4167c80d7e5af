use Rattle.bt_machine.proofs.Rooted.{run_rooted, rooted_checked}
use Rattle.bt_machine.proofs.law.runs_are_checked.Goals as goal

pub returns : goal.returns
returns g c = λ torrent first last events calls answers lawful begins run.
    let rooted = run_rooted g.H.NodeHash.digest c.keeps_rooted.ensures c.layers_are_sound.ensures c.roots_are_sound.ensures last events calls answers lawful begins run in
    (rooted, rooted_checked g.H.NodeHash.digest c.held_is_checked.ensures last rooted)
