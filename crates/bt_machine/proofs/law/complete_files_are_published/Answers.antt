use Rattle.bt_machine.proofs.Headline.{files_published}
use Rattle.bt_machine.proofs.law.complete_files_are_published.Goals as goal

pub returns : goal.returns
returns g c = files_published g.D.Disk.conduct g.H.NodeHash.digest
    c.adopt_marks_by_bytes.ensures c.keeps_rooted.ensures c.layers_are_sound.ensures c.roots_are_sound.ensures c.roots_tell_files.ensures
