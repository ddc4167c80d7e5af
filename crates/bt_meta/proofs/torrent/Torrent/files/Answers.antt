use Rattle.bt_meta.proofs.torrent.Torrent.files.Goals as goal

pub returns-clause-apart : goal.returns-clause-apart
returns-clause-apart c = rw c.deref.ensures.value c.self.invariant.1.apart
