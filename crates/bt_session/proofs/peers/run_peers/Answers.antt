use Rattle.std.proofs.Common.{refl}
use Rattle.bt_session.proofs.peers.run_peers.Goals as goal

pub returns-clause-peers : goal.returns-clause-peers
returns-clause-peers g c = rw (c.run_peers_with_flushes.ensures.unflushed refl) at c.run_peers_with_flushes.ensures.peers

pub returns-clause-read_fault : goal.returns-clause-read_fault
returns-clause-read_fault g c = rw (c.run_peers_with_flushes.ensures.unflushed refl) at c.run_peers_with_flushes.ensures.read_fault
