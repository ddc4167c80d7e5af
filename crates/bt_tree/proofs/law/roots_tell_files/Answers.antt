use Rattle.bt_tree.proofs.ComparisonClash.{same_or_clash}
use Rattle.bt_tree.proofs.law.roots_tell_files.Goals as goal

pub returns : goal.returns
returns g c = same_or_clash g.H.NodeHash.digest g.met.H.NodeHash.has_32_bytes
