use Rattle.bt_store.proofs.Recalls.{recalled_alike, restore_judges}
use Rattle.bt_store.proofs.law.recalled_blocks_are_restored.Goals as goal

pub returns : goal.returns
returns g c = record { alike = recalled_alike g.H.NodeHash.digest; restored = restore_judges g.H.NodeHash.digest }
