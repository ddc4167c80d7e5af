-- The lemmas that close the steps of each function.
use Rattle.bt_sparse.proofs.Pages.{length-slots_of}

-- ---- pages, tables and layers
pub ruleset page_steps = (length-slots_of)
