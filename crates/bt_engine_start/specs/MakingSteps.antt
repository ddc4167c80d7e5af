-- The trees of a torrent once they have taken the proofs of hints. No public contract cites them.
use Rattle.std.specs.Prelude.{◌≡◌, ℕ, List, map}
use Rattle.bt_meta.specs.Torrent.{Metainfo}
use Rattle.bt_sparse.specs.SparseTree.{Facts}
use Rattle.bt_resume.specs.declared.hint.Hint.{Hint}
use Rattle.bt_engine_state.specs.Ties.{root_and_length}
use Rattle.bt_engine_start.specs.Taking.{TakeHints}
use Rattle.bt_engine_start.specs.TreesSteps.{AreTreesOf}

-- The trees of the first files of these numbers have taken the proofs, and stand where they stood.
pub record AreTreesFrom (dig : List ℕ → List ℕ) (torrent : Metainfo) (numbers : List ℕ) (hints : List Hint)
    (trees : List Facts) : Type 0 where
  pub bases : List Facts
  pub made : AreTreesOf dig torrent numbers bases
  pub takes : TakeHints dig hints bases trees
  pub names : map root_and_length trees ≡ map root_and_length bases
