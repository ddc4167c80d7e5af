-- Where the files of a torrent lie, and how a path is written.
use Rattle.std.specs.Prelude.{ℕ, List, codes, fold}
use Rattle.std.specs.List.{join_by}
use Rattle.std.specs.Path.{path_join}

-- the elements of a path, each joined to those before it, below a folder
abbrev pub path_below : List ℕ → List (List ℕ) → List ℕ
path_below dir elements = fold path_join dir elements

-- the elements of a path, joined by `/`
unfoldable pub path_text : List (List ℕ) → List ℕ
path_text elements = join_by (λ element. element) (codes "/") elements
