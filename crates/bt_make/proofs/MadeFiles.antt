-- The files that a torrent is made from.
use Rattle.std.proofs.Common.{ℕ, ◌≡◌, List, [], ◌∷◌, map, refl, sym, ap}
use Rattle.std.specs.List.{All, AllZip}
use Rattle.std.proofs.lemmas.List.Elements.{All-head, All-tail}
use Rattle.bt_meta.specs.GivenFiles.{given_of}
use Rattle.bt_meta.specs.MadeFrom.{NamedFile, IsGivenOf}
use Rattle.bt_meta.specs.declared.writer.Made.{Made}
use Rattle.bt_make.specs.Command.{HasContent, paths_of}

-- the files whose bytes were read, in turn
pub originals : (layer : ℕ) (files : List Made) → All (HasContent layer) files
    → (named : List NamedFile) × (map (λ f. f.path) named ≡ paths_of files) × AllZip IsGivenOf named (map given_of files)
originals layer [] h = ([], refl, tt)
originals layer (m ∷ files) h =
    let c = All-head (HasContent layer) m files h in
    let rest = originals layer files (All-tail (HasContent layer) m files h) in (
      (record { path = (given_of m).path; bytes = c.bytes }) ∷ rest.0,
      ap (λ paths. (given_of m).path ∷ paths) rest.1,
      (record { path = refl; described = record { size = sym c.whole; root = c.are.root } }, rest.2),
    )
