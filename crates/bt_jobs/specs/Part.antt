-- What a part of a check tells of a torrent.
use Rattle.std.specs.Prelude.{◌≡◌, ℕ, ◌*◌, ◌^◌, List, [], length, map, IfSome}
use Rattle.std.specs.List.{All, range_with_len}
use Rattle.bt_tree.specs.Limits.{full_block_length}
use Rattle.bt_disk.specs.Pool.{PooledView, pooled_conduct}
use Rattle.bt_meta.specs.Torrent.{Metainfo}
use Rattle.bt_check.specs.Check.{CheckedFile}
use Rattle.bt_check.specs.Paths.{path_below}
use Rattle.bt_parts.specs.declared.cut.Part.{Part}
use Rattle.bt_parts.specs.declared.run.Run.{Run}
use Rattle.bt_jobs.specs.Plan.{AreShares}
use Rattle.bt_jobs.specs.Trees.{ArePartFindings, file_in_part, part_at}
use Rattle.bt_jobs.specs.declared.trees.PartFile.{PartFile}

-- ---- what is told

-- its device, where it has one, is that of the file's path below a folder
abbrev pub IsPartAt : List ℕ → PartFile PooledView → Type 0
IsPartAt dir d = IfSome d.disk (λ disk. disk.path ≡ path_below dir (file_in_part d.part).path)

-- The runs are what is told of the part's shares of a torrent's files, in order, by the answers of the
-- devices at their paths below a folder.
pub record IsPartReport (dir : List ℕ) (torrent : Metainfo) (part : Part) (runs : List Run) : Type 0 where
  pub layer : ℕ
  pub pieces : torrent.piece_length ≡ full_block_length * 2 ^ layer
  pub opened : List (PartFile PooledView)
  pub files : map file_in_part (map part_at opened) ≡ torrent.files
  pub numbers : map (λ p. p.number) (map part_at opened) ≡ range_with_len 0 (length torrent.files)
  pub shares : AreShares layer part torrent.files (map (λ p. p.share) (map part_at opened))
  pub paths : All (IsPartAt dir) opened
  pub checked : List CheckedFile
  pub found : ArePartFindings pooled_conduct layer [] opened runs checked
