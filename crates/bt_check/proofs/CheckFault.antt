-- Each file of a torrent can be checked.
use Rattle.std.proofs.Common.{◌≡◌, ℕ, ◌*◌, ◌^◌, List, get_or}
use Rattle.std.specs.List.{All}
use Rattle.bt_meta.specs.Files.{File}
use Rattle.bt_meta.specs.Law.{IsTreeLayer}
use Rattle.bt_meta.specs.Torrent.{IsLawfulFile}
use Rattle.bt_tree.specs.Limits.{full_block_length}
use Rattle.bt_check.specs.EntryCheck.{IsCheckable}

pub all_checkable : (n layer : ℕ) (files : List File) → n ≡ full_block_length * 2 ^ layer → All (IsLawfulFile n) files → IsTreeLayer → All (IsCheckable layer) files
all_checkable n layer files size lawful law k d lt =
    let file = lawful k d lt in
    record { short = file.short; layered = law n layer (get_or files k d) size file }
