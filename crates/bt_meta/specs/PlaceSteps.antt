-- The steps of finding a place. No public contract cites them.
use Rattle.std.specs.Prelude.{ℕ, ◌<◌, ◌≤◌, List, length, get_or}
use Rattle.bt_meta.specs.Files.{File}

-- the file is the last that begins at the piece or before it
pub record IsLastFileAt (files : List File) (piece index : ℕ) : Type 0 where
  pub listed : index < length files
  pub begun : (d : File) → (get_or files index d).first_piece ≤ piece
  pub last : (k : ℕ) (d : File) → index < k → k < length files
      → piece < (get_or files k d).first_piece

-- each file begins after the piece
abbrev pub HasNoFileAt : List File → ℕ → Type 0
HasNoFileAt files piece = (k : ℕ) (d : File) → k < length files
    → piece < (get_or files k d).first_piece
