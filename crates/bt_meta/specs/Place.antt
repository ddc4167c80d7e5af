-- Where a range of a piece lies (BEP 52: each file that is not empty begins at a piece's boundary).
use Rattle.std.specs.Prelude.{◌≡◌, ℕ, ◌+◌, ◌-◌, ◌*◌, ◌<◌, ◌≤◌, length, get_or}
use Rattle.bt_tree.specs.Limits.{full_block_length}
use Rattle.bt_meta.specs.Files.{File, piece_count}
use Rattle.bt_meta.specs.Torrent.{Metainfo}
use Rattle.bt_meta.specs.declared.torrent.Span.{Span}

-- `count` bytes of a piece, from the byte `begin` on, are those of the span
pub record IsPlace (torrent : Metainfo) (piece begin count : ℕ) (span : Span) : Type 0 where
  pub file : File
  pub listed : span.file < length torrent.files
  pub found : (d : File) → get_or torrent.files span.file d ≡ file
  pub from : file.first_piece ≤ piece
  pub below : piece < file.first_piece + piece_count torrent.piece_length file.length
  pub start : span.start ≡ (piece - file.first_piece) * torrent.piece_length + begin
  pub all : span.length ≡ count
  pub some : 1 ≤ count
  pub block : count ≤ full_block_length
  pub in_piece : begin + count ≤ torrent.piece_length
  pub in_file : span.start + count ≤ file.length
