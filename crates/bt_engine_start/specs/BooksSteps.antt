-- What an engine keeps of its blocks and peers, where all blocks are missing and no peer is connected. No
-- public contract cites it.
use Rattle.std.specs.Prelude.{[], ◌≡◌, ℕ, ◌≤◌, false, true, List, length, map, replicate, Some, slice_get, vec_capacity}
use Rattle.bt_tree.specs.Blocks.{block_count}
use Rattle.bt_meta.specs.Torrent.{Metainfo, total_pieces}
use Rattle.bt_meta.specs.PieceBlocks.{ArePieceBlocks}
use Rattle.bt_meta.specs.declared.piece_blocks.BlockRun.{BlockRun}
use Rattle.bt_book.specs.Book.{max_peers}
use Rattle.bt_engine_start.specs.declared.books.Books.{Books}

-- the pieces' runs of blocks have these sizes, those of the first pieces
abbrev pub AreRunSizes : Metainfo → List ℕ → Type 0
AreRunSizes torrent sizes = (piece size : ℕ) → slice_get sizes piece ≡ Some size
    → (run : BlockRun) × ArePieceBlocks torrent piece run × (run.count ≡ size)

-- how many blocks each piece has
pub record ArePieceSizes (torrent : Metainfo) (sizes : List ℕ) : Type 0 where
  pub size : length sizes ≡ total_pieces torrent
  pub each : AreRunSizes torrent sizes

-- all blocks are unmarked and wanted and none waits, of no piece the leaves are known, and there is room for
-- all peers that may come
pub record AreNewBooks (torrent : Metainfo) (books : Books) : Type 0 where
  pub sizes : ArePieceSizes torrent books.counts.unmarked.items
  pub waiting : books.counts.waiting ≡ 0
  pub known : books.known ≡ replicate (total_pieces torrent) false
  pub wanted : books.book.wanted ≡ map (λ file. replicate (block_count file.length) true) torrent.files
  pub unasked : books.book.peers ≡ []
  pub peers : books.peers.items ≡ []
  pub room : max_peers ≤ vec_capacity books.peers
