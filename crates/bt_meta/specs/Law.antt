-- Laws of torrents (BEP 52): what is read of bytes that spell one, the files that one is made from, layers of
-- files, and blocks of pieces.
use Rattle.std.specs.Prelude.{◌≡◌, ◌≢◌, ℕ, ◌-◌, ◌*◌, ◌^◌, ◌<◌, ◌⊎◌, ◌↔◌, List, [], Some, slice_get}
use Rattle.std.specs.List.{AllZip}
use Rattle.sha2.specs.Sha256.{sha256}
use Rattle.bt_tree.specs.Limits.{full_block_length}
use Rattle.bt_tree.specs.Blocks.{block_count, block_length}
use Rattle.bt_tree.specs.TreeShape.{IsPieceLength}
use Rattle.bt_tree.specs.Layers.{IsLayer}
use Rattle.bt_tree.specs.Clash.{IsClash}
use Rattle.bt_meta.specs.Faults.{first_fault}
use Rattle.bt_meta.specs.Files.{File}
use Rattle.bt_meta.specs.Torrent.{Metainfo, IsTorrent, IsLawfulFile, IsLaidOut, total_pieces}
use Rattle.bt_meta.specs.Place.{IsPlace}
use Rattle.bt_meta.specs.PieceBlocks.{HasBlock, ArePieceBlocks, IsOfRun, IsBlockRange}
use Rattle.bt_meta.specs.declared.torrent.Span.{Span}
use Rattle.bt_meta.specs.declared.piece_blocks.BlockRun.{BlockRun}
use Rattle.bt_meta.specs.declared.piece_blocks.PieceRange.{PieceRange}
use Rattle.bt_meta.specs.Reader.{IsRefused}
use Rattle.bt_meta.specs.GivenFiles.{Given}
use Rattle.bt_meta.specs.Writer.{IsMade}
use Rattle.bt_meta.specs.MadeFrom.{Describe, IsMadeFrom, NamedFile, IsGivenOf, IsMadeFromNamed}
use Rattle.bt_meta.specs.declared.error.MetaError.{MetaError}
use Rattle.bt_meta.specs.declared.error.MetaError.TheVariants.{OutOfMemory}

-- ---- bytes that spell a torrent are read as that torrent, and as no other

-- no bytes spell two torrents
abbrev pub SpellsOneTorrent : Type 0
SpellsOneTorrent = (bytes : List ℕ) (torrent other : Metainfo)
    → IsTorrent bytes torrent → IsTorrent bytes other
    → torrent ≡ other

-- bytes that spell a torrent are refused for out of memory alone
abbrev pub IsRefusedForMemoryAlone : Type 0
IsRefusedForMemoryAlone = (bytes : List ℕ) (torrent : Metainfo) (e : MetaError)
    → IsTorrent bytes torrent → IsRefused first_fault bytes e
    → e ≡ OutOfMemory

-- ---- the files that a torrent is made from

-- the torrent that `make` spells is made from the files that it was given
abbrev pub IsMadeFromGivenFiles : Type 0
IsMadeFromGivenFiles = (name : List ℕ) (piece_length : ℕ) (given : List Given) (files : List NamedFile)
    (bytes : List ℕ) (torrent : Metainfo)
    → AllZip IsGivenOf files given → IsMade name piece_length given bytes → IsTorrent bytes torrent
    → IsMadeFromNamed torrent files

-- Bytes that the length and the root of the torrent's file j describe are file j of those that it is made
-- from, or at one node of the two trees two different inputs have one digest.
abbrev pub DescribesNoOther : Type 0
DescribesNoOther = (torrent : Metainfo) (files : List (List ℕ)) (j : ℕ) (entry : File) (bytes : List ℕ)
    → IsMadeFrom torrent files → slice_get torrent.files j ≡ Some entry
    → Describe entry.length entry.root bytes
    → (file : List ℕ) × (slice_get files j ≡ Some file)
    × ((bytes ≡ file) ⊎ ((layer : ℕ) × (index : ℕ) × IsClash sha256 bytes file layer index))

-- ---- the layer of a file

-- the layer that a lawful file has is a layer of its tree: the one whose nodes have the blocks of a piece
abbrev pub IsTreeLayer : Type 0
IsTreeLayer = (piece_length layer : ℕ) (file : File)
    → piece_length ≡ full_block_length * 2 ^ layer → IsLawfulFile piece_length file → file.layer ≢ []
    → IsLayer sha256 (block_count file.length) file.root layer file.layer

-- ---- blocks and ranges, where the piece length is lawful and the files take the pieces in turn

-- the range of a block lies in a piece exactly where the block is one of the piece's
abbrev pub LiesInItsPiece : Type 0
LiesInItsPiece = (torrent : Metainfo) (piece file block : ℕ) (run : BlockRun) (range : PieceRange)
    → IsPieceLength torrent.piece_length → IsLaidOut torrent.piece_length torrent.files
    → ArePieceBlocks torrent piece run → IsBlockRange torrent file block range
    → (range.piece ≡ piece) ↔ IsOfRun run file block

-- the range of a block begins in its piece after the piece's blocks before it
abbrev pub BeginsBehindBlocks : Type 0
BeginsBehindBlocks = (torrent : Metainfo) (piece file block : ℕ) (run : BlockRun) (range : PieceRange)
    → IsPieceLength torrent.piece_length → IsLaidOut torrent.piece_length torrent.files
    → ArePieceBlocks torrent piece run → IsBlockRange torrent file block range → IsOfRun run file block
    → range.begin ≡ full_block_length * (block - run.first)

-- each block of a piece is one of the torrent
abbrev pub RunHasBlocks : Type 0
RunHasBlocks = (torrent : Metainfo) (piece file block : ℕ) (run : BlockRun)
    → ArePieceBlocks torrent piece run → IsOfRun run file block → HasBlock torrent file block

-- the piece of a range is one of the torrent
abbrev pub RangeHasPiece : Type 0
RangeHasPiece = (torrent : Metainfo) (file block : ℕ) (range : PieceRange)
    → IsPieceLength torrent.piece_length → IsLaidOut torrent.piece_length torrent.files
    → IsBlockRange torrent file block range → range.piece < total_pieces torrent

-- the range of a block is a place in the block's file, where the block begins
abbrev pub RangeIsPlace : Type 0
RangeIsPlace = (torrent : Metainfo) (file block : ℕ) (range : PieceRange)
    → IsPieceLength torrent.piece_length → IsBlockRange torrent file block range
    → IsPlace torrent range.piece range.begin range.length
    (record { file = file; start = full_block_length * block; length = range.length })

-- a place that is a block, all of it, is the block's range
abbrev pub PlaceIsRange : Type 0
PlaceIsRange = (torrent : Metainfo) (piece begin count block : ℕ) (span : Span)
    → (place : IsPlace torrent piece begin count span) → span.start ≡ full_block_length * block
    → count ≡ block_length place.file.length block
    → IsBlockRange torrent span.file block (record { piece = piece; begin = begin; length = count })
