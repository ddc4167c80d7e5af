-- A range of a piece lies in one place, and is one block at most.
use Rattle.bt_machine.proofs.Base.{◌≡◌, ℕ, ◌+◌, ◌<◌, ◌≤◌, inl, inr, length, sym, ap, ◌∙◌, arith, take, get_or, sum_by, cases_lt, length-take-le, take-take, get_or-take, sum_by_more_le, File, piece_count, Metainfo, IsLaidOut, IsPlace, BlockId, block_length}
use Rattle.bt_tree.specs.TreeShape.{IsPieceLength}
use Rattle.bt_meta.specs.Law.{RangeIsPlace}
use Rattle.bt_meta.specs.PieceBlocks.{IsBlockRange}
use Rattle.bt_meta.specs.declared.piece_blocks.PieceRange.{PieceRange}
use Rattle.bt_machine.proofs.Lists.{some_is}
use Rattle.bt_machine.proofs.Machine.{IsRangeOf}

-- the file at j ends no later than that at k begins
ends_before : (f : File → ℕ) (files j k : _) (d : File) → j < k → k ≤ length files → sum_by f (take j files) + f (get_or files j d) ≤ sum_by f (take k files)
ends_before f files j k d lt le =
    let shorter : j < length (take k files) = rw (length-take-le k files le) lt in
    rw (take-take j k files (omega arith), get_or-take k files j d lt) at (sum_by_more_le f (take k files) j d shorter)

module _ (torrent : Metainfo) (lay : IsLaidOut torrent.piece_length torrent.files) (piece begin count : ℕ) where
  not_before : {s t : _} → IsPlace torrent piece begin count s → IsPlace torrent piece begin count t → s.file < t.file → ⊥
  not_before {s} {t} p q lt =
      let ends = ends_before (λ g. piece_count torrent.piece_length g.length) torrent.files s.file t.file p.file lt (omega arith) in
      let first = lay.in_turn s.file p.file p.listed in
      let second = lay.in_turn t.file p.file q.listed in
      absurd (omega (arith, ap (λ g. g.first_piece) (p.found p.file), ap (λ g. piece_count torrent.piece_length g.length) (p.found p.file), ap (λ g. g.first_piece) (q.found p.file)))

  same_file : {s t : _} → IsPlace torrent piece begin count s → IsPlace torrent piece begin count t → s.file ≡ t.file
  same_file {s} {t} p q = elim (cases_lt s.file t.file) [
    | inl before ↦ absurd (not_before p q before)
    | inr from ↦ elim (cases_lt t.file s.file) [ inl after ↦ absurd (not_before q p after) | inr to ↦ omega arith ]
  ]

  pub same_place : {s t : _} → IsPlace torrent piece begin count s → IsPlace torrent piece begin count t → s ≡ t
  same_place {s} {t} p q =
      let at = same_file p q in
      let file = sym (p.found p.file) ∙ ap (λ n. get_or torrent.files n p.file) at ∙ q.found p.file in
      let start : s.start ≡ t.start = cc in
      ap (λ n. record s { file = n }) at ∙ ap (λ n. record s { file = t.file; start = n }) start ∙ ap (λ n. record t { length = n }) (cc)

-- a block has one range
pub one_range : {torrent : Metainfo} {file block : _} {r q : PieceRange} → IsBlockRange torrent file block r → IsBlockRange torrent file block q → r ≡ q
one_range {block} {r} {q} v w =
    let entry = some_is (sym v.has.found ∙ w.has.found) in
    let piece : r.piece ≡ q.piece = omega (arith, v.piece, w.piece, ap (λ f. f.first_piece) entry) in
    let begin : r.begin ≡ q.begin = v.begin ∙ sym w.begin in
    let count : r.length ≡ q.length = v.length ∙ ap (λ f. block_length f.length block) entry ∙ sym w.length in
    ap (λ n. record r { piece = n }) piece ∙ ap (λ n. record r { piece = q.piece; begin = n }) begin ∙ ap (λ n. record q { length = n }) count

-- what ranges of a torrent's pieces tell: one place, and one block at most
pub record RangesTell (torrent : Metainfo) : Type 0 where
  pub place : {piece begin count : _} {s t : _} → IsPlace torrent piece begin count s → IsPlace torrent piece begin count t → s ≡ t
  pub block : {piece begin count : _} {b c : _} → IsRangeOf torrent piece begin count b → IsRangeOf torrent piece begin count c → b ≡ c

pub ranges_tell : RangeIsPlace → (torrent : Metainfo) → IsPieceLength torrent.piece_length → IsLaidOut torrent.piece_length torrent.files
    → RangesTell torrent
ranges_tell law torrent size lay = record { place = λ p q. same_place torrent lay _ _ _ p q; block = same_block }
  where
    same_block : {piece begin count : _} {b c : BlockId} → IsRangeOf torrent piece begin count b → IsRangeOf torrent piece begin count c → b ≡ c
    same_block {b} {c} v w =
        let same = same_place torrent lay _ _ _ (law torrent b.file b.block _ size v) (law torrent c.file c.block _ size w) in
        let start = ap (λ s. s.start) same in
        let block : b.block ≡ c.block = omega arith in
        ap (λ n. record b { file = n }) (ap (λ s. s.file) same) ∙ ap (λ n. record c { block = n }) block
