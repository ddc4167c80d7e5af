-- The blocks of a torrent rise with their pieces, so that those that a peer has are found by its pieces.
use Rattle.bt_machine.proofs.Base.{◌≡◌, ℕ, ◌+◌, ◌-◌, ◌*◌, ◌/◌, ◌<◌, ◌≤◌, inl, inr, Bool, true, false, ◌&&◌, List, length, Option, Some, None, refl, sym, ap, ◌∙◌, subst, arith, slice_get, get_or, option_map_or, File, piece_count, Metainfo, IsLaidOut, total_pieces, div_ceil_times, lt_of_mul-lt-mul_right, div-mul-add, cases_lt, lt-ltb, BlockId, block_count, block_length}
use Rattle.std.specs.Prelude.{slice_index_or, nat_lt, ◌%◌, ◌≢◌, max}
use Rattle.std.proofs.lemmas.Bool.{ltb-true}
use Rattle.std.proofs.Math.Nat.{div-mul-le_self}
use Rattle.std.proofs.lemmas.Nat.{le-div}
use Rattle.bt_tree.specs.TreeShape.{IsPieceLength}
use Rattle.bt_machine.proofs.Lists.{and_true, some_is}
use Rattle.bt_meta.specs.PieceBlocks.{HasBlock, ArePieceBlocks, IsBlockRange}
use Rattle.bt_meta.specs.declared.piece_blocks.BlockRun.{BlockRun}
use Rattle.bt_meta.specs.declared.piece_blocks.PieceRange.{PieceRange}
use Rattle.bt_meta.proofs.PlacePieces.{ends}
use Rattle.bt_meta.proofs.PieceBlocks.{blocks_per_piece, listed, found, begins_inside, lies_in_piece, has_piece}
use Rattle.bt_book.specs.Blocks.{IsFrom, IsBefore, IsFirst, HasNoFirst}
use Rattle.bt_book.proofs.Firsts.{before_or_from, same_id}
use Rattle.bt_book.specs.BitSet.{IsNext, HasNoneFrom}
use Rattle.bt_engine_after.specs.HeldSteps.{is_held, LiesIn, IsFirstPiece, HasNoBlock}

-- ---- what a bit says

pub not_true : (t : Bool) → (t ≡ true → ⊥) → t ≡ false
not_true true wrong = absurd (wrong refl)
not_true false _ = refl

module _ (torrent : Metainfo) (pieces : List Bool) (b : BlockId) where
  held_by : (o : Option File) → slice_get torrent.files b.file ≡ o
      → option_map_or (λ f. nat_lt b.block (block_count f.length)
      && slice_index_or pieces (f.first_piece + 16384 * b.block / torrent.piece_length) false) o false ≡ true
      → (q : ℕ) × LiesIn torrent b q × (slice_index_or pieces q false ≡ true)
  held_by None here e = absurd cc
  held_by (Some f) here e =
      let both = and_true _ e in (
        f.first_piece + 16384 * b.block / torrent.piece_length,
        record { has = record { entry = f; found = here; inside = ltb-true _ _ both.0 }; is = refl },
        both.1,
      )

  -- a block that is held lies in a piece of which this says true
  pub held_lies : is_held torrent pieces b ≡ true → (q : ℕ) × LiesIn torrent b q × (slice_index_or pieces q false ≡ true)
  held_lies e = held_by (slice_get torrent.files b.file) refl e

  pub lies_held : {q : ℕ} → LiesIn torrent b q → slice_index_or pieces q false ≡ true → is_held torrent pieces b ≡ true
  lies_held {q} l e =
      let inside = lt-ltb b.block (block_count l.has.entry.length) l.has.inside in
      let bit : slice_index_or pieces (l.has.entry.first_piece + 16384 * b.block / torrent.piece_length) false ≡ true =
      ap (λ n. slice_index_or pieces n false) (sym l.is) ∙ e in
      rw l.has.found (rw inside bit)

-- the range of a block is of the piece in which it lies
pub range_lies : (torrent : Metainfo) (b : BlockId) (range : PieceRange) → IsBlockRange torrent b.file b.block range → LiesIn torrent b range.piece
range_lies torrent b range r = record { has = r.has; is = r.piece }

pub lies_range : {torrent : Metainfo} {b : BlockId} {q : ℕ} (l : LiesIn torrent b q) → IsBlockRange torrent b.file b.block
    (record { piece = q; begin = 16384 * b.block % torrent.piece_length; length = block_length l.has.entry.length b.block })
lies_range l = record { has = l.has; piece = l.is; begin = refl; length = refl }

one_entry : {torrent : Metainfo} {b c : BlockId} → b.file ≡ c.file → (h : HasBlock torrent b.file b.block) (k : HasBlock torrent c.file c.block) → h.entry ≡ k.entry
one_entry {torrent} {b} {c} same h k = some_is (sym h.found ∙ ap (λ n. slice_get torrent.files n) same ∙ k.found)

-- ---- the order of blocks

from_before : {b c : BlockId} → IsBefore b c → IsFrom b c
from_before (inl lt) = inl lt
from_before (inr at) = inr (at.0, omega (arith, at.1))

apart : {b c : BlockId} → IsFrom b c → IsBefore c b → ⊥
apart (inl lt) (inl gt) = absurd (omega (arith, lt, gt))
apart (inl lt) (inr at) = absurd (omega (arith, lt, at.0))
apart (inr at) (inl gt) = absurd (omega (arith, at.0, gt))
apart (inr at) (inr back) = absurd (omega (arith, at.1, back.1))

-- ---- blocks rise with their pieces

module _ (torrent : Metainfo) (size : IsPieceLength torrent.piece_length) (lay : IsLaidOut torrent.piece_length torrent.files) where
  positive : 0 < torrent.piece_length
  positive = let p = blocks_per_piece torrent.piece_length size in omega (arith, p.1.some, p.1.whole)

  in_file : (b : BlockId) (q : ℕ) (l : LiesIn torrent b q) → q < l.has.entry.first_piece + piece_count torrent.piece_length l.has.entry.length
  in_file b q l =
      let turn : ℕ = 16384 * b.block / torrent.piece_length in
      let low : turn * torrent.piece_length ≤ 16384 * b.block = div-mul-le_self (16384 * b.block) torrent.piece_length in
      let below : turn < piece_count torrent.piece_length l.has.entry.length =
      lt_of_mul-lt-mul_right torrent.piece_length
      (omega (arith, low, begins_inside torrent b.file b.block l.has, (div_ceil_times l.has.entry.length torrent.piece_length positive).0)) in
      omega (arith, below, l.is)

  -- a file's blocks lie before the pieces of each later file
  pub before_file : (b : BlockId) (q : ℕ) → LiesIn torrent b q → (k : ℕ) (d : File) → b.file < k → k < length torrent.files
      → q < (get_or torrent.files k d).first_piece
  before_file b q l k d lt below =
      let before = ends torrent.piece_length torrent.files lay b.file k d below lt in
      omega (arith, before, in_file b q l, ap (λ f. f.first_piece + piece_count torrent.piece_length f.length) (found torrent b.file b.block l.has d))

  pub rises : (b c : BlockId) (p q : ℕ) → LiesIn torrent b p → LiesIn torrent c q → IsFrom b c → p ≤ q
  rises b c p q l k (inl lt) =
      let before = before_file b p l c.file l.has.entry lt (listed torrent c.file c.block k.has) in
      omega (arith, before, k.is, ap (λ f. f.first_piece) (found torrent c.file c.block k.has l.has.entry))
  rises b c p q l k (inr at) =
      let entry = one_entry at.0 l.has k.has in
      let low = div-mul-le_self (16384 * b.block) torrent.piece_length in
      let up : 16384 * b.block / torrent.piece_length ≤ 16384 * c.block / torrent.piece_length =
      le-div _ _ _ positive (omega (arith, low, at.1)) in
      omega (arith, up, l.is, k.is, ap (λ f. f.first_piece) entry)

  pub in_torrent : (b : BlockId) (q : ℕ) → LiesIn torrent b q → q < total_pieces torrent
  in_torrent b q l = has_piece torrent b.file b.block _ size lay (lies_range l)

  -- ---- the first piece of the blocks from one on

  pub lies_first : (from : BlockId) (p : ℕ) → LiesIn torrent from p → IsFirstPiece torrent from p
  lies_first from p l = record {
    behind = λ c q k after. rises from c p q l k after;
    before = λ c q k sooner. rises c from q p k l (from_before sooner);
    here = λ c k sooner. l;
  }

  -- where it is no block of its file, they begin with the next file
  module _ (from : BlockId) (no : ¬ HasBlock torrent from.file from.block) where
    later_file : (c : BlockId) (q : ℕ) → LiesIn torrent c q → IsFrom from c → from.file < c.file
    later_file c q l (inl lt) = lt
    later_file c q l (inr at) = absurd (no (record {
      entry = l.has.entry;
      found = ap (λ n. slice_get torrent.files n) at.0 ∙ l.has.found;
      inside = (let inside = l.has.inside in omega (arith, inside, at.1));
    }))

    pub next_first : (d : File) → from.file + 1 < length torrent.files → IsFirstPiece torrent from (get_or torrent.files (from.file + 1) d).first_piece
    next_first d below = record {
      behind = λ c q l after. (
          let later = later_file c q l after in
          elim (cases_lt (from.file + 1) c.file) [
            | inl lt ↦ (
                let before = ends torrent.piece_length torrent.files lay (from.file + 1) c.file d (listed torrent c.file c.block l.has) lt in
                omega (arith, before, l.is, ap (λ f. f.first_piece) (found torrent c.file c.block l.has d))
                )
            | inr le ↦ (
                let at : from.file + 1 ≡ c.file = omega (arith, later, le) in
                omega (arith, l.is, ap (λ n. (get_or torrent.files n d).first_piece) at, ap (λ f. f.first_piece) (found torrent c.file c.block l.has d))
                )
          ]
          );
      before = λ c q l sooner. (let lt = earlier c q l sooner in omega (arith, lt));
      here = λ c l sooner. absurd (let lt = earlier c _ l sooner in omega (arith, lt));
    }
      where
        earlier : (c : BlockId) (q : ℕ) → LiesIn torrent c q → IsBefore c from → q < (get_or torrent.files (from.file + 1) d).first_piece
        earlier c q l (inl lt) = before_file c q l (from.file + 1) d (omega (arith, lt)) below
        earlier c q l (inr at) = before_file c q l (from.file + 1) d (omega (arith, at.0)) below

    pub none_first : length torrent.files ≤ from.file + 1 → HasNoBlock torrent from
    none_first past c q l after = absurd (omega (arith, past, later_file c q l after, listed torrent c.file c.block l.has))

  -- ---- the blocks of a piece and after it

  module _ (q : ℕ) (run : BlockRun) (r : ArePieceBlocks torrent q run) where
    pub run_lies : LiesIn torrent (record { file = run.file; block = run.first }) q
    run_lies =
        let turns : ℕ = q - r.first_block.entry.first_piece in
        let at : 16384 * run.first ≡ turns * torrent.piece_length + 0 = omega (arith, r.first) in
        let turn : 16384 * run.first / torrent.piece_length ≡ turns =
        ap (λ x. x / torrent.piece_length) at ∙ div-mul-add turns torrent.piece_length 0 positive in
        record { has = r.first_block; is = omega (arith, turn, r.from) }

    pub from_run : (c : BlockId) (p : ℕ) → LiesIn torrent c p → q ≤ p → IsFrom (record { file = run.file; block = run.first }) c
    from_run c p l le = elim (before_or_from (record { file = run.file; block = run.first }) c) [
      | inl sooner ↦ (
          let most = rises c (record { file = run.file; block = run.first }) p q l run_lies (from_before sooner) in
          let same : p ≡ q = omega (arith, most, le) in
          let run_of = (lies_in_piece torrent q c.file c.block run _ size lay r (lies_range l)).0 same in
          inr (sym run_of.same_file, run_of.from)
          )
      | inr from ↦ from
    ]

  -- ---- the first block that is held

  module _ (pieces : List Bool) (from : BlockId) where
    pub none_behind : HasNoBlock torrent from → HasNoFirst (is_held torrent pieces) from
    none_behind none c after = not_true _ (λ e. let h = held_lies torrent pieces c e in none c h.0 h.1 after)

    module _ (p : ℕ) (first : IsFirstPiece torrent from p) where
      pub none_held : HasNoneFrom pieces p → HasNoFirst (is_held torrent pieces) from
      none_held none c after = not_true _ (λ e.
          let h = held_lies torrent pieces c e in
          let no = none h.0 (first.behind c h.0 h.1 after) in
          let yes = h.2 in absurd cc)

      module _ (q : ℕ) (next : IsNext pieces p q) where
        -- what is held from there on lies in that piece or after it
        held_behind : (c : BlockId) → IsFrom from c → is_held torrent pieces c ≡ true → (r : ℕ) × LiesIn torrent c r × (q ≤ r)
        held_behind c after e =
            let h = held_lies torrent pieces c e in
            elim (cases_lt h.0 q) [
              | inl lt ↦ absurd (let no = next.least h.0 (first.behind c h.0 h.1 after) lt in let yes = h.2 in cc)
              | inr le ↦ (h.0, h.1, le)
            ]

        pub none_in : total_pieces torrent ≤ q → HasNoFirst (is_held torrent pieces) from
        none_in past c after = not_true _ (λ e. let h = held_behind c after e in absurd (omega (arith, past, h.2, in_torrent c h.0 h.1)))

        module _ (run : BlockRun) (r : ArePieceBlocks torrent q run) where
          abbrev pub begin : BlockId
          begin = record { file = run.file; block = run.first }

          begin_lies : LiesIn torrent begin q
          begin_lies = run_lies q run r

          -- of the blocks that are held from there on, none stands before the piece
          behind_begin : (c : BlockId) → IsFrom from c → is_held torrent pieces c ≡ true → IsFrom begin c
          behind_begin c after e = let h = held_behind c after e in from_run q run r c h.0 h.1 h.2

          -- the piece begins there or after it
          pub begins : IsFrom from begin → IsFirst (is_held torrent pieces) from begin
          begins after = record {
            after = after;
            held = lies_held torrent pieces begin begin_lies next.member;
            least = λ c behind sooner. not_true _ (λ e. apart (behind_begin c behind e) sooner);
          }

          -- it began before
          pub begun : IsBefore begin from → IsFirst (is_held torrent pieces) from from
          begun sooner =
              let most = first.before begin q begin_lies sooner in
              let same : q ≡ p = omega (arith, most, next.after) in
              let here = first.here begin (subst (λ n. LiesIn torrent begin n) same begin_lies) sooner in
              record {
                after = inr (refl, omega arith);
                held = lies_held torrent pieces from (subst (λ n. LiesIn torrent from n) (sym same) here) next.member;
                least = λ c behind before. absurd (apart behind before);
              }

          pub in_place : run.file ≢ from.file → IsFirst (is_held torrent pieces) from begin
          in_place other = elim (cases_lt from.file run.file) [
            | inl lt ↦ begins (inl lt)
            | inr le ↦ absurd (let gt : run.file < from.file = omega (arith, le, other) in never_before gt)
          ]
            where
              never_before : run.file < from.file → ⊥
              never_before lt =
                  let most = first.before begin q begin_lies (inl lt) in
                  let same : q ≡ p = omega (arith, most, next.after) in
                  let here = first.here begin (subst (λ n. LiesIn torrent begin n) same begin_lies) (inl lt) in
                  let run_of = (lies_in_piece torrent q from.file from.block run _ size lay r (lies_range here)).0 (sym same) in
                  absurd (omega (arith, lt, run_of.same_file))

          pub at_latest : (k : ℕ) → run.file ≡ from.file → k ≡ max run.first from.block
              → IsFirst (is_held torrent pieces) from (record { file = run.file; block = k })
          at_latest k same is = elim (cases_lt run.first from.block) [
            | inl lt ↦ (
                let at : from.block ≡ k = omega (arith, is, lt) in
                subst (λ (b : BlockId). IsFirst (is_held torrent pieces) from b) (sym (same_id from (record { file = run.file; block = k }) same (sym at))) (begun (inr (same, lt)))
                )
            | inr le ↦ (
                let at : run.first ≡ k = omega (arith, is, le) in
                subst (λ n. IsFirst (is_held torrent pieces) from (record { file = run.file; block = n })) at (begins (inr (sym same, le)))
                )
          ]
