-- The blocks of a piece, and the range of its piece that a block is.
use Rattle.bt_meta.proofs.Base.{◌≡◌, ◌≤◌, ◌<◌, ◌+◌, ◌-◌, ◌*◌, ◌^◌, ℕ, List, [], ◌∷◌, length, map, refl, sym, ◌∙◌, ap, arith, inl, inr, cases_lt, Some, suc, take, get_or, sum_by, length-map, take_all, File, file_of, piece_count, Metainfo, IsLaidOut, FileEntry}
use Rattle.std.specs.Prelude.{◌/◌, ◌%◌, ◌↔◌, min, slice_get}
use Rattle.std.proofs.lemmas.Grind.{div_ceil_times}
use Rattle.std.proofs.lemmas.Nat.{pow_pos, div-mul-add, mod-mul-add, div-add-mod'}
use Rattle.std.proofs.lemmas.Option.{slice_get_within, slice_get-get_or, get_or_from_slice_get}
use Rattle.std.proofs.lemmas.List.Sums.{sum_by_more, sum_by_more_le}
use Rattle.std.proofs.Math.Nat.{pow-suc, lt_of_mul-lt-mul_right}
use Rattle.bt_tree.specs.Blocks.{block_count, block_length}
use Rattle.bt_tree.specs.TreeShape.{height_of, IsPieceLength}
use Rattle.bt_tree.proofs.TreeShape.{height_is, piece_layer_is, IsPieceLayer, pow_le, real_le}
use Rattle.bt_meta.specs.Torrent.{total_pieces}
use Rattle.bt_meta.specs.Place.{IsPlace}
use Rattle.bt_meta.specs.PlaceSteps.{IsLastFileAt, HasNoFileAt}
use Rattle.bt_meta.specs.PieceBlocks.{HasBlock, ArePieceBlocks, IsOfRun, IsBlockRange}
use Rattle.bt_meta.specs.declared.torrent.Span.{Span}
use Rattle.bt_meta.specs.declared.piece_blocks.BlockRun.{BlockRun}
use Rattle.bt_meta.specs.declared.piece_blocks.PieceRange.{PieceRange}
use Rattle.bt_meta.proofs.PlacePieces.{ends, entry_at}

-- the layer of a piece length
pub layer_of_length : (bytes : ℕ) → IsPieceLength bytes → IsPieceLayer bytes (height_of (bytes / 16384 + 1) - 1)
layer_of_length bytes h =
    let h_of : ℕ = height_of (bytes / 16384 + 1) in
    let shape = height_is (bytes / 16384 + 1) in
    let enough : bytes / 16384 + 1 ≤ 2 ^ h_of = shape.enough in
    let some : 1 ≤ h_of = elim (cases_lt 0 h_of) [ inl lt ↦ omega arith | inr none ↦ let zero_height : h_of ≡ 0 = omega arith in absurd (omega (arith, enough, h.least, ap (λ k. 2 ^ k) zero_height)) ] in
    let up : h_of ≡ suc (h_of - 1) = omega (arith, some) in
    let next : 2 ^ h_of ≡ 2 * 2 ^ (h_of - 1) = omega (arith, ap (λ k. 2 ^ k) up, pow-suc 2 (h_of - 1)) in
    let low : 2 ^ (h_of - 1) ≤ bytes / 16384 = elim (cases_lt (bytes / 16384) (2 ^ (h_of - 1))) [
      | inl lt ↦ let less : h_of ≤ h_of - 1 = shape.least (h_of - 1) (omega (arith, lt)) in absurd (omega (arith, less, some))
      | inr le ↦ le
    ] in
    piece_layer_is bytes (h_of - 1) h low (omega (arith, enough, next))

-- how many blocks a piece has
pub record HasPieceOf (n m : ℕ) : Type 0 where
  pub some : 0 < m
  pub whole : n ≡ 16384 * m

pub blocks_per_piece : (n : ℕ) → IsPieceLength n → (m : ℕ) × HasPieceOf n m
blocks_per_piece n h = let layer = layer_of_length n h in (2 ^ (height_of (n / 16384 + 1) - 1), record { some = pow_pos _; whole = layer.value })

module _ (n m : ℕ) (is : HasPieceOf n m) (b : ℕ) where
  in_bytes : b / m * n ≡ 16384 * (b / m * m)
  in_bytes = let whole = is.whole in ap (λ p. b / m * p) whole ∙ omega arith

  split : 16384 * b ≡ b / m * n + 16384 * (b % m)
  split = omega (arith, in_bytes, div-add-mod' b m)

  rest : 16384 * (b % m) < n
  rest = let some = is.some in omega (arith, is.whole)

  pub quotient : 16384 * b / n ≡ b / m
  quotient = ap (λ x. x / n) split ∙ div-mul-add (b / m) n (16384 * (b % m)) rest

  pub remainder : 16384 * b % n ≡ 16384 * (b % m)
  remainder = ap (λ x. x % n) split ∙ mod-mul-add (b / m) n (16384 * (b % m)) rest

-- a piece that begins before the file's end is a piece of the file
within_pieces : (n length q : ℕ) → 0 < n → q * n < length → q < piece_count n length
within_pieces n length q some lt = lt_of_mul-lt-mul_right n (omega (arith, (div_ceil_times length n some).0))

-- ---- one block of a torrent whose pieces have m blocks each

module _ (torrent : Metainfo) (file block : ℕ) (h : HasBlock torrent file block) where
  pub listed : file < length torrent.files
  listed = slice_get_within torrent.files file h.entry h.found

  pub found : (d : File) → get_or torrent.files file d ≡ h.entry
  found d = get_or_from_slice_get torrent.files file h.entry d h.found

  pub begins_inside : 16384 * block < h.entry.length
  begins_inside = let inside = h.inside in omega arith

  module _ (m : ℕ) (is : HasPieceOf torrent.piece_length m) where
    in_file : block / m < piece_count torrent.piece_length h.entry.length
    in_file =
        let some = is.some in
        within_pieces torrent.piece_length h.entry.length (block / m) (omega (arith, is.whole))
        (omega (arith, split torrent.piece_length m is block, begins_inside))

    pub is_piece : IsLaidOut torrent.piece_length torrent.files → h.entry.first_piece + block / m < total_pieces torrent
    is_piece lay =
        let there = found h.entry in
        let first = lay.in_turn file h.entry listed in
        let sum = sum_by_more_le (λ f. piece_count torrent.piece_length f.length) torrent.files file h.entry listed in
        omega (arith, in_file, ap (λ f. f.first_piece) there, ap (λ f. piece_count torrent.piece_length f.length) there)

    pub range_is : (range : PieceRange) → range.piece ≡ h.entry.first_piece + block / m → range.begin ≡ 16384 * (block % m)
        → range.length ≡ min 16384 (h.entry.length - 16384 * block) → IsBlockRange torrent file block range
    range_is range piece begin count = record {
      has = h;
      piece = piece ∙ ap (λ q. h.entry.first_piece + q) (sym (quotient torrent.piece_length m is block));
      begin = begin ∙ sym (remainder torrent.piece_length m is block);
      length = count;
    }

module _ (torrent : Metainfo) (lay : IsLaidOut torrent.piece_length torrent.files) (m : ℕ) (is : HasPieceOf torrent.piece_length m) where
  -- blocks in one piece are of one file
  apart : (file block other another : ℕ) (h : HasBlock torrent file block) (k : HasBlock torrent other another) → file < other
      → h.entry.first_piece + block / m < k.entry.first_piece
  apart file block other another h k lt =
      let before = ends torrent.piece_length torrent.files lay file other h.entry (listed torrent other another k) lt in
      omega (
        arith,
        before,
        in_file torrent file block h m is,
        ap (λ f. f.first_piece + piece_count torrent.piece_length f.length) (found torrent file block h h.entry),
        ap (λ f. f.first_piece) (found torrent other another k h.entry),
      )

  same_file : (file block other another : ℕ) (h : HasBlock torrent file block) (k : HasBlock torrent other another)
      → h.entry.first_piece + block / m ≡ k.entry.first_piece + another / m → file ≡ other
  same_file file block other another h k same = elim (cases_lt file other) [
    | inl before ↦ absurd (omega (arith, apart file block other another h k before))
    | inr from ↦ elim (cases_lt other file) [
      | inl after ↦ absurd (omega (arith, apart other another file block k h after))
      | inr to ↦ omega arith
    ]
  ]

-- ---- the laws

module _ (torrent : Metainfo) (piece : ℕ) (run : BlockRun) (r : ArePieceBlocks torrent piece run) where
  -- where a run begins, and how far it goes
  module _ (m : ℕ) (is : HasPieceOf torrent.piece_length m) where
    begins_at : run.first ≡ (piece - r.first_block.entry.first_piece) * m
    begins_at =
        let bytes : (piece - r.first_block.entry.first_piece) * torrent.piece_length ≡ 16384 * ((piece - r.first_block.entry.first_piece) * m) =
        let whole = is.whole in ap (λ p. (piece - r.first_block.entry.first_piece) * p) whole ∙ omega arith in
        omega (arith, r.first, bytes)

    goes_on : run.count ≡ min m (block_count r.first_block.entry.length - run.first)
    goes_on = omega (arith, r.count, is.whole)

    first_piece_is : run.first / m ≡ piece - r.first_block.entry.first_piece
    first_piece_is =
        let q : ℕ = piece - r.first_block.entry.first_piece in
        let at : run.first ≡ q * m + 0 = omega (arith, begins_at) in
        ap (λ x. x / m) at ∙ div-mul-add q m 0 is.some

  pub run_has : (file block : ℕ) → IsOfRun run file block → HasBlock torrent file block
  run_has file block o = record {
    entry = r.first_block.entry;
    found = ap (λ n. slice_get torrent.files n) o.same_file ∙ r.first_block.found;
    inside = omega (arith, o.below, r.count);
  }

module _ (torrent : Metainfo) (piece file block : ℕ) (run : BlockRun) (range : PieceRange) (m : ℕ) (is : HasPieceOf torrent.piece_length m) (lay : IsLaidOut torrent.piece_length torrent.files) (r : ArePieceBlocks torrent piece run) (b : IsBlockRange torrent file block range) where
  range_piece : range.piece ≡ b.has.entry.first_piece + block / m
  range_piece = b.piece ∙ ap (λ q. b.has.entry.first_piece + q) (quotient torrent.piece_length m is block)

  in_run : range.piece ≡ piece → IsOfRun run file block
  in_run same =
      let at = first_piece_is torrent piece run r m is in
      let one : file ≡ run.file = same_file torrent lay m is file block run.file run.first b.has r.first_block (omega (arith, range_piece, same, at, r.from)) in
      let entry : b.has.entry ≡ r.first_block.entry = entries one in
      let q : block / m ≡ piece - r.first_block.entry.first_piece = omega (arith, range_piece, same, ap (λ f. f.first_piece) entry) in
      let turn : block / m * m ≡ run.first = ap (λ x. x * m) q ∙ sym (begins_at torrent piece run r m is) in
      let inside = b.has.inside in
      record {
        same_file = one;
        from = omega (arith, turn, div-add-mod' block m);
        below = omega (arith, turn, div-add-mod' block m, is.some, goes_on torrent piece run r m is, inside, ap (λ f. block_count f.length) entry);
      }
    where
      entries : file ≡ run.file → b.has.entry ≡ r.first_block.entry
      entries one = sym (found torrent file block b.has b.has.entry) ∙ ap (λ n. get_or torrent.files n b.has.entry) one ∙ found torrent run.file run.first r.first_block b.has.entry

  of_piece : IsOfRun run file block → (range.piece ≡ piece) × (range.begin ≡ 16384 * (block - run.first))
  of_piece o =
      let q : ℕ = piece - r.first_block.entry.first_piece in
      let entry : b.has.entry ≡ r.first_block.entry =
      sym (found torrent file block b.has b.has.entry) ∙ ap (λ n. get_or torrent.files n b.has.entry) o.same_file ∙ found torrent run.file run.first r.first_block b.has.entry in
      let at = begins_at torrent piece run r m is in
      let shift : block ≡ q * m + (block - run.first) = omega (arith, o.from, at) in
      let small : block - run.first < m = omega (arith, o.below, o.from, goes_on torrent piece run r m is) in
      let turn : block / m ≡ q = ap (λ x. x / m) shift ∙ div-mul-add q m (block - run.first) small in
      let left : block % m ≡ block - run.first = ap (λ x. x % m) shift ∙ mod-mul-add q m (block - run.first) small in (
        omega (arith, range_piece, turn, r.from, ap (λ f. f.first_piece) entry),
        b.begin ∙ remainder torrent.piece_length m is block ∙ ap (λ x. 16384 * x) left,
      )

pub lies_in_piece : (torrent : Metainfo) (piece file block : ℕ) (run : BlockRun) (range : PieceRange) → IsPieceLength torrent.piece_length
    → IsLaidOut torrent.piece_length torrent.files → ArePieceBlocks torrent piece run → IsBlockRange torrent file block range
    → (range.piece ≡ piece) ↔ IsOfRun run file block
lies_in_piece torrent piece file block run range size lay r b =
    let p = blocks_per_piece torrent.piece_length size in
    (in_run torrent piece file block run range p.0 p.1 lay r b, λ o. (of_piece torrent piece file block run range p.0 p.1 lay r b o).0)

pub begins_behind : (torrent : Metainfo) (piece file block : ℕ) (run : BlockRun) (range : PieceRange) → IsPieceLength torrent.piece_length
    → IsLaidOut torrent.piece_length torrent.files → ArePieceBlocks torrent piece run → IsBlockRange torrent file block range
    → IsOfRun run file block → range.begin ≡ 16384 * (block - run.first)
begins_behind torrent piece file block run range size lay r b o =
    let p = blocks_per_piece torrent.piece_length size in (of_piece torrent piece file block run range p.0 p.1 lay r b o).1

module _ (torrent : Metainfo) (file block : ℕ) (range : PieceRange) (m : ℕ) (is : HasPieceOf torrent.piece_length m) (b : IsBlockRange torrent file block range) where
  turned : range.piece ≡ b.has.entry.first_piece + block / m
  turned = b.piece ∙ ap (λ q. b.has.entry.first_piece + q) (quotient torrent.piece_length m is block)

  placed : IsPlace torrent range.piece range.begin range.length (record { file = file; start = 16384 * block; length = range.length })
  placed =
      let begin : range.begin ≡ 16384 * (block % m) = b.begin ∙ remainder torrent.piece_length m is block in
      let turn : range.piece - b.has.entry.first_piece ≡ block / m = omega (arith, turned) in
      let whole = is.whole in
      let some = is.some in
      let inside = begins_inside torrent file block b.has in
      let count = b.length in
      record {
        file = b.has.entry;
        listed = listed torrent file block b.has;
        found = found torrent file block b.has;
        from = omega (arith, turned);
        below = omega (arith, turned, in_file torrent file block b.has m is);
        start = omega (arith, split torrent.piece_length m is block, begin, ap (λ q. q * torrent.piece_length) turn);
        all = refl;
        some = omega (arith, count, inside);
        block = omega (arith, count);
        in_piece = omega (arith, count, begin, whole, some);
        in_file = omega (arith, count, inside);
      }

pub has_piece : (torrent : Metainfo) (file block : ℕ) (range : PieceRange) → IsPieceLength torrent.piece_length
    → IsLaidOut torrent.piece_length torrent.files → IsBlockRange torrent file block range → range.piece < total_pieces torrent
has_piece torrent file block range size lay b =
    let p = blocks_per_piece torrent.piece_length size in
    omega (arith, turned torrent file block range p.0 p.1 b, is_piece torrent file block b.has p.0 p.1 lay)

pub is_place : (torrent : Metainfo) (file block : ℕ) (range : PieceRange) → IsPieceLength torrent.piece_length → IsBlockRange torrent file block range
    → IsPlace torrent range.piece range.begin range.length (record { file = file; start = 16384 * block; length = range.length })
is_place torrent file block range size b = let p = blocks_per_piece torrent.piece_length size in placed torrent file block range p.0 p.1 b

pub is_range : (torrent : Metainfo) (piece begin count block : ℕ) (span : Span) (place : IsPlace torrent piece begin count span)
    → span.start ≡ 16384 * block → count ≡ block_length place.file.length block
    → IsBlockRange torrent span.file block (record { piece = piece; begin = begin; length = count })
is_range torrent piece begin count block span p start whole =
    let q : ℕ = piece - p.file.first_piece in
    let small : begin < torrent.piece_length = omega (arith, p.in_piece, p.some) in
    let at : 16384 * block ≡ q * torrent.piece_length + begin = sym start ∙ p.start in
    let turn : 16384 * block / torrent.piece_length ≡ q = ap (λ x. x / torrent.piece_length) at ∙ div-mul-add q torrent.piece_length begin small in
    let left : 16384 * block % torrent.piece_length ≡ begin = ap (λ x. x % torrent.piece_length) at ∙ mod-mul-add q torrent.piece_length begin small in
    record {
      has = record {
        entry = p.file;
        found = slice_get-get_or torrent.files span.file p.file p.listed ∙ ap Some (p.found p.file);
        inside = omega (arith, start, p.in_file, p.some);
      };
      piece = omega (arith, turn, p.from);
      begin = sym left;
      length = whole;
    }

-- ---- what the functions compute

-- how many blocks a piece has, by the layer of a piece
pub shifted : (n layer : ℕ) → n ≡ 16384 * 2 ^ layer → layer ≤ 14 → HasPieceOf n (1 * 2 ^ layer % 4294967296)
shifted n layer e limit =
    let low = pow_pos layer in
    let high = pow_le layer 14 limit in
    record { some = omega arith; whole = omega arith }

module _ (torrent : Metainfo) (items : List FileEntry) (said : map file_of items ≡ torrent.files) (file block : ℕ) where
  as_many : length torrent.files ≡ length items
  as_many = ap (λ files. length files) (sym said) ∙ length-map items file_of

  module _ (e : FileEntry) (at : e ≡ get_or items file e) (within : file < length items) where
    here : (d : File) → get_or torrent.files file d ≡ file_of e
    here = entry_at torrent.files items said file e at (omega (arith, as_many))

    pub block_of_entry : 16384 * block < e.length → (h : HasBlock torrent file block) × (h.entry ≡ file_of e)
    block_of_entry inside = (
      record {
        entry = file_of e;
        found = slice_get-get_or torrent.files file (file_of e) (omega (arith, as_many)) ∙ ap Some (here (file_of e));
        inside = omega arith;
      },
      refl,
    )

    module _ (inside : 16384 * block < e.length) (m : ℕ) (is : HasPieceOf torrent.piece_length m) where
      pub entry_piece : IsLaidOut torrent.piece_length torrent.files → e.first_piece + block / m < total_pieces torrent
      entry_piece lay =
          let h = block_of_entry inside in
          omega (arith, is_piece torrent file block h.0 m is lay, ap (λ f. f.first_piece) h.1)

      pub entry_range : (range : PieceRange) → range.piece ≡ e.first_piece + block / m → range.begin ≡ 16384 * (block % m)
          → range.length ≡ min 16384 (e.length - 16384 * block) → IsBlockRange torrent file block range
      entry_range range piece begin count =
          let h = block_of_entry inside in
          range_is torrent file block h.0 m is range (omega (arith, piece, ap (λ f. f.first_piece) h.1)) begin (omega (arith, count, ap (λ f. f.length) h.1))

-- a piece of which a file begins at its place or before
module _ (torrent : Metainfo) (lay : IsLaidOut torrent.piece_length torrent.files) (piece : ℕ) where
  no_entry : File
  no_entry = record { path = []; length = 0; root = []; first_piece = 0; layer = [] }

  -- the first file begins at piece 0
  pub some_file : 0 < length torrent.files → HasNoFileAt torrent.files piece → ⊥
  some_file some none =
      let first : (get_or torrent.files 0 no_entry).first_piece ≡ 0 = lay.in_turn 0 no_entry some ∙ none_before torrent.files in
      absurd (omega (arith, none 0 no_entry some, first))
    where
      none_before : (files : List File) → sum_by (λ f. piece_count torrent.piece_length f.length) (take 0 files) ≡ 0
      none_before [] = refl
      none_before (f ∷ files) = refl

  module _ (index : ℕ) (f : File) (last : IsLastFileAt torrent.files piece index) (at : (d : File) → get_or torrent.files index d ≡ f) (m : ℕ) (is : HasPieceOf torrent.piece_length m) where
    next : sum_by (λ g. piece_count torrent.piece_length g.length) (take (index + 1) torrent.files) ≡ f.first_piece + piece_count torrent.piece_length f.length
    next =
        let more = sum_by_more (λ g. piece_count torrent.piece_length g.length) torrent.files index f last.listed in
        omega (arith, more, lay.in_turn index f last.listed, ap (λ g. g.first_piece) (at f), ap (λ g. piece_count torrent.piece_length g.length) (at f))

    -- the pieces end before it
    pub past_end : block_count f.length ≤ (piece - f.first_piece) * m → total_pieces torrent ≤ piece
    past_end past =
        let from : f.first_piece ≤ piece = omega (arith, last.begun f, ap (λ g. g.first_piece) (at f)) in
        let bytes : (piece - f.first_piece) * torrent.piece_length ≡ 16384 * ((piece - f.first_piece) * m) =
        let whole = is.whole in ap (λ p. (piece - f.first_piece) * p) whole ∙ omega arith in
        let some : 0 < torrent.piece_length = omega (arith, is.some, is.whole) in
        let count : piece_count torrent.piece_length f.length ≤ piece - f.first_piece =
        real_le f.length torrent.piece_length (piece - f.first_piece) some (omega (arith, past, bytes)) in
        elim (cases_lt (index + 1) (length torrent.files)) [
          | inl lt ↦ absurd (omega (arith, last.last (index + 1) f (omega arith) lt, lay.in_turn (index + 1) f lt, next, count, from))
          | inr le ↦ let all = ap (λ files. sum_by (λ g. piece_count torrent.piece_length g.length) files) (take_all (index + 1) torrent.files le) in omega (arith, all, next, count, from)
        ]

    -- the block at which it begins
    module _ (first : ℕ) (e : first ≡ (piece - f.first_piece) * m) (inside : first < block_count f.length) where
      from : f.first_piece ≤ piece
      from = omega (arith, last.begun f, ap (λ g. g.first_piece) (at f))

      found_there : slice_get torrent.files index ≡ Some f
      found_there = slice_get-get_or torrent.files index f last.listed ∙ ap Some (at f)

      pub piece_there : piece < total_pieces torrent
      piece_there =
          let q : ℕ = piece - f.first_piece in
          let shift : first ≡ q * m + 0 = omega (arith, e) in
          let turn : first / m ≡ q = ap (λ x. x / m) shift ∙ div-mul-add q m 0 is.some in
          let h : HasBlock torrent index first = record { entry = f; found = found_there; inside = inside } in
          let below : f.first_piece + first / m < total_pieces torrent = is_piece torrent index first h m is lay in
          omega (arith, below, turn, from)

      pub run_is : (run : BlockRun) → run.file ≡ index → run.first ≡ first → run.count ≡ min (block_count f.length - first) m
          → ArePieceBlocks torrent piece run
      run_is run file begins count =
          let bytes : (piece - f.first_piece) * torrent.piece_length ≡ 16384 * ((piece - f.first_piece) * m) =
          let whole = is.whole in ap (λ p. (piece - f.first_piece) * p) whole ∙ omega arith in
          record {
            first_block = record {
              entry = f;
              found = ap (λ n. slice_get torrent.files n) file ∙ found_there;
              inside = omega (arith, begins, inside);
            };
            from = from;
            first = omega (arith, begins, e, bytes);
            count = omega (arith, begins, count, is.whole);
          }
