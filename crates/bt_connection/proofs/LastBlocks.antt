-- Where the short last blocks of a torrent's files stand.
use Rattle.std.proofs.Common.{◌≡◌, ◌≤◌, ◌<◌, ◌+◌, ◌-◌, ◌*◌, ℕ, Bool, true, false, cond, suc, zero, List, [], ◌∷◌, ◌++◌, ◌^◌, take, length, map, get_or, Some, refl, sym, ◌∙◌, ap, subst, arith, inl, inr, Contains, All, ltb}
use Rattle.std.specs.Prelude.{◌/◌, ◌%◌, min, filter, AllPairs, nat_lt}
use Rattle.std.specs.List.Sorted.{IsPartitionedBy, IsPartitionPoint}
use Rattle.std.proofs.lemmas.Bool.{cases_lt}
use Rattle.std.proofs.lemmas.Bool.Decides.{nat_tests}
use Rattle.std.proofs.lemmas.Grind.{div_ceil_times}
use Rattle.std.proofs.lemmas.List.{get_or-map, length-map, map-append, append-nil, take_all}
use Rattle.std.proofs.lemmas.List.Elements.{Contains-append_right, Contains-append_cases, All-get_or, filter_passes, filter_more}
use Rattle.std.proofs.lemmas.List.Kept.{AllPairs-filter}
use Rattle.std.proofs.lemmas.List.Sums.{length-filter, count_by-le-length}
use Rattle.std.proofs.lemmas.Option.{slice_get-get_or}
use Rattle.std.proofs.Math.Nat.{lt_of_mul-lt-mul_right, div-mul-le_self}
use Rattle.bt_tree.specs.TreeShape.{IsPieceLength}
use Rattle.bt_wire.specs.declared.message.Ask.{Ask}
use Rattle.bt_meta.specs.Files.{File, file_of, piece_count}
use Rattle.bt_meta.specs.Torrent.{Metainfo, IsLaidOut, IsLawfulFile}
use Rattle.bt_meta.specs.PieceBlocks.{HasBlock, IsBlockRange}
use Rattle.bt_meta.specs.declared.piece_blocks.PieceRange.{PieceRange}
use Rattle.bt_meta.specs.declared.torrent.FileEntry.{FileEntry}
use Rattle.bt_meta.proofs.PieceBlocks.{found, listed}
use Rattle.bt_meta.proofs.PlacePieces.{ends}
use Rattle.bt_connection.specs.ShortBlocks.{ask_of, has_short_block, short_block, short_blocks_of, AreInTurn, IsShortBlock}
use Rattle.bt_connection.specs.Law.{ShortBlocksAreLast}

-- ---- which files they are of

-- the file at a place has a short block, which is this one
pub record IsOfFile (n : ℕ) (files : List File) (ask : Ask) : Type 0 where
  pub index : ℕ
  pub inside : index < length files
  pub file : File
  pub there : (d : File) → get_or files index d ≡ file
  pub has : has_short_block file ≡ true
  pub is : short_block n file ≡ ask

in_one : (y x : Ask) → Contains (y ∷ []) x → y ≡ x
in_one y x (k, inside, is) =
    let first : k ≡ 0 = omega arith in
    subst (λ (m : ℕ). get_or (y ∷ []) m x ≡ x) first is

abbrev pub blocks_in : ℕ → List File → List Ask
blocks_in n files = map (short_block n) (filter has_short_block files)

next : (n : ℕ) (f : File) (files : List File) (ask : Ask) → IsOfFile n files ask → IsOfFile n (f ∷ files) ask
next n f files ask o =
    record { index = suc o.index; inside = let i = o.inside in omega arith; file = o.file; there = o.there; has = o.has; is = o.is }

of_file : (n : ℕ) (files : List File) (ask : Ask) → Contains (blocks_in n files) ask → IsOfFile n files ask
of_file n [] ask (k, inside, is) = absurd (omega arith)
of_file n (f ∷ files) ask there = go (λ later. of_file n files ask later) (has_short_block f) refl there where
  go : (Contains (blocks_in n files) ask → IsOfFile n files ask) → (b : Bool) → has_short_block f ≡ b → Contains (map (short_block n) (cond b (f ∷ filter has_short_block files) (filter has_short_block files))) ask
      → IsOfFile n (f ∷ files) ask
  go so false fails there = next n f files ask (so there)
  go so true passes there = elim (Contains-append_cases (short_block n f ∷ []) (blocks_in n files) ask there) [
    | inl here ↦ record { index = 0; inside = omega arith; file = f; there = λ d. refl; has = passes; is = in_one (short_block n f) ask here }
    | inr later ↦ next n f files ask (so later)
  ]

there_with : (n : ℕ) (f : File) (files : List File) (ask : Ask) → Contains (blocks_in n files) ask → Contains (blocks_in n (f ∷ files)) ask
there_with n f files ask there = go (has_short_block f) where
  go : (b : Bool) → Contains (map (short_block n) (cond b (f ∷ filter has_short_block files) (filter has_short_block files))) ask
  go true = Contains-append_right (short_block n f ∷ []) (blocks_in n files) ask there
  go false = there

is_there : (n : ℕ) (files : List File) (k : ℕ) (f : File) → k < length files → ((d : File) → get_or files k d ≡ f) → has_short_block f ≡ true
    → Contains (blocks_in n files) (short_block n f)
is_there n [] k f inside at has = absurd (omega arith)
is_there n (g ∷ files) zero f inside at has =
    subst (λ (h : File). Contains (blocks_in n (h ∷ files)) (short_block n f)) (sym (at f))
    (subst (λ (b : Bool). Contains (map (short_block n) (cond b (f ∷ filter has_short_block files) (filter has_short_block files))) (short_block n f)) (sym has)
    (0, omega arith, refl))
is_there n (g ∷ files) (suc k) f inside at has = there_with n g files (short_block n f) (is_there n files k f (omega arith) at has)

-- ---- they are the last blocks that are short

rest_some : (m : ℕ) → nat_lt 0 m ≡ true → 0 < m
rest_some m passes = grind (arith, nat_tests, passes)

some_rest : (m : ℕ) → 0 < m → nat_lt 0 m ≡ true
some_rest m lt = grind (arith, nat_tests)

-- the block after the whole ones is the last one
last_inside : (bytes : ℕ) → 0 < bytes % 16384 → bytes / 16384 < (bytes + 16383) / 16384
last_inside bytes some = omega arith

last_length : (bytes : ℕ) → bytes % 16384 ≡ min 16384 (bytes - 16384 * (bytes / 16384))
last_length bytes = omega arith

block_last : (bytes block n : ℕ) → block < (bytes + 16383) / 16384 → n ≡ min 16384 (bytes - 16384 * block) → n < 16384
    → block ≡ bytes / 16384
block_last bytes block n inside count short = omega arith

block_some : (bytes block n : ℕ) → block < (bytes + 16383) / 16384 → n ≡ min 16384 (bytes - 16384 * block) → n < 16384
    → 0 < bytes % 16384
block_some bytes block n inside count short = omega arith

pub is_short : (torrent : Metainfo) (ask : Ask) → IsOfFile torrent.piece_length torrent.files ask → IsShortBlock torrent ask
is_short torrent ask o =
    let f = o.file in
    let some : 0 < f.length % 16384 = rest_some (f.length % 16384) o.has in
    let block : IsShortBlock torrent (short_block torrent.piece_length f) = record {
      file = o.index;
      block = f.length / 16384;
      whole = record {
        has = record {
          entry = f;
          found = slice_get-get_or torrent.files o.index f o.inside ∙ ap Some (o.there f);
          inside = last_inside f.length some;
        };
        piece = refl;
        begin = refl;
        length = last_length f.length;
      };
      short = omega arith;
    } in
    subst (λ (a : Ask). IsShortBlock torrent a) o.is block

of_short : (torrent : Metainfo) (ask : Ask) → IsShortBlock torrent ask → IsOfFile torrent.piece_length torrent.files ask
of_short torrent ask s =
    let h = s.whole.has in
    let f = h.entry in
    let count = s.whole.length in
    let short = s.short in
    let block = block_last f.length s.block ask.length h.inside count short in
    let start : 16384 * s.block ≡ 16384 * (f.length / 16384) = ap (λ b. 16384 * b) block in
    let piece : ask.piece ≡ f.first_piece + 16384 * (f.length / 16384) / torrent.piece_length
    = s.whole.piece ∙ ap (λ x. f.first_piece + x / torrent.piece_length) start in
    let begin : ask.begin ≡ 16384 * (f.length / 16384) % torrent.piece_length
    = s.whole.begin ∙ ap (λ x. x % torrent.piece_length) start in
    let behind : ask.length ≡ f.length % 16384
    = count ∙ ap (λ b. min 16384 (f.length - 16384 * b)) block ∙ sym (last_length f.length) in
    record {
      index = s.file;
      inside = listed torrent s.file s.block h;
      file = f;
      there = λ d. found torrent s.file s.block h d;
      has = some_rest (f.length % 16384) (block_some f.length s.block ask.length h.inside count short);
      is = sym (ap (λ p. ask_of p ask.begin ask.length) piece ∙ ap (λ b. ask_of (f.first_piece + 16384 * (f.length / 16384) / torrent.piece_length) b ask.length) begin
          ∙ ap (λ m. ask_of (f.first_piece + 16384 * (f.length / 16384) / torrent.piece_length) (16384 * (f.length / 16384) % torrent.piece_length) m) behind);
    }

pub short_blocks_are : ShortBlocksAreLast
unfolding short_blocks_of
short_blocks_are torrent ask = (
  λ there. is_short torrent ask (of_file torrent.piece_length torrent.files ask there),
  λ s.
      let o = of_short torrent ask s in
      subst (λ (a : Ask). Contains (short_blocks_of torrent) a) o.is
      (is_there torrent.piece_length torrent.files o.index o.file o.inside o.there o.has),
)

-- ---- their pieces rise

-- the last block begins in a piece of its file
in_pieces : (n bytes : ℕ) → 0 < n → 0 < bytes % 16384 → 16384 * (bytes / 16384) / n < piece_count n bytes
in_pieces n bytes some rest =
    lt_of_mul-lt-mul_right n (omega (arith, (div_ceil_times bytes n some).0, div-mul-le_self (16384 * (bytes / 16384)) n, rest))

abbrev StandsBefore : ℕ → File → File → Type 0
StandsBefore n f g = has_short_block f ≡ true → (short_block n f).piece < (short_block n g).piece

in_turn : (n : ℕ) (files : List File) → 0 < n → IsLaidOut n files → AllPairs (StandsBefore n) files
in_turn n files some lay i j d lt within has =
    let f : File = get_or files i d in
    omega (arith, ends n files lay i j d within lt, in_pieces n f.length some (rest_some (f.length % 16384) has))

pub are_in_turn : (n : ℕ) (files : List File) → 0 < n → IsLaidOut n files → AreInTurn (blocks_in n files)
are_in_turn n files some lay =
    go (filter has_short_block files) (AllPairs-filter (StandsBefore n) has_short_block files (in_turn n files some lay)) (filter_passes has_short_block files) where
      go : (ys : List File) → AllPairs (StandsBefore n) ys → All (λ f. has_short_block f ≡ true) ys → AreInTurn (map (short_block n) ys)
      go [] pairs all i j d lt within = absurd (omega arith)
      go (f ∷ ys) pairs all i j d lt within =
          let long : length (map (short_block n) (f ∷ ys)) ≡ length (f ∷ ys) = length-map (f ∷ ys) (short_block n) in
          let first = get_or-map (short_block n) (f ∷ ys) i f d (omega (arith, lt, within, long)) in
          let second = get_or-map (short_block n) (f ∷ ys) j f d (omega (arith, within, long)) in
          let has = All-get_or (λ g. has_short_block g ≡ true) (f ∷ ys) i f (omega (arith, lt, within, long)) all in
          omega (arith, pairs i j f lt (omega (arith, within, long)) has, ap (λ (a : Ask). a.piece) first, ap (λ (a : Ask). a.piece) second)

-- ---- where one is looked for

pub parted : (blocks : List Ask) (piece : ℕ) → AreInTurn blocks → IsPartitionedBy (λ ask. ltb ask.piece piece) blocks
parted blocks piece turn i j d le within low = elim (cases_lt i j) [
  | inl lt ↦ let before = turn i j d lt within in grind (arith, nat_tests, before, low)
  | inr from ↦ let same : i ≡ j = omega (arith, le, from) in subst (λ k. ltb (get_or blocks k d).piece piece ≡ true) (sym same) low
]

-- what is asked for stands at the point before which all pieces are lower
stands : (blocks : List Ask) (ask : Ask) (piece point : ℕ) → AreInTurn blocks → Contains blocks ask → ask.piece ≡ piece
    → IsPartitionPoint (λ a. ltb a.piece piece ≡ true) (λ a. ltb a.piece piece ≡ false) blocks point
    → (point < length blocks) × (get_or blocks point ask ≡ ask)
stands blocks ask piece point turn (k, inside, is) in-piece halves =
    let here = ap (λ (a : Ask). a.piece) is in
    let same : point ≡ k = elim (cases_lt k point) [
      | inl low ↦ let below = halves.0 k ask (omega arith) low in absurd (grind (arith, nat_tests, below, here, in-piece))
      | inr from ↦ elim (cases_lt point k) [
        | inl lt ↦
            let above = halves.1 point ask (omega arith) (omega (arith, lt, inside)) in
            let before = turn point k ask lt inside in
            absurd (grind (arith, nat_tests, above, before, here, in-piece))
        | inr to ↦ omega (arith, from, to)
      ]
    ] in
    (omega (arith, same, inside), subst (λ i. get_or blocks i ask ≡ ask) (sym same) is)

-- so it is what is found there
pub is_found : (now items seen : List Ask) (ask : Ask) (piece point : ℕ) → items ≡ now → seen ≡ items → AreInTurn items → Contains now ask
    → ask.piece ≡ piece → IsPartitionPoint (λ a. ltb a.piece piece ≡ true) (λ a. ltb a.piece piece ≡ false) items point
    → (point < length seen) × (get_or seen point ask ≡ ask)
is_found now items seen ask piece point view same turn there in-piece halves =
    let s = stands items ask piece point turn (subst (λ (xs : List Ask). Contains xs ask) (sym view) there) in-piece halves in
    (omega (arith, s.0, ap length same), ap (λ (xs : List Ask). get_or xs point ask) same ∙ s.1)

-- ---- how they are gathered

module _ (n : ℕ) (items : List FileEntry) (files : List File) (said : map file_of items ≡ files) (k : ℕ) (e : FileEntry) (at : e ≡ get_or items k e) (inside : k < length items) where
  pub entry_there : (d : File) → get_or files k d ≡ file_of e
  entry_there d = subst (λ (fs : List File). get_or fs k d ≡ file_of e) said (get_or-map file_of items k e d inside ∙ ap file_of (sym at))

  pub entry_inside : k < length files
  entry_inside = omega (arith, inside, length-map items file_of, ap length said)

  pub entry_short : All (IsLawfulFile n) (map file_of items) → e.length ≤ 2 ^ 40
  entry_short lawful =
      let here = All-get_or (IsLawfulFile n) (map file_of items) k (file_of e) (omega (arith, inside, length-map items file_of)) lawful in
      let same = get_or-map file_of items k e (file_of e) inside ∙ ap file_of (sym at) in
      let short = here.short in
      omega (arith, short, ap (λ (f : File). f.length) same)

module _ (torrent : Metainfo) (k : ℕ) (f : File) (inside : k < length torrent.files) (there : (d : File) → get_or torrent.files k d ≡ f) where
  abbrev n : ℕ
  n = torrent.piece_length

  more : blocks_in n (take (k + 1) torrent.files) ≡ blocks_in n (take k torrent.files) ++ map (short_block n) (cond (has_short_block f) (f ∷ []) [])
  more =
      ap (map (short_block n)) (filter_more has_short_block torrent.files k f inside)
      ∙ ap (λ (g : File). map (short_block n) (filter has_short_block (take k torrent.files) ++ cond (has_short_block g) (g ∷ []) [])) (there f)
      ∙ map-append (short_block n) (filter has_short_block (take k torrent.files)) (cond (has_short_block f) (f ∷ []) [])

  pub one_pushed : (range : PieceRange) → IsBlockRange torrent k (f.length / 16384) range
      → blocks_in n (take (k + 1) torrent.files) ≡ blocks_in n (take k torrent.files) ++ ask_of range.piece range.begin range.length ∷ []
  one_pushed range is =
      let entry : is.has.entry ≡ f = sym (found torrent k (f.length / 16384) is.has f) ∙ there f in
      let within : f.length / 16384 < (f.length + 16383) / 16384 = subst (λ (g : File). f.length / 16384 < (g.length + 16383) / 16384) entry is.has.inside in
      let has : has_short_block f ≡ true = some_rest (f.length % 16384) (omega (arith, within)) in
      let piece : range.piece ≡ f.first_piece + 16384 * (f.length / 16384) / n
      = is.piece ∙ ap (λ (g : File). g.first_piece + 16384 * (f.length / 16384) / n) entry in
      let behind : range.length ≡ f.length % 16384
      = is.length ∙ ap (λ (g : File). min 16384 (g.length - 16384 * (f.length / 16384))) entry ∙ sym (last_length f.length) in
      let same : short_block n f ≡ ask_of range.piece range.begin range.length
      = sym (ap (λ p. ask_of p range.begin range.length) piece ∙ ap (λ b. ask_of (f.first_piece + 16384 * (f.length / 16384) / n) b range.length) is.begin
      ∙ ap (λ m. ask_of (f.first_piece + 16384 * (f.length / 16384) / n) (16384 * (f.length / 16384) % n) m) behind) in
      more ∙ ap (λ (b : Bool). blocks_in n (take k torrent.files) ++ map (short_block n) (cond b (f ∷ []) [])) has
      ∙ ap (λ (a : Ask). blocks_in n (take k torrent.files) ++ a ∷ []) same

  pub none_pushed : ¬ HasBlock torrent k (f.length / 16384) → blocks_in n (take (k + 1) torrent.files) ≡ blocks_in n (take k torrent.files)
  none_pushed none = go (has_short_block f) refl where
    go : (b : Bool) → has_short_block f ≡ b → blocks_in n (take (k + 1) torrent.files) ≡ blocks_in n (take k torrent.files)
    go true has = absurd (none (record {
      entry = f;
      found = slice_get-get_or torrent.files k f inside ∙ ap Some (there f);
      inside = last_inside f.length (rest_some (f.length % 16384) has);
    }))
    go false fails =
        more ∙ ap (λ (b : Bool). blocks_in n (take k torrent.files) ++ map (short_block n) (cond b (f ∷ []) [])) fails
        ∙ append-nil (blocks_in n (take k torrent.files))

-- all of them
pub all_gathered : (torrent : Metainfo) (items : List Ask) (k : ℕ) → items ≡ blocks_in torrent.piece_length (take k torrent.files) → length torrent.files ≤ k
    → items ≡ short_blocks_of torrent
unfolding short_blocks_of
all_gathered torrent items k so all = so ∙ ap (blocks_in torrent.piece_length) (take_all k torrent.files all)

pub blocks_few : (torrent : Metainfo) → length (short_blocks_of torrent) ≤ length torrent.files
unfolding short_blocks_of
blocks_few torrent =
    omega (
      arith,
      length-map (filter has_short_block torrent.files) (short_block torrent.piece_length),
      length-filter has_short_block torrent.files,
      count_by-le-length has_short_block torrent.files,
    )

pub gathered_in_turn : (torrent : Metainfo) → IsPieceLength torrent.piece_length → IsLaidOut torrent.piece_length torrent.files
    → AreInTurn (short_blocks_of torrent)
unfolding short_blocks_of
gathered_in_turn torrent size lay = let least = size.least in are_in_turn torrent.piece_length torrent.files (omega arith) lay
