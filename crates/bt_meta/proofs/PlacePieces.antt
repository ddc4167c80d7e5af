-- The files of a torrent take its pieces one after the other.
use Rattle.bt_meta.proofs.Base.{◌≡◌, ◌≤◌, ◌<◌, ◌+◌, ◌-◌, ◌*◌, ℕ, List, length, map, refl, sym, ◌∙◌, ap, arith, leb, leb-true, true, false, [], ◌∷◌, Option, Some, None, rules, take, get_or, sum_by, IfSome, get_or-map, length-map, File, file_of, piece_count, Metainfo, IsLaidOut, FileEntry}
use Rattle.std.specs.Prelude.{SomeIff, IfNone}
use Rattle.std.proofs.lemmas.Bool.{leb-false}
use Rattle.std.proofs.lemmas.List.{take-take}
use Rattle.std.proofs.lemmas.Grind.{div_ceil_times}
use Rattle.std.proofs.Math.Nat.{lt_of_mul-lt-mul_right}
use Rattle.std.proofs.lemmas.List.Sums.{sum_by_more, sum_by-take-le}
use Rattle.std.specs.List.Sorted.{IsPartitionedBy, IsPartitionPoint}
use Rattle.bt_tree.specs.Limits.{full_block_length}
use Rattle.std.proofs.lemmas.List.Sorted.{IsPartitionedBy-leb}
use Rattle.bt_meta.specs.Place.{IsPlace}
use Rattle.bt_meta.specs.PlaceSteps.{IsLastFileAt, HasNoFileAt}
use Rattle.bt_meta.specs.declared.torrent.Span.{Span}

module _ (n : ℕ) (files : List File) (lay : IsLaidOut n files) (j k : ℕ) (d : File) (within : k < length files) where
  sums_rise : (i : ℕ) → i ≤ k → sum_by (λ f. piece_count n f.length) (take i files) ≤ sum_by (λ f. piece_count n f.length) (take k files)
  sums_rise i le = rw (take-take i k files le) at (sum_by-take-le (λ f. piece_count n f.length) (take k files) i)

  -- the file at j begins no later than that at k
  begins : j ≤ k → (get_or files j d).first_piece ≤ (get_or files k d).first_piece
  begins le = rw (lay.in_turn j d (omega arith), lay.in_turn k d within) (sums_rise j le)

  -- one before it ends there or before
  pub ends : j < k → (get_or files j d).first_piece + piece_count n (get_or files j d).length ≤ (get_or files k d).first_piece
  ends lt = rw (lay.in_turn j d (omega arith), lay.in_turn k d within)
      (rw (sum_by_more (λ f. piece_count n f.length) files j d (omega arith)) at (sums_rise (j + 1) (omega arith)))

-- ---- the entries of a torrent

abbrev IsPoint : List FileEntry → ℕ → ℕ → Type 0
IsPoint items piece point = IsPartitionPoint (λ e. leb e.first_piece piece ≡ true) (λ e. leb e.first_piece piece ≡ false) items point

-- an entry, by its file
pub entry_at : (files : List File) (items : List FileEntry) → map file_of items ≡ files
    → (k : ℕ) (e : FileEntry) → e ≡ get_or items k e → k < length files → (d : File) → get_or files k d ≡ file_of e
entry_at files items same k e at listed d = rw (← same) (get_or-map file_of items k e d (rw (← same, length-map) at listed) ∙ ap file_of (sym at))

pub entries_parted : (items : List FileEntry) (n piece : ℕ) → IsLaidOut n (map file_of items) → IsPartitionedBy (λ e. leb e.first_piece piece) items
entries_parted items n piece lay = IsPartitionedBy-leb (λ e. e.first_piece) items piece (λ i j d le within.
    rw (get_or-map file_of items i d (file_of d) (omega arith), get_or-map file_of items j d (file_of d) within) at
    (begins n (map file_of items) lay i j (file_of d) (rw length-map within) le))

file_there : (P : File → Type 0) (items : List FileEntry) (k : ℕ) (d : File) → k < length items → ((e : FileEntry) → P (file_of (get_or items k e)))
    → P (get_or (map file_of items) k d)
file_there P [] k d lt h = absurd (omega arith)
file_there P (e ∷ items) k d lt h = rw (get_or-map file_of (e ∷ items) k e d lt) (h e)

module _ (items : List FileEntry) (piece point : ℕ) (h : IsPoint items piece point) (within : point ≤ length items) where
  behind : (k : ℕ) (d : File) → point ≤ k → k < length (map file_of items) → piece < (get_or (map file_of items) k d).first_piece
  behind k d after listed =
      let listed = rw length-map at listed in
      file_there (λ f. piece < f.first_piece) items k d listed (λ e. leb-false _ _ (h.1 k e after listed))

  -- what is one below the point, if there is such a place
  pub below_point : (r : Option ℕ) → SomeIff r (1 ≤ point) (point - 1)
      → IfSome r (IsLastFileAt (map file_of items) piece) × IfNone r (HasNoFileAt (map file_of items) piece)
  below_point (Some index) one =
      let some : 1 ≤ point = search rules in
      let p : index ≡ point - 1 = search rules in
      rw p (
        record {
          listed = omega (arith, length-map items file_of);
          begun = λ d. file_there (λ f. f.first_piece ≤ piece) items _ d (omega arith) (λ e. leb-true _ _ (h.0 (point - 1) e (omega arith) (omega arith)));
          last = λ k d after. behind k d (omega arith);
        },
        tt,
      )
  below_point None one = (tt, λ k d. behind k d (omega (arith, one)))

-- ---- the place of a range

module _ (torrent : Metainfo) (piece begin count index : ℕ) (f : File) (last : IsLastFileAt torrent.files piece index)
    (at : (d : File) → get_or torrent.files index d ≡ f) where
  -- a place lies in the last file that begins at the piece or before it
  pub none_there : IsLaidOut torrent.piece_length torrent.files
      → (1 ≤ count → count ≤ full_block_length → begin + count ≤ torrent.piece_length
      → (piece - f.first_piece) * torrent.piece_length + (begin + count) ≤ f.length → ⊥)
      → (span : Span) → ¬ IsPlace torrent piece begin count span
  none_there lay unfit span place =
      let found = place.found place.file in
      let after = rw found at (last.last span.file place.file) in
      let before = rw found at (ends _ _ lay span.file index place.file last.listed) in
      let here : span.file ≡ index = grind (arith, after, before, last.begun place.file, place.from, place.below, place.listed) in
      let same : f ≡ place.file = sym (at f) ∙ (rw here at (place.found f)) in
      unfit place.some place.block place.in_piece (rw same (omega (arith, place.in_file, place.start)))

  pub place_at : 1 ≤ count → count ≤ full_block_length → begin + count ≤ torrent.piece_length
      → (piece - f.first_piece) * torrent.piece_length + (begin + count) ≤ f.length
      → IsPlace torrent piece begin count (record { file = index; start = (piece - f.first_piece) * torrent.piece_length + begin; length = count })
  place_at some block in_piece in_file =
      let from : f.first_piece ≤ piece = rw (← at f) (last.begun f) in
      let below : piece - f.first_piece < piece_count torrent.piece_length f.length =
      lt_of_mul-lt-mul_right torrent.piece_length (omega (arith, (div_ceil_times f.length torrent.piece_length (omega arith)).0)) in
      record {
        file = f;
        listed = last.listed;
        found = at;
        from = from;
        below = omega arith;
        start = refl;
        all = refl;
        some = some;
        block = block;
        in_piece = in_piece;
        in_file = omega arith;
      }
