-- The layers of the files of a torrent that is read.
use Rattle.bt_meta.proofs.Base.{◌≡◌, ◌≢◌, All-tail, ℕ, zero, suc, ◌<◌, false, List, [], ◌∷◌, length, get_or, None, Some, Err, refl, sym, ◌∙◌, arith, add-one, append_assoc, append-nil, inl, inr, ◌+◌, ◌≤◌, ◌++◌, take, drop, map, nat_eq, Vec, nat_cmp, pointwise, slice_cmp, Ordering, Equal, cases_lt, false_from_ne_true, nat_list_cmp_total, tied_itself, exact_bytes, bytes_eq-Decides, drop_more, map_push, take_all, sha256, Data, data_of, entries_of, first_value_of, EntriesAscend, IsBefore, Value, max_file_length, file_of, File, file_at, files_of, piece_count, FileEntry, has_layer_size, has_root, first_of, layer_check, layer_checks, with_layer, layer_fault, layer_faults, MetaError, LayerSize, LayerDiffers, no_dictionary, TreeEntry, with_earlier}
use Rattle.std.proofs.Common.{ap, set, subst, ◌-◌, ◌*◌, ◌^◌}
use Rattle.std.specs.List.{HoldsAt}
use Rattle.std.specs.List.Sorted.{IsBinarySearchResult}
use Rattle.std.proofs.lemmas.Bool.{ne_eqb, eq-eqb, eqb-true}
use Rattle.std.proofs.lemmas.List.Sorted.{searchable_from_sorted}
use Rattle.std.proofs.lemmas.Cmp.{on_total}
use Rattle.std.proofs.lemmas.List.{take_more_set, drop-set-lt, drop_all}
use Rattle.std.proofs.lemmas.List.Sums.{sum-map}
use Rattle.std.proofs.lemmas.Simd.{map-map}
use Rattle.std.proofs.lemmas.Map.Keys.{sorted_from_all_adjacent, Less-from_sorted}
use Rattle.bt_tree.specs.Blocks.{block_count}
use Rattle.bt_tree.specs.Limits.{full_block_length}
use Rattle.bt_tree.specs.TreeShape.{height_of, real_width}
use Rattle.bt_tree.proofs.TreeShape.{height_is, same_height, le_from_pow}
use Rattle.bt_tree.specs.Layers.{HasLayerSize, IsLayer, fold_of, layer_digests}
use Rattle.bt_meta.specs.Layers.{piece_layer_of}
use Rattle.bt_meta.specs.Torrent.{IsLawfulFile}
use Rattle.bt_meta.specs.ReaderSteps.{Refuses, AreShort, pieces_in}
use Rattle.bt_meta.specs.LayerSteps.{layer_bytes_fault}
use Rattle.bt_meta.specs.Fields.{string_at}
use Rattle.bt_meta.specs.Faults.{layer_check_for}
use Rattle.std.proofs.Common.{nat_lt, true}

-- ==== looking up a key among ascending ones

-- the key of an entry against another
abbrev pub entry_cmp : List ℕ → Vec ℕ × Value → Ordering
entry_cmp key e = slice_cmp nat_cmp e.0.items key

next_before : (es : List (Vec ℕ × Value)) (k : ℕ) (d : Vec ℕ × Value) → EntriesAscend (entries_of es) → suc k < length es
    → IsBefore (get_or es k d).0.items (get_or es (suc k) d).0.items
unfolding EntriesAscend
next_before (x ∷ y ∷ es) zero d h lt = h.0
next_before (x ∷ es) (suc k) d h lt = next_before es k d h.2 (omega arith)
next_before (x ∷ []) zero d h lt = absurd (omega arith)
next_before [] k d h lt = absurd (omega arith)

module _ (key : List ℕ) where
  -- entries with other keys are passed over
  passed : (es : List (Vec ℕ × Value)) (i : ℕ) → ((k : ℕ) (d : Vec ℕ × Value) → k < i → k < length es → entry_cmp key (get_or es k d) ≢ Equal)
      → first_value_of (entries_of (drop i es)) key ≡ first_value_of (entries_of es) key
  passed es zero h = refl
  passed [] (suc i) h = refl
  passed (x ∷ es) (suc i) h =
      let other : pointwise nat_eq x.0.items key ≡ false = false_from_ne_true _ (λ same.
      h 0 x (omega arith) (omega arith) (rw ((bytes_eq-Decides x.0.items key).0 same) (tied_itself nat_list_cmp_total key))) in
      rw other (passed es i (λ k d lt within. h (suc k) d (omega arith) (omega arith)))

  module _ (es : List (Vec ℕ × Value)) (ascend : EntriesAscend (entries_of es)) (i : ℕ) where
    pub found_here : (d : Vec ℕ × Value) → i < length es → HoldsAt (λ y. entry_cmp key y ≡ Equal) es i
        → Some (data_of (get_or es i d).1) ≡ first_value_of (entries_of es) key
    found_here d lt equal =
        let here = λ (e : Vec ℕ × Value). exact_bytes (get_or es i e).0.items key (equal e) in
        let sorted = sorted_from_all_adjacent (on_total (λ (e : Vec ℕ × Value). e.0.items) nat_list_cmp_total) es d
        (λ k next. rw add-one (next_before es k d ascend (rw add-one at next))) in
        rw (drop_more es i d lt, (bytes_eq-Decides _ _).1 (here d)) at (passed es i (λ k e below within tied.
        let less : IsBefore (get_or es k e).0.items key = rw (← here e) (Less-from_sorted _ es k i e sorted below lt) in
        cc))

    pub not_found : IsBinarySearchResult (entry_cmp key) es (Err i) → None ≡ first_value_of (entries_of es) key
    not_found parted =
        let point = parted (searchable_from_sorted nat_list_cmp_total (λ e. e.0.items) _ _ (λ k d from lt.
        rw (nat_list_cmp_total.antisymm _ (get_or es k d).0.items, add-one, next_before _ k d ascend (rw add-one at lt)) refl)) in
        rw (drop_all (length es) es (omega arith)) at (passed es (length es) (λ k d lt within equal. elim (cases_lt k i) [
          | inl below ↦ let less = point.0 k d (omega arith) below in cc
          | inr above ↦ let greater = point.1 k d above within in cc
        ]))

-- ==== what the check of a file's layer comes to

-- ---- one layer

module _ (n bytes : ℕ) (root layer : List ℕ) {k : ℕ} (is : k ≡ piece_layer_of n) where
  pub layer_right : IsLayer sha256 (block_count bytes) root k layer → None ≡ layer_bytes_fault n bytes root layer
  unfolding has_layer_size has_root
  layer_right h = let at = rw is at h in rw (eq-eqb _ _ at.size.size, (bytes_eq-Decides _ _).1 at.folds) refl

  -- a layer of a longer file's tree lies below its root
  pub layer_sized_wrong : n < bytes → ¬ HasLayerSize (block_count bytes) k layer → Some LayerSize ≡ layer_bytes_fault n bytes root layer
  unfolding has_layer_size
  layer_sized_wrong long h =
      let inside = (height_is (block_count n)).least (height_of (block_count bytes)) (omega (arith, (height_is (block_count bytes)).enough)) in
      rw (ne_eqb _ _ (λ e. rw is at h (record { inside = inside; size = e }))) refl

  pub layer_differs : HasLayerSize (block_count bytes) k layer → ¬ IsLayer sha256 (block_count bytes) root k layer
      → Some LayerDiffers ≡ layer_bytes_fault n bytes root layer
  unfolding has_layer_size has_root
  layer_differs size h =
      let sized = rw is at size in
      rw (eq-eqb _ _ sized.size, false_from_ne_true _ (λ t. rw is at h (record { size = sized; folds = (bytes_eq-Decides _ _).0 t }))) refl

-- the layer of a root that is there has what is wrong with its string
pub fault_of_string : (n : ℕ) (layers : Data) (bytes : ℕ) (root layer : List ℕ) → nat_lt n bytes ≡ true → string_at layers root ≡ Some layer
    → layer_check_for n layers bytes root ≡ layer_bytes_fault n bytes root layer
fault_of_string n layers bytes root layer long there = rw (long, there) refl

-- ---- all files

-- the first i files have their layers; with the others' they are all, whose first fault is that of the others
pub record IsUnderWay (n : ℕ) (layers : Data) (i : ℕ) (old new : List FileEntry) : Type 0 where
  pub short : AreShort (map file_of (drop i new))
  pub whole : map file_of (take i new) ++ map (with_layer n layers) (map file_of (drop i new)) ≡ map (with_layer n layers) (map file_of old)
  pub faults : first_of (layer_faults n layers (map file_of (drop i new))) ≡ first_of (layer_faults n layers (map file_of old))

module _ {n : ℕ} {layers : Data} {i : ℕ} {old new : List FileEntry} (h : IsUnderWay n layers i old new) where
  pub whole_at_end : length new ≤ i → map file_of new ≡ map (with_layer n layers) (map file_of old)
  whole_at_end le = rw (take_all i new le, drop_all i new le, append-nil) at h.whole

  pub faultless_at_end : length new ≤ i → first_of (layer_faults n layers (map file_of old)) ≡ None
  faultless_at_end le = sym (rw (drop_all i new le) at h.faults)

  module _ (e : FileEntry) (lt : i < length new) where
    pub next_short : (get_or new i e).length ≤ max_file_length
    next_short = (rw (drop_more new i e lt) at h.short) 0 (file_of e) (omega arith)

    pub next_refused : {fault : MetaError} → Refuses (layer_fault n layers (file_of (get_or new i e))) fault
        → Refuses (first_of (layer_faults n layers (map file_of old))) fault
    next_refused (inl m) = inl m
    next_refused (inr k) = inr (sym h.faults ∙ rw (drop_more new i e lt, k) refl)

    pub one_more : (x : FileEntry) → file_of x ≡ with_layer n layers (file_of (get_or new i e)) → layer_fault n layers (file_of (get_or new i e)) ≡ None
        → IsUnderWay n layers (i + 1) old (set new i x)
    one_more x change none =
        let rest = drop-set-lt (i + 1) new i x (omega arith) in
        record {
          short = rw rest (All-tail (λ f. f.length ≤ max_file_length) _ _ (rw (drop_more new i e lt) at h.short));
          whole = rw (take_more_set new i x lt, rest, map_push file_of _ x, append_assoc, change) (rw (drop_more new i e lt) at h.whole);
          faults = rw rest (rw (drop_more new i e lt, none) at h.faults);
        }

-- ==== the files of a tree with their layers, from those without

module _ (n : ℕ) (layers : Data) where
  with_layers : (before es : List TreeEntry)
      → map (with_layer n layers) (with_earlier (file_at n no_dictionary) before es) ≡ with_earlier (file_at n layers) before es
  with_layers before [] = refl
  with_layers before (p ∷ es) = rw (with_layers (before ++ p ∷ []) es) refl

  pub files_with_layers : (tree : Data) → map (with_layer n layers) (files_of n no_dictionary tree) ≡ files_of n layers tree
  unfolding files_of
  files_with_layers tree = with_layers [] _

  faults_of_entries : (before es : List TreeEntry) → layer_faults n layers (with_earlier (file_at n no_dictionary) before es) ≡ map (layer_check n layers) es
  faults_of_entries before [] = refl
  faults_of_entries before (p ∷ es) = rw (faults_of_entries (before ++ p ∷ []) es) refl

  pub layer_faults_are : (tree : Data) → layer_faults n layers (files_of n no_dictionary tree) ≡ layer_checks n layers tree
  unfolding files_of layer_checks
  layer_faults_are tree = faults_of_entries [] _

  pub pieces_after : (pieces : ℕ) (old new : List FileEntry) → pieces ≡ pieces_in n old
      → map file_of new ≡ map (with_layer n layers) (map file_of old) → pieces ≡ pieces_in n new
  pieces_after pieces old new e h =
      let count = λ (f : File). piece_count n f.length in
      e ∙ rw (h, ← sum-map count (map (with_layer n layers) (map file_of old)), map-map, sum-map) refl

-- ==== the layer of a file of a torrent is a layer of its tree

layer_of_pieces : (layer : ℕ) → piece_layer_of (full_block_length * 2 ^ layer) ≡ layer
layer_of_pieces layer =
    let blocks : block_count (full_block_length * 2 ^ layer) ≡ 2 ^ layer = omega arith in
    let shape = height_is (2 ^ layer) in
    ap height_of blocks ∙ same_height (2 ^ layer) (height_of (2 ^ layer)) layer shape (record { enough = omega arith; least = λ k. le_from_pow layer k })

-- a file longer than a piece has the layer of pieces
layer_inside : (bytes layer : ℕ) → full_block_length * 2 ^ layer < bytes → layer ≤ height_of (block_count bytes)
layer_inside bytes layer long =
    let enough = (height_is (block_count bytes)).enough in
    le_from_pow layer (height_of (block_count bytes)) (omega (arith, enough))

pub tree_layer : (n layer : ℕ) (file : File) → n ≡ full_block_length * 2 ^ layer → IsLawfulFile n file → file.layer ≢ []
    → IsLayer sha256 (block_count file.length) file.root layer file.layer
unfolding has_root has_layer_size
tree_layer n layer file size h some =
    let same : piece_layer_of n ≡ layer = ap piece_layer_of size ∙ layer_of_pieces layer in
    let long : n < file.length = h.long some in
    let blocks : ℕ = block_count file.length in
    let whole : length file.layer ≡ 32 * real_width blocks layer =
    eqb-true (length file.layer) (32 * real_width blocks (piece_layer_of n)) (h.sized some) ∙ ap (λ k. 32 * real_width blocks k) same in
    let folds : fold_of sha256 (height_of blocks - piece_layer_of n) (layer_digests sha256 blocks (piece_layer_of n) file.layer) ≡ file.root =
    (bytes_eq-Decides _ _).0 (h.folds some) in
    record {
      size = record { inside = layer_inside file.length layer (omega (arith, size, long)); size = whole };
      folds = subst (λ k. fold_of sha256 (height_of blocks - k) (layer_digests sha256 blocks k file.layer) ≡ file.root) same folds;
    }
