-- What is read keeps to what every torrent does.
use Rattle.bt_meta.proofs.Base.{◌≡◌, ℕ, ◌≤◌, get_or, true, false, List, [], ◌∷◌, ◌++◌, length, None, refl, sym, ap, ◌∙◌, arith, inl, inr, append-nil, append_assoc, ◌<◌, ◌+◌, zero, suc, ◌≢◌, Result, Ok, Err, map, not, ◌==◌, ◌⊎◌, replicate, filter, codes, take, sum_by, IfOk, All, AllPairs, list_all, list_any, has_key, cases_Bool, and_parts, or_parts, leb-true, nat_tests, nat_lt, All-nil, All-push, filter-append, All-cons, All-head, All-tail, All-append, sum_by-cons, nat_cmp, Ordering, Less, slice_cmp, nat_list_cmp_total, tied_itself, AllPairs-cons, Data, dictionary, Entries, no_entries, entry, data_of, IsBefore, HasAscendingKeys, EntriesAscend, max_file_length, max_piece_length, max_file_count, max_piece_count, no_dictionary, TreeEntry, tree_entries_below, with_earlier, tree_entries_among, is_file, length_in, root_in, length_of, root_of, pieces_of, File, piece_count, file_at, files_of, layer_at, file_of, first_of, fault_if, is_node, has_lawful_name, has_lawful_root, content_of, is_too_many, file_checks, entry_check, tree_checks, is_path_element, is_element, is_path, is_piece_length, tree_of, layer_check, layer_checks, Tree, Metainfo, Head, Listing, IsHead, IsListing, with_layer, layer_faults, has_layer_size, has_root}
use Rattle.std.proofs.lemmas.Bool.{eqb-true, ltb-true}
use Rattle.std.proofs.lemmas.List.Elements.{All-filter, All-weaker, filter_passes}
use Rattle.std.proofs.lemmas.List.Quantifiers.{all_pairs_push}
use Rattle.std.proofs.lemmas.List.Folds.{list_all-append}
use Rattle.std.proofs.lemmas.List.Kept.{AllPairs-filter}
use Rattle.bt_tree.specs.Limits.{min_piece_length}
use Rattle.bt_tree.specs.TreeShape.{IsPieceLength}
use Rattle.bt_meta.specs.Fields.{entries_in}
use Rattle.bt_meta.specs.Limits.{are_too_many}
use Rattle.bt_meta.proofs.Checks.{each_none, first_none, both_none, holds_unless, not_faulty}
use Rattle.bt_meta.proofs.Lists.{none_kept, All-front, All-back, pairs_append}
use Rattle.bt_meta.proofs.RootLengths.{no_conflict}
use Rattle.bt_meta.proofs.TreeWalk.{lawful_is_short, pieces_push, name_of, same_sum, some_of_filter, no_layer, length-with_earlier}
use Rattle.bt_meta.specs.Torrent.{IsApart, HaveAscendingPaths, IsLawful}
use Rattle.bt_meta.proofs.Dictionaries.{at_key, file_below}
use Rattle.bt_meta.proofs.FileLayers.{files_with_layers, layer_faults_are}

-- ==== the entries of a tree in which no check finds a fault

-- ---- one entry

abbrev IsFile : TreeEntry → Type 0
IsFile p = is_file p ≡ true

-- what is known of an entry alone
record IsSound (p : TreeEntry) : Type 0 where
  node : is_node p.value ≡ true
  named : has_lawful_name p ≡ true
  short : IsFile p → length_of p ≤ max_file_length
  rooted : IsFile p → length (root_of p) ≡ 32

-- two entries that are files, not empty, and of one root have one length
abbrev Agrees : TreeEntry → TreeEntry → Type 0
Agrees q p = IsFile q → IsFile p → length_of q ≢ 0 → length_of p ≢ 0 → root_of q ≡ root_of p → length_of q ≡ length_of p

lawful_root : (properties : Data) → has_lawful_root properties ≡ true → length (root_in properties) ≡ 32
unfolding has_lawful_root root_in
lawful_root properties h = elim (cases_Bool (length_in properties == 0)) [
  | inl empty ↦ rw empty refl
  | inr filled ↦ rw filled (eqb-true _ 32 (rw filled at h))
]

root_of_none : (properties : Data) → length_in properties ≡ 0 → root_in properties ≡ replicate 32 0
unfolding root_in
root_of_none properties e = rw e refl

module _ (n : ℕ) where
  -- what the check of one entry tells of it, and of the entries before it
  checked_entry : (before : List TreeEntry) (p : TreeEntry) → entry_check n before p ≡ None
      → IsSound p × All (λ q. Agrees q p) before × (is_too_many n before p ≡ false)
  checked_entry before p h =
      let own = each_none (_ ∷ _ ∷ _ ∷ _ ∷ []) h in
      let of_file = λ (file : IsFile p). each_none (file_checks before p) (rw file at own.1.1.0) in (
        record {
          node = holds_unless _ _ own.0;
          named = holds_unless _ _ own.1.0;
          short = λ file. lawful_is_short _ (holds_unless _ _ (of_file file).1.0);
          rooted = λ file. lawful_root _ (holds_unless _ _ (of_file file).1.1.0);
        },
        λ k d within file_q file some_q some same.
            let filled : (length_of p == 0) ≡ false = grind (arith, nat_tests) in
            let none = rw filled at (not_faulty _ _ (of_file file).1.1.1.0) in
            no_conflict _ _ _ _ (none_kept _ content_of is_file before none k d within file_q) some_q same,
        not_faulty _ _ own.1.1.1.0,
      )

  -- ---- all entries

  record AreChecked (es : List TreeEntry) : Type 0 where
    sound : All IsSound es
    agree : AllPairs Agrees es
    few : are_too_many (length (filter is_file es)) (pieces_of n es) ≡ false

  checked_behind : (before es : List TreeEntry) → AreChecked before → first_of (with_earlier (entry_check n) before es) ≡ None → AreChecked (before ++ es)
  checked_behind before [] h none = rw (append-nil _) h
  checked_behind before (p ∷ es) h none =
      let parts = first_none (entry_check n before p) _ none in
      let here = checked_entry before p parts.0 in
      rw (← append_assoc before (p ∷ []) es) (checked_behind (before ++ p ∷ []) es (record {
        sound = All-push IsSound before p h.sound here.0;
        agree = all_pairs_push Agrees before p h.agree here.1;
        few = elim (cases_Bool (is_file p)) [
          | inl file ↦ (or_parts _ _ (rw file at here.2)).1
          | inr folder ↦ rw (filter-append is_file before (p ∷ []), folder, append-nil) h.few
        ];
      }) parts.1)

  tree_checked : (tree : Data) → first_of (tree_checks n tree) ≡ None
      → AreChecked (tree_entries_below [] tree) × (0 < length (filter is_file (tree_entries_below [] tree)))
  unfolding tree_checks
  tree_checked tree h =
      let es = tree_entries_below [] tree in
      let checks = with_earlier (entry_check n) [] es in
      let top = fault_if (has_key tree []) Tree in
      let last = fault_if (not (list_any is_file es)) Tree in
      let parts = both_none (top ∷ checks) (last ∷ []) h in
      let begun : AreChecked [] = record { sound = All-nil _; agree = λ i j d lt within. absurd (omega arith); few = refl } in
      let some : not (length (filter is_file es) == 0) ≡ true = sym (some_of_filter is_file es) ∙ holds_unless _ _ (each_none (last ∷ []) parts.1).0 in
      (checked_behind [] es begun (first_none top checks parts.0).1, grind (arith, nat_tests))

few_parts : (files pieces : ℕ) → are_too_many files pieces ≡ false → (files ≤ max_file_count) × (pieces ≤ max_piece_count)
few_parts files pieces e = (grind (arith, nat_tests), grind (arith, nat_tests))

-- ==== where keys ascend, the paths of a tree's entries do

abbrev Path : Type 0
Path = List (List ℕ)

abbrev path_cmp : Path → Path → Ordering
path_cmp = slice_cmp (slice_cmp nat_cmp)

-- ---- the elements of the paths

abbrev IsFolderPath : Path → Type 0
IsFolderPath path = list_all is_element path ≡ true

inside : (path : Path) (byte : ℕ) (bytes : List ℕ) → IsFolderPath path → is_path_element (byte ∷ bytes) ≡ true
    → IsFolderPath (path ++ (byte ∷ bytes) ∷ [])
inside path byte bytes folder e =
    let own : is_element (byte ∷ bytes) ≡ true = rw e (grind (arith, nat_tests)) in
    list_all-append is_element path _ ∙ rw (folder, own) refl

path_of : {path : Path} {name : List ℕ} {rest : Path} → path ≡ name ∷ rest → IsFolderPath path → is_path path ≡ true
path_of is folder = rw (folder, is) (grind (arith, nat_tests))

-- ---- the entries of one folder

abbrev IsKeyOf : Entries → List ℕ → Type 0
IsKeyOf no_entries key = ⊥
IsKeyOf (entry other d es) key = (key ≡ other) ⊎ IsKeyOf es key

is_behind : (name : List ℕ) (d : Data) (es : Entries) (key : List ℕ) → EntriesAscend (entry name d es) → IsKeyOf es key → IsBefore name key
unfolding EntriesAscend
is_behind name d no_entries key h there = elim there [ ]
is_behind name d (entry other e es) key h (inl same) = rw same h.0
is_behind name d (entry other e es) key h (inr there) = nat_list_cmp_total.trans name other key h.0 (is_behind other e es key h.2 there)

-- the entry of this key of the folder, or one below it
record IsUnder (path : Path) (key : List ℕ) (p : TreeEntry) : Type 0 where
  rest : Path
  is : p.path ≡ path ++ key ∷ rest
  lawful : IsFolderPath p.path

-- where the first is a file, whatever begins with its path stands before the second
abbrev IsAhead : TreeEntry → TreeEntry → Type 0
IsAhead p q = IsFile p → (rest : Path) → path_cmp (p.path ++ rest) q.path ≡ Less

-- the same for one of the keys of the folder
abbrev IsAmong : Path → Entries → TreeEntry → Type 0
IsAmong path es p = (key : List ℕ) × IsKeyOf es key × IsUnder path key p

abbrev AreOrdered : Path → Entries → List TreeEntry → Type 0
AreOrdered path es ps = All (IsAmong path es) ps × AllPairs IsAhead ps

among_more : (path : Path) (key : List ℕ) (d : Data) (es : Entries) (ps : List TreeEntry) → All (IsAmong path es) ps → All (IsAmong path (entry key d es)) ps
among_more path key d es = All-weaker (IsAmong path es) (IsAmong path (entry key d es)) (λ p u. (u.0, inr u.1, u.2))

-- what follows a common beginning decides
behind_common : (path : Path) (key other : List ℕ) (rest more : Path) → IsBefore key other → path_cmp (path ++ key ∷ rest) (path ++ other ∷ more) ≡ Less
behind_common [] key other rest more less = rw less refl
behind_common (name ∷ path) key other rest more less = rw (tied_itself nat_list_cmp_total name) (behind_common path key other rest more less)

none_ordered : (path : Path) (es : Entries) → AreOrdered path es []
none_ordered path es = (All-nil (IsAmong path es), λ i j d lt within. absurd (omega arith))

mutual
  unfolding tree_entries_below tree_entries_among HasAscendingKeys EntriesAscend

  ordered_below : (path : Path) (d : Data) → IsFolderPath path → HasAscendingKeys d → All IsSound (tree_entries_below path d)
      → AreOrdered path (entries_in d) (tree_entries_below path d)
  ordered_below path (dictionary es) folder keys sound = ordered_among path es folder keys sound
  ordered_below path _ folder keys sound = none_ordered path no_entries

  ordered_among : (path : Path) (es : Entries) → IsFolderPath path → EntriesAscend es → All IsSound (tree_entries_among path es)
      → AreOrdered path es (tree_entries_among path es)
  ordered_among path no_entries folder keys sound = none_ordered path no_entries
  ordered_among path (entry [] d es) folder keys sound =
      let later = ordered_among path es folder keys.2 sound in (among_more path [] d es _ later.0, later.1)
  ordered_among path (entry (byte ∷ bytes) d es) folder keys sound =
      let name = byte ∷ bytes in
      let inner = path ++ name ∷ [] in
      let here : TreeEntry = record { path = inner; value = d } in
      let below = tree_entries_below inner d in
      let others = tree_entries_among path es in
      let sounds = All-front IsSound (here ∷ below) others sound in
      let own = All-head IsSound here below sounds in
      let whole = inside path byte bytes folder (sym (name_of path name d _ refl) ∙ own.named) in
      let lower = ordered_below inner d whole keys.1 (All-tail IsSound here below sounds) in
      let later = ordered_among path es folder keys.2 (All-back IsSound (here ∷ below) others sound) in
      let under : All (IsUnder path name) (here ∷ below) = All-cons (IsUnder path name) here below (record { rest = []; is = refl; lawful = whole })
      (All-weaker (IsAmong inner (entries_in d)) (IsUnder path name) (λ q u. record {
        rest = u.0 ∷ u.2.rest;
        is = u.2.is ∙ append_assoc path (name ∷ []) (u.0 ∷ u.2.rest);
        lawful = u.2.lawful;
      }) below lower.0) in
      let among = All-weaker (IsUnder path name) (IsAmong path (entry name d es)) (λ q u. (name, inl refl, u)) (here ∷ below) under in (
        All-append (IsAmong path (entry name d es)) (here ∷ below) others among (among_more path name d es others later.0),
        pairs_append IsAhead (here ∷ below) others
            (AllPairs-cons IsAhead here below (λ k e lt file. let none = ap length (file_below d inner own.node file) in absurd (omega arith)) lower.1)
            later.1
            (λ i e lt j f within file rest.
            let u = under i e lt in
            let v = later.0 j f within in
            rw (u.is, v.2.is, append_assoc path (name ∷ u.rest) rest) (behind_common path name v.0 _ _ (is_behind name d es v.0 keys v.1))),
      )

-- nothing that begins with a path stands before it
not_before : (path rest : Path) → path_cmp (path ++ rest) path ≢ Less
not_before [] [] e = cc
not_before [] (name ∷ rest) e = cc
not_before (name ∷ path) rest e = not_before path rest (rw (tied_itself nat_list_cmp_total name) at e)

apart : (p q : Path) → ((rest : Path) → path_cmp (p ++ rest) q ≡ Less) → IsApart p q
apart p q ahead rest = (
  (λ e. not_before (p ++ rest) [] (rw (append-nil _) (rw e at (ahead rest)))),
  λ e. not_before q rest (rw (← e) (rw append-nil at (ahead []))),
)

-- ==== the files, and the torrent

piece_lawful : (n : ℕ) → is_piece_length n ≡ true → IsPieceLength n
piece_lawful n e =
    let outer = and_parts _ _ e in
    let inner = and_parts _ _ outer.0 in
    record { power = inner.0; least = leb-true min_piece_length n inner.1; greatest = leb-true n max_piece_length outer.1 }

-- an element of such a list, of which e stands for none
get_or-with_earlier : {A B : Type 0} (f : List A → A → B) (before xs : List A) (k : ℕ) (d : B) (e : A) → k < length xs
    → get_or (with_earlier f before xs) k d ≡ f (before ++ take k xs) (get_or xs k e)
get_or-with_earlier f before [] k d e lt = absurd (omega arith)
get_or-with_earlier f before (x ∷ xs) zero d e lt = rw (append-nil _) refl
get_or-with_earlier f before (x ∷ xs) (suc k) d e lt = get_or-with_earlier f (before ++ x ∷ []) xs k d e (omega arith) ∙ rw (append_assoc before _ _) refl

-- an entry that stands for none
abbrev none : TreeEntry
none = record { path = []; value = no_dictionary }

module _ (n : ℕ) (layers : Data) where
  -- ---- the layers of files

  -- what is known of the layer of an entry
  abbrev IsLayered : TreeEntry → Type 0
  IsLayered p = layer_at n layers p ≢ [] → (n < length_of p) × (has_layer_size n (length_of p) (layer_at n layers p) ≡ true)
      × (has_root n (length_of p) (root_of p) (layer_at n layers p) ≡ true)

  layered_files : (files : List TreeEntry) → first_of (map (layer_check n layers) files) ≡ None → All IsLayered files
  layered_files [] h = All-nil IsLayered
  layered_files (p ∷ files) h =
      let parts = first_none (layer_check n layers p) _ h in
      All-cons IsLayered p files (λ some. elim (cases_Bool (nat_lt n (length_of p))) [
        | inl long ↦
            let own = each_none (_ ∷ _ ∷ _ ∷ []) (rw long at parts.0) in
            rw long (ltb-true n _ long, holds_unless _ _ own.1.0, holds_unless _ _ own.1.1.0)
        | inr short ↦ absurd (some (rw short refl))
      ]) (layered_files files parts.1)

  layered_tree : (tree : Data) → first_of (layer_checks n layers tree) ≡ None → All IsLayered (filter is_file (tree_entries_below [] tree))
  unfolding layer_checks
  layered_tree tree h = layered_files _ h

  -- ---- files, from their entries

  abbrev count : File → ℕ
  count f = piece_count n f.length

  abbrev files_behind : List TreeEntry → List TreeEntry → List File
  files_behind = with_earlier (file_at n layers)

  -- each of the files after some entries begins where those before it end
  turn : (before ps : List TreeEntry) → All IsFile ps → (k : ℕ) (d : File) → k < length (files_behind before ps)
      → (get_or (files_behind before ps) k d).first_piece ≡ pieces_of n before + sum_by count (take k (files_behind before ps))
  turn before [] files k d lt = absurd (omega arith)
  turn before (p ∷ ps) files zero d lt = omega arith
  turn before (p ∷ ps) files (suc k) d lt =
      turn (before ++ p ∷ []) ps (All-tail IsFile p ps files) k d (omega arith)
      ∙ omega (
        arith,
        pieces_push n before p (All-head IsFile p ps files),
        sum_by-cons count (file_at n layers before p) (take k (files_behind (before ++ p ∷ []) ps)),
      )

  module _ (ps : List TreeEntry) where
    -- the file at a place is made of the entry there
    at_place : (k : ℕ) (d : File) → k < length (files_behind [] ps)
        → (k < length ps) × (get_or (files_behind [] ps) k d ≡ file_at n layers (take k ps) (get_or ps k none))
    at_place k d within =
        let lt : k < length ps = omega (arith, length-with_earlier (file_at n layers) [] ps) in (lt, get_or-with_earlier _ [] ps k d none lt)

    all_pairs : (S : File → File → Type 0) → AllPairs (λ p q. (b c : List TreeEntry) → S (file_at n layers b p) (file_at n layers c q)) ps
        → AllPairs S (files_behind [] ps)
    all_pairs S h i j d lt within =
        let last = at_place j d within in
        rw ((at_place i d (omega arith)).1, last.1) (h i j none lt last.0 _ _)

-- ---- the whole

-- the paths of a lawful torrent's files ascend
pub ascends : {E : Type 0} (r : Result Metainfo E) → IfOk r (λ torrent. IsLawful torrent.piece_length torrent.files)
    → IfOk r (λ torrent. HaveAscendingPaths torrent.files)
ascends (Ok torrent) lawful = lawful.ascending
ascends (Err e) lawful = lawful

module _ {info : Data} {head : Head} {listing : Listing} (keys : HasAscendingKeys info) (h : IsHead info head)
    (l : IsListing head.piece_length (data_of head.tree.now) listing) where
  abbrev n : ℕ
  n = head.piece_length

  abbrev tree : Data
  tree = data_of head.tree.now

  abbrev files : List File
  files = map file_of listing.files.items

  lawful_with : (layers : Data) → All (IsLayered n layers) (filter is_file (tree_entries_below [] tree)) → IsLawful n (files_of n layers tree)
  unfolding files_of tree_of
  lawful_with layers layered =
      let es = tree_entries_below [] tree in
      let ps = filter is_file es in
      let are_files = filter_passes is_file es in
      let checked = tree_checked n tree l.faultless in
      let few = few_parts _ _ checked.0.few in
      let ordered = ordered_below [] tree refl (rw h.tree at (at_key info (codes "file tree") keys)) checked.0.sound in
      let sound = All-filter is_file IsSound es checked.0.sound in
      let among = All-filter is_file (IsAmong [] (entries_in tree)) es ordered.0 in
      let ahead = AllPairs-filter IsAhead is_file es ordered.1 in
      let agree = AllPairs-filter Agrees is_file es checked.0.agree in
      record {
        piece = piece_lawful n h.lawful;
        some = rw (length-with_earlier _ [] ps) checked.1;
        each = λ k d lt.
            let at = at_place n layers ps k d lt in
            let own = sound k none at.0 in
            let path = among k none at.0 in
            let right = layered k none at.0 in
            rw at.1 (record {
              path = path_of path.2.is path.2.lawful;
              short = own.short (are_files k none at.0);
              rooted = own.rooted (are_files k none at.0);
              zeros = root_of_none _;
              long = λ some. (right some).0;
              sized = λ some. (right some).1;
              folds = λ some. (right some).2;
            });
        few_pieces = rw (same_sum n layers tree) few.1;
        laid_out = record {
          few = rw (length-with_earlier _ [] ps) few.0;
          in_turn = λ k d lt. turn n layers [] ps are_files k d lt ∙ omega arith;
        };
        ascending = all_pairs n layers ps (λ f g. path_cmp f.path g.path ≡ Less)
            (λ i j e lt within b c. rw append-nil at (ahead i j e lt within (are_files i e (omega arith)) []));
        apart = all_pairs n layers ps (λ f g. IsApart f.path g.path) (λ i j e lt within b c. apart _ _ (ahead i j e lt within (are_files i e (omega arith))));
        one_length = all_pairs n layers ps (λ f g. f.length ≢ 0 → g.length ≢ 0 → f.root ≡ g.root → f.length ≡ g.length)
            (λ i j e lt within b c. agree i j e lt within (are_files i e (omega arith)) (are_files j e within));
      }

  -- an info dictionary has no layers
  pub info_lawful : IsLawful n files
  info_lawful = rw l.files (lawful_with no_dictionary (λ k e lt some. absurd (some (no_layer _ _))))

  pub layers_lawful : (layers : Data) → first_of (layer_faults n layers files) ≡ None → IsLawful n (map (with_layer n layers) files)
  layers_lawful layers none = rw (l.files, files_with_layers n layers tree)
      (lawful_with layers (layered_tree _ _ _ (rw (l.files, layer_faults_are n layers tree) at none)))
