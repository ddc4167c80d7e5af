-- The walk over a file tree, entry by entry.
use Rattle.bt_meta.proofs.Base.{no_entries, ◌≡◌, ℕ, Bool, true, false, List, [], ◌∷◌, ◌++◌, None, Some, refl, inr, ◌+◌, ◌<◌, length, take, get_or, sym, ap, ◌∙◌, append_assoc, inl, ◌≤◌, map, arith, Option, not, ◌&&◌, ◌==◌, filter, sum_by, ◌||◌, unwrap_or, nat_lt, if◌then◌else◌, list_any, last_or, Vec, append-nil, map-append, take_more, map_push, length-map, or-false, filter-append, All-push, All-nil, sum_by-cons, div_ceil, nat_tests, Data, Entries, entry, data_of, entries_of, Value, max_file_length, TreeEntry, tree_entries_below, tree_entries_among, with_earlier, is_file, properties_of, length_of, File, root_of, content_of, contents_of, has_root_conflict, file_of, file_at, pieces_of, piece_count, length_in, files_of, first_of, fault_if, is_node, has_lawful_name, is_too_many, entry_check, has_lawful_length, is_path_element, tree_checks, property_checks, Lengths, length_at, is_other_length, NotesLength, Passes, tree_entries_of, MetaError, TooMany, Tree, string_at, no_dictionary, has_key, dictionary_at, FileEntry, max_path_length, max_file_count, max_piece_count, IsListing, Listing}
use Rattle.std.proofs.lemmas.List.{length_push, take-append-drop}
use Rattle.std.proofs.lemmas.List.Sums.{sum_by_push}
use Rattle.bt_bencode.specs.Value.{entries_from}
use Rattle.bt_meta.specs.Faults.{Check}
use Rattle.bt_meta.specs.PropertySteps.{IsFileFacts, IsLengthConflict}
use Rattle.bt_meta.specs.WalkSteps.{IsWalkOver, Walks, Stops, IsFileEntry, Enters, StopsAtEntry}
use Rattle.bt_meta.specs.declared.walk.Walk.{Walk}
use Rattle.bt_meta.specs.declared.error.MetaError.TheVariants.{RootConflict, BadPath, OutOfMemory}
use Rattle.bt_meta.proofs.Checks.{first_of-append, first_of-append_some}
use Rattle.bt_meta.specs.Fields.{is_dictionary}
use Rattle.bt_meta.proofs.Dictionaries.{nothing_below}
use Rattle.bt_meta.proofs.RootLengths.{lengths_push}
use Rattle.bt_meta.specs.Limits.{are_too_many}
use Rattle.bt_meta.specs.declared.properties.FileFacts.{FileFacts}
use Rattle.bt_meta.specs.ReaderSteps.{Refuses}

-- ==== what the checks of one entry come to

module _ (n : ℕ) (before : List TreeEntry) (p : TreeEntry) (node : is_node p.value ≡ true) (name : has_lawful_name p ≡ true) where
  pub folder_counted : {many : Bool} → is_file p ≡ false → is_too_many n before p ≡ many → entry_check n before p ≡ first_of (fault_if many TooMany ∷ [])
  folder_counted folder m = rw (m, node, name, folder) refl

  pub file_faulty : is_file p ≡ true → {e : MetaError} → first_of (property_checks (properties_of p)) ≡ Some e → entry_check n before p ≡ Some e
  file_faulty file fault = rw (node, name, file, first_of-append_some (property_checks (properties_of p)) _ _ fault) refl

  pub file_counted : is_file p ≡ true → first_of (property_checks (properties_of p)) ≡ None → {other many : Bool}
      → has_root_conflict (contents_of before) (content_of p) ≡ other
      → is_too_many n before p ≡ many → entry_check n before p ≡ first_of (first_of (fault_if other RootConflict ∷ []) ∷ fault_if many TooMany ∷ [])
  file_counted file none c m = rw (m, node, name, file, c, first_of-append (property_checks (properties_of p)) _ none) refl

-- ==== how the steps of a walk join

pub with_earlier-append : {A B : Type 0} (f : List A → A → B) (before xs ys : List A)
    → with_earlier f before (xs ++ ys) ≡ with_earlier f before xs ++ with_earlier f (before ++ xs) ys
with_earlier-append f before [] ys = ap (λ b. with_earlier f b ys) (sym (append-nil _))
with_earlier-append f before (x ∷ xs) ys = ap (λ r. f before x ∷ r) (with_earlier-append f (before ++ x ∷ []) xs ys ∙ rw (append_assoc _ _ _) refl)

module _ {n : ℕ} {old : Walk} where
  -- no memory is left
  pub memory_stops : {entries : List TreeEntry} {e : MetaError} → e ≡ OutOfMemory → Stops n entries old e
  memory_stops none = record { told = λ before h. inl none }

  pub passes_nothing : Passes n [] old old
  passes_nothing = record { told = λ before h. (rw (append-nil _) h, refl) }

  pub no_folder : (path : List (List ℕ)) (d : Data) → is_dictionary d ≡ false → Passes n (tree_entries_below path d) old old
  no_folder path d none = rw (nothing_below path d none) passes_nothing

  pub none_yet : (path : List (List ℕ)) → Passes n (tree_entries_among path no_entries) old old
  unfolding tree_entries_among
  none_yet path = passes_nothing

  pub stops_sooner : (xs ys : List TreeEntry) {e : MetaError} → Stops n xs old e → Stops n (xs ++ ys) old e
  stops_sooner xs ys s = record {
    told = λ before h.
        let first = s.told before h in
        let joined = with_earlier-append (entry_check n) before xs ys in
        grind (arith, first_of-append_some);
  }

  module _ {P : List TreeEntry → Check → Type 0} where
    pub walks_one : {p : TreeEntry} → ((before : List TreeEntry) → IsWalkOver n before old → P (before ++ p ∷ []) (entry_check n before p))
        → Walks n (p ∷ []) old P
    walks_one h = record { told = λ before walked. rw (alone _) (h before walked) }
      where
        alone : (check : Check) → first_of (check ∷ []) ≡ check
        alone None = refl
        alone (Some fault) = refl

    pub walks_on : {xs ys : List TreeEntry} {mid : Walk} → Passes n xs old mid → Walks n ys mid P → Walks n (xs ++ ys) old P
    walks_on passed more = record {
      told = λ before h.
          let first = passed.told before h in
          let none = first.1 in
          rw (← append_assoc _ _ _, with_earlier-append (entry_check n) before _ _, first_of-append _ _ none) (more.told _ first.0);
    }

    -- what is of a folder itself and below it is of its key
    pub walks_folder : (path : List (List ℕ)) (key : List ℕ) (d : Data) {inner : List (List ℕ)} {o : Option (List (List ℕ))} {mid : Walk} → o ≡ Some inner
        → Enters n path key d old mid o → Walks n (tree_entries_below inner d) mid P → Walks n (tree_entries_of path key d) old P
    walks_folder path key d is entered more = let e = rw is at entered in rw e.2 (walks_on e.1 (rw e.0 at more))

-- ---- the tree entries of a folder

module _ (path : List (List ℕ)) where
  among_key : (key : List ℕ) (d : Data) (es : Entries) → tree_entries_among path (entry key d es) ≡ tree_entries_of path key d ++ tree_entries_among path es
  unfolding tree_entries_among
  among_key [] d es = refl
  among_key (byte ∷ bytes) d es = rw (append-nil (tree_entries_below (path ++ (byte ∷ bytes) ∷ []) d)) refl

  among-append : (xs ys : List (Vec ℕ × Data))
      → tree_entries_among path (entries_from (xs ++ ys)) ≡ tree_entries_among path (entries_from xs) ++ tree_entries_among path (entries_from ys)
  unfolding tree_entries_among
  among-append [] ys = refl
  among-append (e ∷ xs) ys =
      rw (among_key e.0.items e.1 _, among_key e.0.items e.1 (entries_from xs), among-append xs ys, append_assoc) refl

  module _ {n : ℕ} {old : Walk} (es : List (Vec ℕ × Value)) where
    -- from the tree entries of the first i keys to those of one key more
    pub walks_key : {P : List TreeEntry → Check → Type 0} {i : ℕ} {mid : Walk} (e : Vec ℕ × Value) → i < length es → e ≡ get_or es i e
        → Passes n (tree_entries_among path (entries_of (take i es))) old mid → Walks n (tree_entries_of path e.0.items (data_of e.1)) mid P
        → Walks n (tree_entries_among path (entries_of (take (i + 1) es))) old P
    walks_key {i = i} e lt is passed more = rw (take_more _ i e lt, ← is, map-append _ _ _, among-append _ _) (walks_on passed more)

    -- what stops at one of the first i keys stops in the folder
    pub stops_among : (i : ℕ) {e : MetaError} → Stops n (tree_entries_among path (entries_of (take i es))) old e
        → Stops n (tree_entries_among path (entries_of es)) old e
    stops_among i stopped = rw (← take-append-drop i es, map-append _ _ _, among-append _ _) (stops_sooner _ _ stopped)

-- ==== what a walk has found after one entry more

pub length-with_earlier : {A B : Type 0} (f : List A → A → B) (before xs : List A) → length (with_earlier f before xs) ≡ length xs
length-with_earlier f before [] = refl
length-with_earlier f before (x ∷ xs) = let n = length-with_earlier f (before ++ x ∷ []) xs in grind arith

filter_twice : {A : Type 0} (test : A → Bool) (xs : List A) → filter test (filter test xs) ≡ filter test xs
filter_twice test [] = refl
filter_twice test (x ∷ xs) = let rest = filter_twice test xs in grind arith

pub no_layer : (b : Bool) (key : List ℕ) → (if b then unwrap_or (string_at no_dictionary key) [] else []) ≡ []
unfolding string_at
no_layer true key = refl
no_layer false key = refl

-- ---- an entry more

module _ (n : ℕ) (before : List TreeEntry) where
  count_of_files : {w : Walk} → IsWalkOver n before w → length w.files.items ≡ length (filter is_file before)
  count_of_files h = sym (length-map _ file_of) ∙ ap length h.files ∙ length-with_earlier (file_at n no_dictionary) [] (filter is_file before)

  module _ (p : TreeEntry) where
    module _ (file : is_file p ≡ true) where
      filter_file : filter is_file (before ++ p ∷ []) ≡ filter is_file before ++ p ∷ []
      filter_file = rw (filter-append, file) refl

      contents_push : contents_of (before ++ p ∷ []) ≡ contents_of before ++ content_of p ∷ []
      contents_push = ap (map content_of) filter_file ∙ map_push content_of (filter is_file before) p

      pub pieces_push : pieces_of n (before ++ p ∷ []) ≡ pieces_of n before + piece_count n (length_of p)
      pieces_push = ap (sum_by (λ q. piece_count n (length_of q))) filter_file ∙ sum_by_push _ (filter is_file before) p

    folder_walked : {w : Walk} → IsWalkOver n before w → is_file p ≡ false → IsWalkOver n (before ++ p ∷ []) w
    folder_walked h folder =
        let same : filter is_file (before ++ p ∷ []) ≡ filter is_file before = rw (filter-append, folder, append-nil) refl in
        record {
          files = rw same h.files;
          pieces = rw same h.pieces;
          short = h.short;
          lengths = rw same h.lengths;
        }

-- ==== adding a file, and entering a folder

-- ---- properties

pub lawful_is_short : (properties : Data) → has_lawful_length properties ≡ true → length_in properties ≤ max_file_length
unfolding has_lawful_length length_in
lawful_is_short properties e = grind (arith, nat_tests)

-- ---- a file

-- its properties have a fault
pub faulty_stops : {n : ℕ} {old : Walk} {path : List (List ℕ)} {name : List ℕ} {properties : Data} {p : TreeEntry}
    → IsFileEntry path name properties p → {e : MetaError} → first_of (property_checks properties) ≡ Some e → Stops n (p ∷ []) old e
faulty_stops {n} {p = p} at fault = walks_one (λ before h. inr (file_faulty n before p at.node at.named at.file (rw at.properties_are fault)))

-- with this file there are too many elements, files or pieces
abbrev are_many : ℕ → List (List ℕ) → Walk → FileFacts → Bool
are_many n path old facts =
    nat_lt max_path_length (length path + 1) || are_too_many (length old.files.items + 1) (old.pieces + div_ceil facts.length n)

module _ {path : List (List ℕ)} {name : List ℕ} {properties : Data} {p : TreeEntry} (at : IsFileEntry path name properties p)
    {facts : FileFacts} (given : IsFileFacts properties facts) {n : ℕ} {old : Walk} where
  file_told : {before : List TreeEntry} → IsWalkOver n before old → {other many : Bool}
      → (not (facts.length == 0) && is_other_length (length_at old.lengths facts.root) facts.length) ≡ other → are_many n path old facts ≡ many
      → entry_check n before p ≡ first_of (first_of (fault_if other RootConflict ∷ []) ∷ fault_if many TooMany ∷ [])
  file_told {before} h other many =
      let own : IsFileFacts (properties_of p) facts = rw at.properties_are given in
      file_counted n before p at.node at.named at.file own.faultless
      (rw (← h.lengths (root_of p) (length_of p), ← own.root, ← own.length) other)
      (rw (
        at.file,
        ap length at.path_is ∙ length_push path name,
        pieces_push n before p at.file,
        filter_file n before p at.file,
        length_push _ p,
        ← count_of_files n before h,
        ← h.pieces,
        ← own.length,
      ) many)

  pub conflict_stops : {e : MetaError} → IsLengthConflict old.lengths facts.root facts.length e → Stops n (p ∷ []) old e
  conflict_stops conflict = walks_one (λ before h. elim conflict.1 [
    | inl memory ↦ inl memory.0
    | inr other ↦ inr (file_told h {other = true} (rw (conflict.0, other.1) refl) refl ∙ ap Some (sym other.0))
  ])

  module _ {lengths : Lengths} (noted : NotesLength old.lengths lengths facts.root facts.length) where
    pub many_stop : are_many n path old facts ≡ true → Stops n (p ∷ []) old TooMany
    many_stop many = walks_one (λ before h. inr (file_told h noted.alike many))

    pub file_passes : {new : Walk} (added : FileEntry) → length path < max_path_length → length old.files.items < max_file_count
        → new.pieces ≤ max_piece_count → new.files.items ≡ old.files.items ++ added ∷ []
        → new.pieces ≡ old.pieces + div_ceil facts.length n → new.lengths ≡ lengths
        → file_of added ≡ record { path = path ++ name ∷ []; length = facts.length; root = facts.root; first_piece = old.pieces; layer = [] }
        → Passes n (p ∷ []) old new
    file_passes {new} added near few_files few_pieces files pieces lengths_are is = walks_one (λ before h.
        let own : IsFileFacts (properties_of p) facts = rw at.properties_are given in
        let f = file_at n no_dictionary in
        let same : file_of added ≡ f (filter is_file before) p = is
        ∙ rw (at.path_is, own.length, own.root, h.pieces, filter_twice is_file before, no_layer (nat_lt n (length_of p)) (root_of p)) refl in
        let pushed : map file_of new.files.items ≡ map file_of old.files.items ++ file_of added ∷ [] =
        ap (map file_of) files ∙ map_push file_of _ added in (
          record {
            files = pushed ∙ rw (h.files, same, filter_file n before p at.file, with_earlier-append f [] _ _) refl;
            pieces = pieces ∙ rw (h.pieces, pieces_push n before p at.file, own.length) refl;
            short = rw pushed (All-push (λ (g : File). g.length ≤ max_file_length) _ (file_of added) h.short (rw (ap (λ g. g.length) is) given.short));
            lengths = rw (lengths_are, contents_push n before p at.file)
                (lengths_push {old = old.lengths} {new = lengths} (contents_of before) (content_of p) h.lengths (rw (← own.length, ← own.root) noted));
          },
          file_told h {many = false} noted.alike (grind (arith, nat_tests)),
        ))

-- ---- entries

pub last_push : (o : Option (List ℕ)) (xs : List (List ℕ)) (x : List ℕ) → last_or o (xs ++ x ∷ []) ≡ Some x
last_push o [] x = refl
last_push o (y ∷ xs) x = last_push (Some y) xs x

pub name_of : (path : List (List ℕ)) (key : List ℕ) (d : Data) (b : Bool) → is_path_element key ≡ b
    → has_lawful_name (record { path = path ++ key ∷ []; value = d }) ≡ b
name_of path key d b e = rw (last_push _ _ _) e

module _ (path : List (List ℕ)) (key : List ℕ) (d : Data) where
  abbrev here : TreeEntry
  here = record { path = path ++ key ∷ []; value = d }

  pub file_entry : {name : List ℕ} {properties : Data} → name ≡ key → is_node d ≡ true → is_path_element key ≡ true → has_key d [] ≡ true
      → dictionary_at d [] ≡ Some properties → IsFileEntry path name properties here
  file_entry same node named file at = record {
    path_is = rw same refl;
    node = node;
    named = name_of path key d _ named;
    file = file;
    properties_are = rw at refl;
  }

  module _ (node : is_node d ≡ true) (name : is_path_element key ≡ true) (folder : has_key d [] ≡ false) where
    folder_told : (n : ℕ) (before : List TreeEntry) {many : Bool} → nat_lt max_path_length (length path + 1) ≡ many
        → entry_check n before here ≡ first_of (fault_if many TooMany ∷ [])
    folder_told n before many = folder_counted n before here node (name_of path key d _ name) folder (rw (folder, length_push _ _, many) (or-false _))

    module _ {n : ℕ} {w : Walk} where
      pub folder_many : max_path_length ≤ length path → Stops n (here ∷ []) w TooMany
      folder_many deep = walks_one (λ before h. inr (folder_told n before {many = true} (grind (arith, nat_tests))))

      pub folder_passes : length path < max_path_length → Passes n (here ∷ []) w w
      folder_passes near = walks_one (λ before h. (folder_walked n before here h folder, folder_told n before {many = false} (grind (arith, nat_tests))))

  module _ {n : ℕ} {w : Walk} where
    pub no_node_stops : is_node d ≡ false → Stops n (here ∷ []) w Tree
    no_node_stops node = walks_one (λ before h. inr (rw node refl))

    pub bad_name_stops : is_node d ≡ true → is_path_element key ≡ false → Stops n (here ∷ []) w BadPath
    bad_name_stops node name = walks_one (λ before h. inr (rw (node, name_of _ _ d _ name) refl))

    module _ (is : tree_entries_of path key d ≡ here ∷ tree_entries_below here.path d) where
      -- a key is refused where its own entry is
      pub entry_stops : {e : MetaError} → Stops n (here ∷ []) w e → StopsAtEntry n path key d w e
      entry_stops h = rw is (stops_sooner _ _ h)

      pub file_entered : {new : Walk} → ((inner : List (List ℕ)) → tree_entries_below inner d ≡ []) → Passes n (here ∷ []) w new
          → Passes n (tree_entries_of path key d) w new
      file_entered none h = rw (is, none _) h

-- ==== what the walk over a whole tree tells

pub start : (n : ℕ) (walk : Walk) → walk.files.items ≡ [] → walk.pieces ≡ 0 → walk.lengths.entries ≡ [] → IsWalkOver n [] walk
start n walk files pieces lengths = record {
  files = ap (map file_of) files;
  pieces = pieces;
  short = rw files (All-nil (λ (f : File). f.length ≤ max_file_length));
  lengths = λ root m. rw lengths refl;
}

pub some_of_filter : {A : Type 0} (test : A → Bool) (xs : List A) → list_any test xs ≡ not (length (filter test xs) == 0)
some_of_filter test [] = refl
some_of_filter test (x ∷ xs) = let rest = some_of_filter test xs in grind (arith, nat_tests)

module _ (n : ℕ) (layers : Data) where
  sums : (before es : List TreeEntry)
      → sum_by (λ f. piece_count n f.length) (with_earlier (file_at n layers) before es) ≡ sum_by (λ p. piece_count n (length_of p)) es
  sums before [] = refl
  sums before (p ∷ es) = rw (sum_by-cons, sums (before ++ p ∷ []) es, sum_by-cons) refl

  pub same_sum : (tree : Data) → sum_by (λ f. piece_count n f.length) (files_of n layers tree) ≡ pieces_of n (tree_entries_below [] tree)
  unfolding files_of
  same_sum tree = sums [] (filter is_file (tree_entries_below [] tree))

module _ (n : ℕ) (tree : Data) where
  abbrev es : List TreeEntry
  es = tree_entries_below [] tree

  pub key_at_top : true ≡ has_key tree [] → first_of (tree_checks n tree) ≡ Some Tree
  unfolding tree_checks
  key_at_top e = rw (← e) refl

  module _ (top : false ≡ has_key tree []) where
    top_passed : first_of (tree_checks n tree) ≡ first_of (with_earlier (entry_check n) [] es ++ fault_if (not (list_any is_file es)) Tree ∷ [])
    unfolding tree_checks
    top_passed = rw (← top) refl

    module _ {old : Walk} (h : IsWalkOver n [] old) where
      pub tree_stops : {e : MetaError} → Stops n es old e → Refuses (first_of (tree_checks n tree)) e
      tree_stops s = let first = s.told [] h in let checks = top_passed in grind (arith, first_of-append_some)

      module _ {new : Walk} (s : Passes n es old new) where
        to_last : {b : Bool} → b ≡ (length new.files.items == 0) → first_of (tree_checks n tree) ≡ first_of (fault_if (not (not b)) Tree ∷ [])
        to_last e =
            let walked = s.told [] h in
            top_passed ∙ first_of-append (with_earlier (entry_check n) [] es) _ walked.1
            ∙ rw (some_of_filter is_file es, ← count_of_files n es walked.0, ← e) refl

        pub no_file : true ≡ (length new.files.items == 0) → first_of (tree_checks n tree) ≡ Some Tree
        no_file e = to_last e

        pub whole_tree : {listing : Listing} → false ≡ (length new.files.items == 0) → listing.files ≡ new.files → listing.pieces ≡ new.pieces
            → IsListing n tree listing
        unfolding files_of
        whole_tree e files pieces =
            let walked = (s.told [] h).0 in
            record {
              faultless = to_last e;
              files = rw files walked.files;
              pieces = rw (files, pieces, walked.pieces, walked.files) (sym (same_sum n _ _));
              short = rw files walked.short;
            }
