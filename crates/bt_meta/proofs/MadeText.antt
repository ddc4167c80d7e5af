-- What is made of lawful files is a torrent, and gives them back.
use Rattle.bt_meta.proofs.Base.{get_or, ◌≡◌, ◌≢◌, ℕ, ◌≤◌, Bool, true, false, List, [], ◌∷◌, ◌++◌, length, map, None, refl, sym, ap, ◌∙◌, arith, inl, inr, append_assoc, length-append, Option, Some, filter, nat_lt, not, ◌&&◌, ◌==◌, sum_by, nat_eq, unwrap_or, if◌then◌else◌, All, list_any, cases_Bool, and_parts, nat_tests, length-map, map_push, All-head, filter-append, All-tail, sum_by-append, sum_by-cons, option_map, option_and_then, pointwise, All-permutation, length_permutation, bytes_eq-Decides, dictionary, Entries, Data, string, spelling_of, max_path_length, max_file_count, max_piece_count, max_text_length, has_key, integer_at, string_at, dictionary_at, TreeEntry, tree_entries_below, tree_entries_among, with_earlier, is_file, length_of, root_of, pieces_of, piece_count, layer_at, file_at, files_of, first_of, fault_if, Content, content_of, contents_of, is_conflict, has_root_conflict, is_too_many, entry_check, tree_checks, is_piece_length, head_checks, piece_length_of, tree_of, layer_check, layer_checks, info_of, layers_of, first_fault, Given, given_of, HasRoot, IsInTreeOrder, has_layer_size, has_root, metainfo_of, Made, file_refusal, first_layer, AreLayersOf, tree_made, value_made, sha256, Metainfo}
use Rattle.std.proofs.lemmas.List.Elements.{All-map}
use Rattle.std.proofs.lemmas.List.Folds.{list_any_at, list_any_none}
use Rattle.std.proofs.lemmas.List.Recursion.{is_sum_by}
use Rattle.std.specs.List.{find}
use Rattle.std.proofs.lemmas.Bool.{and_right, le-ltb, or_from}
use Rattle.bt_meta.specs.Fields.{as_string}
use Rattle.bt_meta.proofs.Checks.{skips, first_of-append, each_none, holds_unless}
use Rattle.bt_meta.proofs.Lists.{All-front, All-back}
use Rattle.bt_meta.proofs.TreeWalk.{file_counted, folder_counted, some_of_filter}
use Rattle.bt_meta.proofs.RootLengths.{conflict_free}
use Rattle.bt_meta.proofs.MadeTree.{Agree, AreAlike, IsGood, entry_made, length_of_made, root_of_some, IsTreeOf, canonical_made, AreLawful, IsLawful, lawful_ordered, ordered_named, value_is_file, root_of_made, tree_is}
use Rattle.std.specs.Prelude.{codes, IsSome}
use Rattle.bt_meta.specs.EncodeSteps.{IsValueOf}
use Rattle.bt_meta.proofs.LawReadBack.{one_torrent}
use Rattle.bt_meta.proofs.MakeFiles.{files_refused, tree_paths}
use Rattle.bt_meta.specs.declared.writer.MakeError.TheVariants.{LayerSize as layer_size, LayerDiffers as layer_differs}
use Rattle.bt_meta.specs.WriterRefusals.{Check}
use Rattle.bt_meta.specs.Torrent.{IsTorrent}
use Rattle.bt_meta.specs.Writer.{IsMade, IsInfohashOf, file_made, have_overlap, torrent_made}

-- ==== no check refuses the tree of files that are lawful

-- what holds of each holds of one element, and of those before it
at_one : {A : Type 0} (P : A → Type 0) (xs : List A) (x : A) (ys all : List A) → xs ++ x ∷ ys ≡ all → All P all → P x × All P xs
at_one P xs x ys all e h = let split = rw (← e) at h in (All-head P x ys (All-back P xs (x ∷ ys) split), All-front P xs (x ∷ ys) split)

-- ---- entries of one root

-- where both have bytes and one root, they have one length
abbrev AgreeAt : TreeEntry → TreeEntry → Type 0
AgreeAt p q = length_of q ≢ 0 → length_of p ≢ 0 → root_of q ≡ root_of p → length_of q ≡ length_of p

agree_behind : (p : TreeEntry) (before : List TreeEntry) → All (AgreeAt p) (filter is_file before) → has_root_conflict (contents_of before) (content_of p) ≡ false
agree_behind p before h = elim (cases_Bool (length_of p == 0)) [
  | inl none ↦ rw none refl
  | inr some ↦
      let filled : length_of p ≢ 0 = grind (arith, nat_tests) in
      and_right _ _ (list_any_none _ _ (All-map (λ (f : Content). is_conflict (root_of p) (length_of p) f.root f.length ≡ false) content_of (filter is_file before)
      (λ k d lt. conflict_free (root_of p) _ _ _ (λ other same. h k d lt other filled same))))
]

-- ---- the entries of a tree

module _ (n : ℕ) (all : List TreeEntry) (good : All IsGood all) (alike : All (λ p. All (AgreeAt p) (filter is_file all)) (filter is_file all))
    (few : length (filter is_file all) ≤ max_file_count) (few_pieces : pieces_of n all ≤ max_piece_count) where
  one_passes : (before : List TreeEntry) (p : TreeEntry) (rest : List TreeEntry) → before ++ p ∷ rest ≡ all → entry_check n before p ≡ None
  one_passes before p rest e =
      let here = (at_one IsGood before p rest all e good).0 in
      let upto = filter is_file (before ++ p ∷ []) in
      let count = λ (q : TreeEntry). piece_count n (length_of q) in
      let whole : filter is_file all ≡ upto ++ filter is_file rest =
      rw (← e, ← append_assoc before (p ∷ []) rest) (filter-append is_file (before ++ p ∷ []) rest) in
      let files = ap length whole ∙ length-append upto (filter is_file rest) in
      let pieces = ap (sum_by count) whole ∙ sum_by-append count upto (filter is_file rest) in
      let many : is_too_many n before p ≡ false = or_from _ _ (le-ltb max_path_length _ here.shallow)
      (and_right _ _ (or_from _ _ (le-ltb max_file_count (length upto) (omega arith)) (le-ltb max_piece_count (sum_by count upto) (omega arith)))) in
      elim (cases_Bool (is_file p)) [
        | inl file ↦
            let among = λ (P : TreeEntry → Type 0). at_one P (filter is_file before) p (filter is_file rest) (filter is_file all)
            (rw (← e, filter-append is_file before (p ∷ rest), file) refl) in
            file_counted n before p here.node here.named file (here.faultless file)
            (agree_behind p before (among (AgreeAt p) (among (λ x. All (AgreeAt x) (filter is_file all)) alike).0).1) many
        | inr folder ↦ folder_counted n before p here.node here.named folder many
      ]

  entries_pass : (before es : List TreeEntry) → before ++ es ≡ all → first_of (with_earlier (entry_check n) before es) ≡ None
  entries_pass before [] e = refl
  entries_pass before (p ∷ es) e =
      skips _ _ (one_passes before p es e)
      ∙ entries_pass (before ++ p ∷ []) es (append_assoc before (p ∷ []) es ∙ e)

-- ---- the tree

agree_made : (f g : Given) → Agree g f → AgreeAt (entry_made f) (entry_made g)
agree_made f g agree = rw (length_of_made f, length_of_made g) (λ other some same.
    agree other some (sym (root_of_some g other) ∙ same ∙ root_of_some f some))

alike_entries : (files : List Given) → AreAlike files → All (λ p. All (AgreeAt p) (map entry_made files)) (map entry_made files)
alike_entries files h = All-map (λ p. All (AgreeAt p) (map entry_made files)) entry_made files
    (λ i f lt. All-map (AgreeAt (entry_made (get_or files i f))) entry_made files
    (λ j g lt'. agree_made (get_or files i f) (get_or files j g) (h j g lt' i f lt)))

count_made : (n : ℕ) (files : List Given) → sum_by (λ p. piece_count n (length_of p)) (map entry_made files) ≡ sum_by (λ g. piece_count n g.length) files
count_made n = is_sum_by (λ files. sum_by (λ p. piece_count n (length_of p)) (map entry_made files)) (λ g. piece_count n g.length) refl
    (λ f files. sum_by-cons (λ p. piece_count n (length_of p)) (entry_made f) (map entry_made files) ∙ rw (length_of_made f) refl)

tree_passes : {n : ℕ} {files : List Given} {tree : Entries} → IsTreeOf files tree → AreLawful n files → length files ≢ 0
    → first_of (tree_checks n (dictionary tree)) ≡ None
unfolding tree_checks tree_entries_below has_key
tree_passes {n} {files} {tree} h lawful some =
    let es = tree_entries_among [] tree in
    let pass = entries_pass n es h.good (rw h.tree_entries (alike_entries files lawful.alike))
    (rw (h.tree_entries, length-map _ _) lawful.few) (rw (h.tree_entries, count_made n files) lawful.pieces) [] es refl in
    let there : list_any is_file es ≡ true = some_of_filter is_file es ∙ rw (h.tree_entries, length-map) (grind (arith, nat_tests)) in
    rw (h.nameless) (first_of-append (with_earlier (entry_check n) [] es) _ pass ∙ rw there refl)

-- ==== their layers pass, and the files are given back

-- ---- the layer at a root

back : (o : Option (List ℕ)) → option_and_then as_string (option_map string o) ≡ o
back None = refl
back (Some x) = refl

more_bytes : (n m : ℕ) → nat_lt n m ≡ true → m ≢ 0
more_bytes n m long = grind (arith, nat_tests)

-- a search finds an element with what each has that passes
found : {A : Type 0} (test : A → Bool) (P : A → Type 0) (xs : List A) → All (λ x. test x ≡ true → P x) xs → list_any test xs ≡ true
    → (x : A) × (find test xs ≡ Some x) × P x
found test P [] h some = cc
found test P (x ∷ xs) h some = elim (cases_Bool (test x)) [
  | inl e ↦ (x, rw e refl, All-head (λ y. test y ≡ true → P y) x xs h e)
  | inr e ↦ rw e (found test P xs (All-tail (λ y. test y ≡ true → P y) x xs h) (rw e at some))
]

module _ {n : ℕ} {all : List Given} {layers : Entries} (layered : AreLayersOf n all layers) where
  strings_are : (root : List ℕ) → string_at (dictionary layers) root ≡ first_layer n all root
  unfolding string_at
  strings_are root = ap (option_and_then as_string) (layered.first root) ∙ back (first_layer n all root)

  -- the bytes of g pass as the layer of f
  abbrev IsLayer : Given → Given → Type 0
  IsLayer f g = (has_layer_size n f.length g.layer ≡ true) × (has_root n f.length f.root g.layer ≡ true)

  abbrev has : Given → Given → Bool
  has f g = nat_lt n g.length && pointwise nat_eq g.root f.root

  -- those of a file of the same root do
  layer_of : (f g : Given) → nat_lt n f.length ≡ true → IsLawful n g → Agree f g → has f g ≡ true → IsLayer f g
  layer_of f g long lawful agree h =
      let parts = and_parts _ _ h in
      let rooted = (bytes_eq-Decides g.root f.root).0 parts.1 in
      let sized = agree (more_bytes n _ long) (more_bytes n _ parts.0) (sym rooted) in
      let checks : List Check = fault_if (not (has_layer_size n g.length g.layer)) layer_size
      ∷ fault_if (not (has_root n g.length g.root g.layer)) layer_differs ∷ [] in
      let own = each_none checks (rw parts.0 at lawful.layer) in
      rw (sized, ← rooted) (holds_unless _ layer_size own.0, holds_unless _ layer_differs own.1.0)

  abbrev Passes : Given → Type 0
  Passes f = layer_check n (dictionary layers) (entry_made f) ≡ None

  layer_passes : AreLawful n all → All Passes all
  layer_passes h k d lt =
      let f = get_or all k d in
      elim (cases_Bool (nat_lt n f.length)) [
        | inl long ↦
            let one = found (has f) (IsLayer f) all (λ j e lt'. layer_of f _ long (h.each j e lt') (h.alike k d lt j e lt'))
            (list_any_at (has f) all k d lt (rw (long, (bytes_eq-Decides f.root f.root).1 refl) refl)) in
            rw (length_of_made f, root_of_some f (more_bytes n _ long), long, strings_are f.root, one.1, one.2.0, one.2.1) refl
        | inr short ↦ rw (length_of_made f, short) refl
      ]

  layers_pass : (files : List Given) → All Passes files → first_of (map (layer_check n (dictionary layers)) (map entry_made files)) ≡ None
  layers_pass [] h = refl
  layers_pass (f ∷ files) h = skips _ _ (All-head Passes f files h) ∙ layers_pass files (All-tail Passes f files h)

  -- ---- what is said of the files

  all_files : (files : List Given) → filter is_file (map entry_made files) ≡ map entry_made files
  all_files [] = refl
  all_files (f ∷ files) = rw (value_is_file _ _) (ap (λ es. entry_made f ∷ es) (all_files files))

  layer_said : (f : Given) → layer_at n (dictionary layers) (entry_made f) ≡ (if nat_lt n f.length then unwrap_or (first_layer n all f.root) [] else [])
  layer_said f = elim (cases_Bool (nat_lt n f.length)) [
    | inl long ↦ rw (length_of_made f, root_of_some f (more_bytes n _ long), long, strings_are f.root) refl
    | inr short ↦ rw (length_of_made f, short) refl
  ]

  files_said : (before files : List Given)
      → with_earlier (file_at n (dictionary layers)) (map entry_made before) (map entry_made files) ≡ with_earlier (file_made n all) before files
  files_said before [] = refl
  files_said before (f ∷ files) =
      let said : file_at n (dictionary layers) (map entry_made before) (entry_made f) ≡ file_made n all before f =
      cc (length_of_made f, root_of_made f, all_files before, count_made n before, layer_said f) in
      rw (said, ← map_push entry_made before f, files_said (before ++ f ∷ []) files) refl

-- ---- the value

module _ (name : List ℕ) {n : ℕ} {files : List Given} {layers : Entries} (layered : AreLayersOf n files layers) (tree : IsTreeOf files (tree_made files)) where
  made_passes : is_piece_length n ≡ true → AreLawful n files → length files ≢ 0 → first_fault (value_made name n files layers) ≡ None
  unfolding first_fault head_checks info_of dictionary_at integer_at string_at has_key layers_of piece_length_of tree_of layer_checks tree_entries_below
  made_passes lawful h some =
      let body = tree_checks n (dictionary (tree_made files)) in
      rw lawful (first_of-append body (layer_checks n (dictionary layers) (dictionary (tree_made files))) (tree_passes tree h some)
      ∙ rw tree.tree_entries (layers_pass layered files (layer_passes layered h)))

  said : torrent_made name n files ≡ metainfo_of (info_of (value_made name n files layers)) (layers_of (value_made name n files layers))
  unfolding torrent_made metainfo_of info_of dictionary_at layers_of piece_length_of integer_at tree_of string_at files_of tree_entries_below
  said = rw (tree.tree_entries, files_said layered [] files) refl

-- ---- the torrent

-- what each lemma below takes: what was checked, and what was written
module _ (files : List Made) {name : List ℕ} {n : ℕ} {ordered : List Given} {value : Data} {bytes : List ℕ}
    (lawful : true ≡ is_piece_length n) (some : false ≡ (length files == 0))
    (none : first_of (with_earlier (file_refusal n) [] (map given_of files)) ≡ None) (rooted : All HasRoot (map given_of files))
    (order : IsInTreeOrder (map given_of files) ordered) (apart : false ≡ have_overlap ordered) (made : IsValueOf name n ordered value)
    (spelled : bytes ≡ spelling_of value) (small : length bytes ≤ max_text_length) where
  torrent_of_given : IsTorrent bytes (torrent_made name n ordered)
  torrent_of_given =
      let given = map given_of files in
      let h = lawful_ordered n given ordered none order in
      let named = ordered_named n given ordered none order in
      let tree = tree_is n ordered (tree_paths order apart) named h.each (All-permutation HasRoot given ordered order.same rooted) in
      let as_many : length ordered ≡ length files = length_permutation given ordered order.same ∙ length-map _ _ in
      record {
        value = value_made name n ordered made.layers;
        small = small;
        canonical = canonical_made name n _ _ (sym lawful) tree made.layered;
        spelled = sym (spelled ∙ ap spelling_of made.made);
        faultless = made_passes name made.layered tree (sym lawful) h (grind (arith, nat_tests));
        described = said name made.layered tree;
      }

  pub made_of_given : IsMade name n (map given_of files) bytes
  made_of_given = record {
    faultless = files_refused n files lawful some ∙ none;
    ordered = ordered;
    in_order = order;
    tree_paths = tree_paths order apart;
    layers = made.layers;
    layered = made.layered;
    spelled = spelled ∙ ap spelling_of made.made;
    torrent = torrent_of_given;
    small = small;
  }

  pub infohash_made : {digest : List ℕ} → digest ≡ sha256 (spelling_of (info_of value)) → IsInfohashOf bytes digest
  unfolding torrent_made info_of dictionary_at
  infohash_made is torrent h =
      is ∙ rw made.made refl ∙ ap (λ (t : Metainfo). t.infohash) (one_torrent bytes (torrent_made name n ordered) torrent torrent_of_given h)

-- the value of a torrent has its `info`
pub has_info : {name : List ℕ} {n : ℕ} {ordered : List Given} {value : Data} → IsValueOf name n ordered value
    → IsSome (dictionary_at value (codes "info"))
unfolding dictionary_at
has_info made = rw made.made refl
