-- The tree of files that are put into it in their order: it is canonical, and has an entry for each file.
use Rattle.bt_meta.proofs.Base.{◌≡◌, ℕ, zero, suc, ◌<◌, ◌≤◌, ◌^◌, true, false, List, [], ◌∷◌, length, refl, sym, ap, ◌∙◌, arith, inl, inr, None, Some, ◌≢◌, ◌++◌, map, get_or, append_assoc, Bool, length-append, Option, IfSome, nat_eq, nat_le, ◌==◌, not, sum_by, filter, unwrap_or, replicate, if◌then◌else◌, All, list_all, last_or, option_map, is_eq, is_eq-slice_cmp, ordering_reverse, pointwise, nat_list_cmp_total, cases_Bool, and_parts, leb-true, nat_tests, bytes_eq-Decides, Bor, append-nil, get_or-map, length-map, map_push, All-nil, All-push, All-cons, All-tail, All-append, filter-append, All-permutation, length_permutation, is_utf8-from_IsUtf8, Data, integer, string, dictionary, Entries, no_entries, entry, first_value_of, IsBefore, HasAscendingKeys, EntriesAscend, IsCanonical, max_file_length, max_path_length, max_file_count, max_piece_count, is_piece_length, first_of, is_path, is_element, is_node, has_lawful_name, is_path_element, has_lawful_length, has_lawful_root, Given, HaveTreePaths, IsInTreeOrder, HasRoot, properties_made, tree_made, AreLayersOf, value_made, with_file, entries_before, AreNonEmpty, AreBefore, given_at, ComesAfter, with_earlier, TreeEntry, tree_entries_among, piece_count, Content, is_conflict, is_file, properties_of, length_in, root_in, length_of, root_of, file_refusal, Made, Count, has_key, dictionary_at, integer_at, string_at, property_checks}
use Rattle.std.proofs.Common.{pos}
use Rattle.std.proofs.lemmas.Int.{ints}
use Rattle.std.proofs.lemmas.List.Sorted.{sum_by-IsPermutation}
use Rattle.std.proofs.lemmas.Str.{IsUtf8-nil}
use Rattle.bt_bencode.specs.Doc.{nesting_of, first_key_of, HasSmallIntegers, IsCanonicalWithin}
use Rattle.bt_meta.proofs.EncodeValue.{IsPut, before_none, put_there, nothing, grows}
use Rattle.bt_meta.specs.GivenFiles.{content_given}
use Rattle.bt_meta.specs.WriterRefusals.{Check, layer_refusal, conflict_with}
use Rattle.bt_meta.specs.declared.writer.MakeError.TheVariants.{BadPath, FileLength, RootConflict}
use Rattle.bt_meta.proofs.Lists.{none_mapped, All-front, All-back}
use Rattle.bt_meta.proofs.RootLengths.{no_conflict}
use Rattle.bt_meta.proofs.Checks.{AreNone, each_none, first_none, not_faulty, holds_unless}
use Rattle.bt_meta.proofs.TreeWalk.{last_push}

-- ==== what is known of files that none of the checks before the making refuses

-- a file that is lawful by itself
pub record IsLawful (piece_length : ℕ) (f : Given) : Type 0 where
  pub path : is_path f.path ≡ true
  pub short : f.length ≤ max_file_length
  pub layer : layer_refusal piece_length f ≡ None
  pub shallow : length f.path ≤ max_path_length

-- where both have bytes and one root, they have one length
abbrev pub Agree : Given → Given → Type 0
Agree f g = f.length ≢ 0 → g.length ≢ 0 → f.root ≡ g.root → f.length ≡ g.length

abbrev pub AreAlike : List Given → Type 0
AreAlike files = All (λ f. All (Agree f) files) files

-- files that are lawful together
pub record AreLawful (piece_length : ℕ) (files : List Given) : Type 0 where
  pub each : All (IsLawful piece_length) files
  pub alike : AreAlike files
  pub few : length files ≤ max_file_count
  pub pieces : sum_by (λ g. piece_count piece_length g.length) files ≤ max_piece_count

-- ---- one file more

alike_more : (before : List Given) (f : Given) → AreAlike before → conflict_with before f ≡ false → AreAlike (before ++ f ∷ [])
alike_more before f h apart =
    let own : All (Agree f) before = λ k d lt some other same.
    let filled : (f.length == 0) ≡ false = grind (arith, nat_tests) in
    sym (no_conflict _ _ _ _ (none_mapped (λ (g : Content). is_conflict f.root f.length g.root g.length) content_given before (rw filled at apart) k d lt) other (sym same))
    in
    All-push (λ g. All (Agree g) (before ++ f ∷ [])) _ f
    (λ k d lt. All-push (Agree (get_or before k d)) before f (h k d lt) (λ some other same. sym (own k d lt other some (sym same))))
    (All-push (Agree f) before f own (λ some other same. refl))

three_none : (a b c : Check) → first_of (a ∷ b ∷ c ∷ []) ≡ None → AreNone (a ∷ b ∷ c ∷ [])
three_none a b c h = each_none (a ∷ b ∷ c ∷ []) h

module _ (piece_length : ℕ) where
  one_more : (before : List Given) (f : Given) → AreLawful piece_length before → file_refusal piece_length before f ≡ None
      → AreLawful piece_length (before ++ f ∷ [])
  one_more before f h none =
      let all = three_none _ _ _ none in
      let own = three_none _ _ _ all.0 in
      let limits = not_faulty _ Count all.1.1.0 in
      record {
        each = All-push (IsLawful piece_length) before f h.each (record {
          path = holds_unless _ BadPath own.0;
          short = leb-true f.length _ (holds_unless _ FileLength own.1.0);
          layer = own.1.1.0;
          shallow = grind (arith, nat_tests);
        });
        alike = alike_more _ f h.alike (not_faulty _ RootConflict all.1.0);
        few = grind (arith, nat_tests);
        pieces = grind (arith, nat_tests);
      }

  lawful_behind : (before files : List Given) → AreLawful piece_length before
      → first_of (with_earlier (file_refusal piece_length) before files) ≡ None → AreLawful piece_length (before ++ files)
  lawful_behind before [] h none = rw (append-nil before) h
  lawful_behind before (f ∷ files) h none =
      let p = first_none _ _ none in
      rw (append_assoc before (f ∷ []) files) at (lawful_behind (before ++ f ∷ []) files (one_more before f h p.0) p.1)

  module _ (files ordered : List Given) (none : first_of (with_earlier (file_refusal piece_length) [] files) ≡ None) (order : IsInTreeOrder files ordered) where
    -- in another order too
    pub lawful_ordered : AreLawful piece_length ordered
    lawful_ordered =
        let begun : AreLawful piece_length [] = record { each = All-nil _; alike = All-nil _; few = omega arith; pieces = omega arith } in
        let h = lawful_behind [] files begun none in
        record {
          each = All-permutation (IsLawful piece_length) files _ order.same h.each;
          alike = All-permutation (λ f. All (Agree f) ordered) files _ order.same
              (λ i d lt. All-permutation (Agree (get_or files i d)) files _ order.same (h.alike i d lt));
          few = rw (length_permutation files _ order.same) h.few;
          pieces = rw (sum_by-IsPermutation (λ (g : Given). piece_count piece_length g.length) files _ order.same) h.pieces;
        }

    pub ordered_named : All (λ g. AreNonEmpty g.path) ordered
    ordered_named = λ i d lt. named_from _ (and_parts _ _ (lawful_ordered.each i d lt).path).1
      where
        named_from : (path : List (List ℕ)) → list_all is_element path ≡ true → AreNonEmpty path
        named_from [] e = tt
        named_from ([] ∷ path) e = cc
        named_from ((byte ∷ bytes) ∷ path) e = (refl, named_from path (and_parts _ _ e).1)

pub lent_short : (piece_length : ℕ) (files : List Given) (ordered : List (Bor Made))
    → first_of (with_earlier (file_refusal piece_length) [] files) ≡ None → IsInTreeOrder files (map given_at ordered)
    → All (λ (m : Bor Made). m.now.length ≤ max_file_length) ordered
lent_short piece_length files ordered none order k d lt =
    rw (get_or-map _ _ k d (given_at d) lt) at ((lawful_ordered _ _ _ none order).each k (given_at d) (rw (length-map _ _) lt)).short

-- ==== canonical values

-- the dictionary of the entries is canonical, and their values are of nesting at most n
abbrev pub AreCanonicalWithin : ℕ → Entries → Type 0
AreCanonicalWithin n es = IsCanonicalWithin (suc n) (dictionary es)

module _ {n : ℕ} where
  none_canonical : AreCanonicalWithin n no_entries
  unfolding nesting_of HasAscendingKeys HasSmallIntegers
  none_canonical = record { nesting = omega arith; keys = tt; integers = tt }

  first_canonical : {key : List ℕ} {d : Data} {es : Entries} → IfSome (first_key_of es) (IsBefore key) → IsCanonicalWithin n d
      → AreCanonicalWithin n es → AreCanonicalWithin n (entry key d es)
  unfolding nesting_of HasAscendingKeys HasSmallIntegers
  first_canonical before here rest =
      record { nesting = omega arith; keys = (before, here.keys, rest.keys); integers = (here.integers, rest.integers) }

  first_parts : {key : List ℕ} {d : Data} {es : Entries} → AreCanonicalWithin n (entry key d es)
      → IfSome (first_key_of es) (IsBefore key) × IsCanonicalWithin n d × AreCanonicalWithin n es
  unfolding nesting_of HasAscendingKeys HasSmallIntegers
  first_parts h = (
    h.keys.0,
    record { nesting = omega arith; keys = h.keys.1; integers = h.integers.0 },
    record { nesting = omega arith; keys = h.keys.2; integers = h.integers.1 },
  )

  string_canonical : {s : List ℕ} → IsCanonicalWithin n (string s)
  unfolding nesting_of HasAscendingKeys HasSmallIntegers
  string_canonical = record { nesting = omega arith; keys = tt; integers = tt }

  integer_canonical : {m : ℕ} → m < 2 ^ 63 → IsCanonicalWithin n (integer (pos m))
  unfolding nesting_of HasAscendingKeys HasSmallIntegers
  integer_canonical small = record { nesting = omega arith; keys = tt; integers = omega (arith, ints) }

  -- ---- an entry after the others

  module _ (name : List ℕ) {d : Data} where
    last_canonical : (es : Entries) → AreBefore name es → AreCanonicalWithin n es → IsCanonicalWithin n d
        → AreCanonicalWithin n (entries_before es (entry name d no_entries))
    last_canonical no_entries before some here = first_canonical tt here none_canonical
    last_canonical (entry key e no_entries) before some here =
        let less : IsBefore key name = nat_list_cmp_total.antisymm key name ∙ ap ordering_reverse before.0 in
        first_canonical less (first_parts some).1 (first_canonical tt here none_canonical)
    last_canonical (entry key e (entry other f es)) before some here =
        let p = first_parts some in first_canonical p.0 p.1 (last_canonical (entry other f es) before.2 p.2 here)

    -- with another value under the last name
    changed_canonical : {e : Data} (es : Entries) → (IsCanonicalWithin n d → IsCanonicalWithin n e)
        → AreCanonicalWithin n (entries_before es (entry name d no_entries)) → AreCanonicalWithin n (entries_before es (entry name e no_entries))
    changed_canonical no_entries change h = first_canonical tt (change (first_parts h).1) none_canonical
    changed_canonical (entry key f no_entries) change h = let p = first_parts h in first_canonical p.0 p.1 (changed_canonical no_entries change p.2)
    changed_canonical (entry key f (entry other g es)) change h =
        let p = first_parts h in first_canonical p.0 p.1 (changed_canonical (entry other g es) change p.2)

-- ---- a file put into a tree

canonical_put : {d : Data} (path : List (List ℕ)) (n : ℕ) (old new : Entries) → ((m : ℕ) → IsCanonicalWithin (suc m) d) → IsPut d path old new
    → length path < n → AreCanonicalWithin n old → AreCanonicalWithin n new
canonical_put path zero old new here put deep some = absurd (omega arith)
canonical_put [] (suc n) old new here put deep some = rw put.1 (first_canonical tt (here n) none_canonical)
canonical_put (name ∷ path) (suc n) old new here put deep some =
    let below = canonical_put path n put.inner put.more here put.below (omega arith) in
    rw put.new_is (elim put.split [
      | inl s ↦ last_canonical name put.earlier put.before (rw s.0 at some) (below (rw s.1 none_canonical))
      | inr e ↦ changed_canonical name put.earlier below (rw e at some)
    ])

properties_canonical : {n : ℕ} (f : Given) → f.length ≤ max_file_length → IsCanonicalWithin (suc n) (properties_made f)
properties_canonical f short = elim (cases_Bool (f.length == 0)) [
  | inl none ↦ rw none (first_canonical tt (integer_canonical (omega arith)) none_canonical)
  | inr some ↦ rw some (first_canonical refl (integer_canonical (omega arith)) (first_canonical tt string_canonical none_canonical))
]

-- ---- the layers, by the first value of each key

-- what stands before the first key stands before each that is found
found_behind : (before key : List ℕ) (d : Data) (es : Entries) → IfSome (first_key_of es) (IsBefore before) → EntriesAscend es
    → first_value_of es key ≡ Some d → IsBefore before key
unfolding EntriesAscend
found_behind before key d no_entries less keys is = cc
found_behind before key d (entry other e es) less keys is = elim (cases_Bool (pointwise nat_eq other key)) [
  | inl same ↦ rw ((bytes_eq-Decides other key).0 same) at less
  | inr more ↦ nat_list_cmp_total.trans before other key less (found_behind other key d es keys.0 keys.2 (rw more at is))
]

values_canonical : {n : ℕ} (es : Entries) → EntriesAscend es
    → ((key : List ℕ) (d : Data) → first_value_of es key ≡ Some d → IsCanonicalWithin n d) → AreCanonicalWithin n es
unfolding EntriesAscend
values_canonical no_entries keys all = none_canonical
values_canonical (entry key d es) keys all =
    first_canonical keys.0 (all key d (rw ((bytes_eq-Decides key key).1 refl) refl)) (values_canonical es keys.2 (λ k e is.
    let other : pointwise nat_eq key k ≡ false = sym (is_eq-slice_cmp key k) ∙ ap is_eq (found_behind key k e es keys.0 keys.2 is) in
    all k e (rw other is)))

layers_canonical : {n piece_length : ℕ} {files : List Given} {layers : Entries} → AreLayersOf piece_length files layers → AreCanonicalWithin n layers
layers_canonical h = values_canonical _ h.ascending (λ key d is. layer _ d (sym (h.first key) ∙ is))
  where
    layer : {n : ℕ} (o : Option (List ℕ)) (d : Data) → option_map string o ≡ Some d → IsCanonicalWithin n d
    layer None d e = cc
    layer (Some s) d e = let is : string s ≡ d = cc in rw (← is) string_canonical

-- ==== the entries of a tree that files are put into one after the other

-- an entry that no check of its own refuses
pub record IsGood (p : TreeEntry) : Type 0 where
  pub node : is_node p.value ≡ true
  pub named : has_lawful_name p ≡ true
  pub shallow : length p.path ≤ max_path_length
  pub faultless : is_file p ≡ true → first_of (property_checks (properties_of p)) ≡ None

-- what the entry of a file with these properties holds
abbrev pub file_value : Entries → Data
file_value properties = dictionary (entry [] (dictionary properties) no_entries)

-- a folder, and what lies in it
abbrev pub with_folder : List (List ℕ) → Entries → List TreeEntry
with_folder path es = record { path = path; value = dictionary es } ∷ tree_entries_among path es

module _ (path : List (List ℕ)) where
  pub value_is_file : (properties : Entries) → is_file (record { path = path; value = file_value properties }) ≡ true
  unfolding has_key
  value_is_file properties = refl

  folder_is_none : (es : Entries) → first_value_of es [] ≡ None → is_file (record { path = path; value = dictionary es }) ≡ false
  unfolding has_key
  folder_is_none es none = rw none refl

  module _ (named : is_path_element (unwrap_or (last_or None path) []) ≡ true) (shallow : length path ≤ max_path_length) where
    good_file : (properties : Entries) → first_of (property_checks (dictionary properties)) ≡ None
        → IsGood (record { path = path; value = file_value properties })
    unfolding is_node has_key dictionary_at
    good_file properties faultless = record { node = refl; named = named; shallow = shallow; faultless = λ file. faultless }

    good_folder : (es : Entries) → first_value_of es [] ≡ None → IsGood (record { path = path; value = dictionary es })
    unfolding is_node has_key
    good_folder es none = record { node = rw none refl; named = named; shallow = shallow; faultless = λ file. cc }

-- ---- a folder after the others

nameless : (name : List ℕ) (es others : Entries) → AreBefore name es → first_value_of (entries_before es others) [] ≡ first_value_of others []
nameless name no_entries others h = refl
nameless name (entry [] d es) others h = cc
nameless name (entry (byte ∷ bytes) d es) others h = nameless name es others h.2

abbrev pub has_names : List (List ℕ) → Bool
has_names path = list_all is_element path

put_nameless : (path : List (List ℕ)) (d : Data) (old new : Entries) → has_names path ≡ true → IsPut d path old new
    → (first_value_of old [] ≡ None) × (length path ≢ 0 → first_value_of new [] ≡ None)
put_nameless [] d old new lawful put = (rw put.0 refl, λ some. absurd (some refl))
put_nameless ([] ∷ path) d old new lawful put = cc
put_nameless ((byte ∷ bytes) ∷ path) d old new lawful put = (
  elim put.split [
    | inl s ↦ rw s.0 (rw (before_none _) at (nameless (byte ∷ bytes) put.earlier no_entries put.before))
    | inr e ↦ rw e (nameless (byte ∷ bytes) put.earlier _ put.before)
  ],
  λ some. rw put.new_is (nameless (byte ∷ bytes) put.earlier _ put.before),
)

entries_ahead : (prefix : List (List ℕ)) (byte : ℕ) (bytes : List ℕ) (inner es : Entries)
    → tree_entries_among prefix (entries_before es (entry (byte ∷ bytes) (dictionary inner) no_entries))
    ≡ tree_entries_among prefix es ++ with_folder (prefix ++ (byte ∷ bytes) ∷ []) inner
unfolding tree_entries_among
entries_ahead prefix byte bytes inner no_entries = rw (append-nil _) refl
entries_ahead prefix byte bytes inner (entry [] d es) = entries_ahead prefix byte bytes inner es
entries_ahead prefix byte bytes inner (entry (b ∷ bs) d es) = rw (entries_ahead prefix byte bytes inner es, append_assoc) refl

-- ---- a file put into entries

-- the new entries are good, where the old ones are, and have one file more, after the others
pub record HasFileMore (file : TreeEntry) (old new : List TreeEntry) : Type 0 where
  pub good : All IsGood old → All IsGood new
  pub files : filter is_file new ≡ filter is_file old ++ file ∷ []

module _ {file : TreeEntry} {old new : List TreeEntry} (h : HasFileMore file old new) where
  more_behind : (ahead : List TreeEntry) → HasFileMore file (ahead ++ old) (ahead ++ new)
  more_behind ahead = record {
    good = λ all. All-append IsGood ahead new (All-front IsGood ahead old all) (h.good (All-back IsGood ahead old all));
    files = rw (filter-append is_file ahead new, filter-append is_file ahead old, h.files, append_assoc) refl;
  }

  more_in_folder : (folder : TreeEntry) → is_file folder ≡ false → HasFileMore file (folder ∷ old) new
  more_in_folder folder other = record { good = λ all. h.good (All-tail IsGood folder old all); files = rw other h.files }

  in_good_folder : (folder : TreeEntry) → IsGood folder → is_file folder ≡ false → HasFileMore file old (folder ∷ new)
  in_good_folder folder good other = record { good = λ all. All-cons IsGood folder new good (h.good all); files = rw other h.files }

module _ (properties : Entries) (faultless : first_of (property_checks (dictionary properties)) ≡ None) where
  put_in : (prefix path : List (List ℕ)) (old new : Entries) → is_path_element (unwrap_or (last_or None prefix) []) ≡ true → has_names path ≡ true
      → length (prefix ++ path) ≤ max_path_length → IsPut (dictionary properties) path old new
      → HasFileMore (record { path = prefix ++ path; value = file_value properties }) (tree_entries_among prefix old) (with_folder prefix new)
  unfolding tree_entries_among
  put_in prefix [] old new last lawful shallow put =
      let whole = append-nil prefix in
      rw (put.0, put.1, whole) (record {
        good = All-cons IsGood _ [] (good_file prefix last (rw whole at shallow) properties faultless);
        files = rw (value_is_file prefix properties) refl;
      })
  put_in prefix ([] ∷ path) old new last lawful shallow put = cc
  put_in prefix ((byte ∷ bytes) ∷ path) old new last lawful shallow put =
      let name = byte ∷ bytes in
      let names = and_parts (is_element name) (has_names path) lawful in
      let inner = prefix ++ name ∷ [] in
      let same = append_assoc prefix (name ∷ []) path in
      let below = rw same at (put_in inner path put.inner put.more (rw (last_push None prefix name) (and_parts _ _ names.0).1) names.1
      (rw same shallow) put.below) in
      let ahead = tree_entries_among prefix put.earlier in
      let folder = folder_is_none inner put.inner (put_nameless path (dictionary properties) put.inner put.more names.1 put.below).0 in
      let none = (put_nameless (name ∷ path) (dictionary properties) old new lawful put).1 (omega arith) in
      let short : length prefix ≤ max_path_length = omega (arith, length-append prefix (name ∷ path)) in
      in_good_folder (rw (put.new_is, entries_ahead prefix byte bytes put.more put.earlier) (elim put.split [
        | inl s ↦ rw s.0 (rw (append-nil ahead) at (more_behind (rw s.1 at below) ahead))
        | inr e ↦ rw (e, entries_ahead prefix byte bytes put.inner put.earlier) (more_behind (more_in_folder below _ folder) ahead)
      ])) _ (good_folder prefix last short new none) (folder_is_none prefix new none)

-- ==== the tree of all files

-- ---- the properties of a file

properties_pass : (f : Given) → f.length ≤ max_file_length → length f.root ≡ 32 → first_of (property_checks (properties_made f)) ≡ None
unfolding has_key has_lawful_length has_lawful_root length_in root_in integer_at string_at
properties_pass f short long =
    let within : nat_le f.length max_file_length ≡ true = grind (arith, nat_tests) in
    elim (cases_Bool (f.length == 0)) [
      | inl empty ↦ rw (empty, within) refl
      | inr some ↦ rw (some, within, long) refl
    ]

-- its entry
abbrev pub entry_made : Given → TreeEntry
entry_made f = record { path = f.path; value = dictionary (entry [] (properties_made f) no_entries) }

pub length_of_made : (f : Given) → length_of (entry_made f) ≡ f.length
unfolding dictionary_at length_in integer_at
length_of_made f = refl

pub root_of_made : (f : Given) → root_of (entry_made f) ≡ (if f.length == 0 then replicate 32 0 else f.root)
unfolding dictionary_at root_in length_in integer_at string_at
root_of_made f = elim (cases_Bool (f.length == 0)) [
  | inl empty ↦ rw empty refl
  | inr some ↦ rw some refl
]

pub root_of_some : (f : Given) → f.length ≢ 0 → root_of (entry_made f) ≡ f.root
root_of_some f some = let filled : (f.length == 0) ≡ false = grind (arith, nat_tests) in root_of_made f ∙ rw filled refl

-- ---- the tree

-- these files are in it, in their order, nothing in it is refused by itself, and it is canonical
pub record IsTreeOf (files : List Given) (tree : Entries) : Type 0 where
  pub good : All IsGood (tree_entries_among [] tree)
  pub tree_entries : filter is_file (tree_entries_among [] tree) ≡ map entry_made files
  pub nameless : first_value_of tree [] ≡ None
  pub canonical : AreCanonicalWithin 125 tree

tree_begun : IsTreeOf [] no_entries
unfolding tree_entries_among
tree_begun = record { good = All-nil _; tree_entries = refl; nameless = refl; canonical = none_canonical }

file_more : {piece_length : ℕ} {before : List Given} {f : Given} {tree : Entries} → IsLawful piece_length f → HasRoot f → ComesAfter f.path tree
    → IsTreeOf before tree → IsTreeOf (before ++ f ∷ []) (with_file f.path (properties_made f) tree)
unfolding is_path_element
file_more {f = f} {tree} lawful rooted behind h =
    let names = and_parts (not (length f.path == 0)) _ lawful.path in
    let put = put_there f.path (properties_made f) tree behind in
    let more = put_in _ (properties_pass f lawful.short rooted) [] f.path tree _ (is_utf8-from_IsUtf8 [] IsUtf8-nil) names.1 lawful.shallow put in
    let none = (put_nameless f.path _ tree _ names.1 put).1 (grind (arith, nat_tests, names.0)) in
    record {
      good = All-tail IsGood _ _ (more.good h.good);
      tree_entries = rw (folder_is_none [] _ none) at more.files ∙ rw (h.tree_entries, map_push _ _ f) refl;
      nameless = none;
      canonical = canonical_put f.path 125 tree _ (λ m. properties_canonical f lawful.short) put (omega arith) h.canonical;
    }

pub tree_is : (piece_length : ℕ) (files : List Given) → HaveTreePaths files → All (λ f. AreNonEmpty f.path) files → All (IsLawful piece_length) files
    → All HasRoot files → IsTreeOf files (tree_made files)
tree_is piece_length files tree_paths named lawful rooted =
    grows files tree_paths named IsTreeOf tree_begun (λ i tree lt. file_more (lawful i nothing lt) (rooted i nothing lt))

-- ---- the whole

pub canonical_made : (name : List ℕ) (piece_length : ℕ) (files : List Given) (layers : Entries) → is_piece_length piece_length ≡ true
    → IsTreeOf files (tree_made files) → AreLayersOf piece_length files layers → IsCanonical (value_made name piece_length files layers)
canonical_made name piece_length files layers lawful tree layered =
    let small : piece_length < 2 ^ 63 = grind (arith, nat_tests) in
    first_canonical refl (first_canonical refl tree.canonical
    (first_canonical refl (integer_canonical (omega arith))
    (first_canonical refl string_canonical
    (first_canonical tt (integer_canonical small) none_canonical))))
    (first_canonical tt (layers_canonical layered) none_canonical)
