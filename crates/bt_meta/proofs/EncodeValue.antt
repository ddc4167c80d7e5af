-- The value of files in tree order: its tree, and its layers by their roots.
use Rattle.bt_meta.proofs.Base.{◌≡◌, ◌⊎◌, ℕ, false, List, [], ◌∷◌, ◌++◌, length, arith, refl, sym, ap, ◌∙◌, inl, inr, Some, None, zero, suc, ◌+◌, ◌<◌, ◌≤◌, Bool, true, map, add-one, Option, nat_eq, take, get_or, ◌&&◌, nat_lt, cond, Vec, nat_cmp, is_eq, slice_cmp, pointwise, nat_list_cmp_total, Equal, Greater, Less, tied_itself, is_eq-slice_cmp, true≢false, cases_Bool, and_parts, exact_bytes, bytes_eq-Decides, Bor, All, take_more, take_all, get_or-map, length-map, option_map, Data, dictionary, Entries, no_entries, entry, data_of, entries_of, string, first_value_of, Value, EntriesAscend, HasAscendingKeys, with_file, properties_made, tree_made, first_layer, entries_before, AreBefore, ComesAfter, is_nonempty, AreNonEmpty, given_at, HasFirstLayers, path_order, begins, Given, HaveTreePaths, Made}
use Rattle.std.specs.Prelude.{is_some}
use Rattle.std.proofs.lemmas.List.Sums.{fold_more}
use Rattle.std.proofs.lemmas.Cmp.{nat_list_eq_equiv}
use Rattle.std.proofs.option.Match.{None-if_not_some}
use Rattle.std.specs.Option.{option_or}
use Rattle.std.specs.List.Sorted.{IsStrictlySortedBy}
use Rattle.std.specs.Map.{keys_of, lookup}
use Rattle.std.specs.BTreeMap.{BTreeMap, get, is_at}
use Rattle.bt_meta.specs.Encode.{with_entry}
use Rattle.bt_meta.specs.EncodeSteps.{opened, opened_entry}

-- ==== the entries of a folder, and a file put after them

pub entries_push : (es : List (Vec ℕ × Value)) (key : Vec ℕ) (v : Value)
    → entries_of (es ++ (key, v) ∷ []) ≡ entries_before (entries_of es) (entry key.items (data_of v) no_entries)
entries_push [] key v = refl
entries_push (e ∷ es) key v = ap (entry e.0.items (data_of e.1)) (entries_push es key v)

-- ---- entries that stand before the name

pub before_none : (es : Entries) → entries_before es no_entries ≡ es
before_none no_entries = refl
before_none (entry key d es) = ap (entry key d) (before_none es)

-- they are passed over
ahead : (name : List ℕ) (f : Data) (rest es : Entries) → AreBefore name es
    → (first_value_of (entries_before es rest) name ≡ first_value_of rest name)
    × (with_entry name f (entries_before es rest) ≡ entries_before es (with_entry name f rest))
unfolding with_entry
ahead name f rest no_entries h = (refl, refl)
ahead name f rest (entry key d es) h =
    let later = ahead name f rest es h.2 in
    (rw (← is_eq-slice_cmp key name, nat_list_cmp_total.antisymm key name, h.0) later.0, rw (h.0, later.1) refl)

-- ---- opening the last folder

pub opened_push : (name : List ℕ) (es : Entries) (key : List ℕ) (d : Data) → opened name (entries_before es (entry key d no_entries))
    ≡ (entries_before es (opened_entry name key d).0, (opened_entry name key d).1)
opened_push name no_entries key d = refl
opened_push name (entry k e no_entries) key d = refl
opened_push name (entry k e (entry l f es)) key d = rw (opened_push name (entry l f es) key d) refl

-- these entries stand before those of the folder of this name, and these in it; none, if there is no such folder
abbrev pub IsOpened : List ℕ → Entries → Entries × Entries → Type 0
IsOpened name es parts =
    ((es ≡ parts.0) × (parts.1 ≡ no_entries)) ⊎ (es ≡ entries_before parts.0 (entry name (dictionary parts.1) no_entries))

is_opened : (name : List ℕ) (es : Entries) → IsOpened name es (opened name es)
is_opened name no_entries = inl (refl, refl)
is_opened name (entry key (dictionary inner) no_entries) = elim (cases_Bool (pointwise nat_eq key name)) [
  | inl same ↦ let is : key ≡ name = (bytes_eq-Decides _ _).0 same in rw same (inr cc)
  | inr other ↦ rw other (inl (refl, refl))
]
is_opened name (entry key d no_entries) = inl (refl, refl)
is_opened name (entry key d (entry k e es)) = elim (is_opened name (entry k e es)) [
  | inl whole ↦ inl (ap (entry key d) whole.0, whole.1)
  | inr split ↦ inr (ap (entry key d) split)
]

pub behind_none : (path : List (List ℕ)) → ComesAfter path no_entries
behind_none [] = refl
behind_none (name ∷ path) = (tt, behind_none path)

-- ---- a file after the others

pub file_in : (name : List ℕ) (path : List (List ℕ)) (d : Data) (es earlier inner : Entries) → (earlier, inner) ≡ opened name es
    → ComesAfter (name ∷ path) es
    → entries_before earlier (entry name (dictionary (with_file path d inner)) no_entries) ≡ with_file (name ∷ path) d es
unfolding with_file with_entry
file_in name path d es earlier inner is behind =
    let passed = λ (i rest : Entries). ahead name (dictionary (with_file path d i)) rest earlier (rw (← is) at behind.0) in
    elim (rw (← is) at (is_opened name es)) [
      | inl whole ↦ let p = rw before_none at (passed no_entries no_entries) in rw (whole.0, whole.1, p.0, p.1) refl
      | inr split ↦
          let p = passed inner (entry name (dictionary inner) no_entries) in
          rw (split, p.0, nat_list_eq_equiv.refl name, p.1, tied_itself nat_list_cmp_total name) refl
    ]

-- the folder before and after the file: the entries before the last one, which is a folder of this name
pub record IsInFolder (Below : Entries → Entries → Type 0) (name : List ℕ) (old new : Entries) : Type 0 where
  pub earlier : Entries
  pub inner : Entries
  pub more : Entries
  pub before : AreBefore name earlier
  pub split : IsOpened name old (earlier, inner)
  pub new_is : new ≡ entries_before earlier (entry name (dictionary more) no_entries)
  pub below : Below inner more

-- the new entries are the old ones and after them, at this path, a file with these properties
abbrev pub IsPut : Data → List (List ℕ) → Entries → Entries → Type 0
IsPut d [] old new = (old ≡ no_entries) × (new ≡ entry [] d no_entries)
IsPut d (name ∷ path) old new = IsInFolder (IsPut d path) name old new

pub put_there : (path : List (List ℕ)) (d : Data) (es : Entries) → ComesAfter path es → IsPut d path es (with_file path d es)
unfolding with_file with_entry
put_there [] d es none = (none, rw none refl)
put_there (name ∷ path) d es behind =
    let parts = opened name es in
    record {
      earlier = parts.0;
      inner = parts.1;
      more = with_file path d parts.1;
      before = behind.0;
      split = is_opened name es;
      new_is = sym (file_in name path d es _ _ refl behind);
      below = put_there path d _ behind.1;
    }

-- ==== files of which no path begins the next go into a tree one after the other

module _ (m n : List ℕ) (less : slice_cmp nat_cmp n m ≡ Less) where
  above : (k : List ℕ) → slice_cmp nat_cmp n k ≡ Greater → slice_cmp nat_cmp m k ≡ Greater
  above k greater =
      let below = nat_list_cmp_total.trans k n m (rw (nat_list_cmp_total.antisymm k n, greater) refl) less in
      rw (nat_list_cmp_total.antisymm m k, below) refl

  all_above : (d : Data) (es : Entries) → is_nonempty n ≡ true → AreBefore n es → AreBefore m (entries_before es (entry n d no_entries))
  all_above d no_entries named h = (rw (nat_list_cmp_total.antisymm m n, less) refl, named, tt)
  all_above d (entry key e es) named h = (above key h.0, h.1, all_above d es named h.2)

pub next_behind : (p q : List (List ℕ)) (d : Data) (es new : Entries) → AreNonEmpty p → IsPut d p es new → path_order p q ≡ Less → begins p q ≡ false
    → ComesAfter q new
next_behind [] q d es new named put less apart = absurd (true≢false apart)
next_behind (n ∷ p) [] d es new named put less apart = cc
next_behind (n ∷ p) (m ∷ q) d es new named put less apart =
    (elim (slice_cmp nat_cmp n m) as (λ o. o ≡ slice_cmp nat_cmp n m → ComesAfter (m ∷ q) new) [
      | Less ↦ λ e. rw (put.new_is, opened_push m, ← is_eq-slice_cmp n m, ← e) (all_above m n (sym e) _ _ named.0 put.before, behind_none q)
      | Equal ↦ λ e.
          let same = exact_bytes n m (sym e) in
          let below = next_behind p q d put.inner put.more named.1 put.below (rw (← e) at less) (rw (← is_eq-slice_cmp n m, ← e) at apart) in
          rw (put.new_is, opened_push m, ← is_eq-slice_cmp n m, ← e) (rw (before_none, ← same) put.before, below)
      | Greater ↦ λ e. let greater : Greater ≡ Less = rw (← e) at less in cc
    ]) refl

-- ---- the loop over the files

abbrev pub nothing : Given
nothing = record { path = []; length = 0; root = []; layer = [] }

abbrev put : Entries → Given → Entries
put es f = with_file f.path (properties_made f) es

module _ (files : List Given) (tree_paths : HaveTreePaths files) (named : All (λ g. AreNonEmpty g.path) files) where
  -- each file stands after those before it
  behind_others : (i : ℕ) → i < length files → ComesAfter (get_or files i nothing).path (tree_made (take i files))
  unfolding tree_made
  behind_others zero lt = behind_none _
  behind_others (suc i) more =
      let lt : i < length files = omega arith in
      let next = tree_paths i nothing (omega arith) in
      rw (← add-one i, fold_more put no_entries files i nothing lt)
      (next_behind _ _ _ _ _ (named i nothing lt) (put_there _ _ _ (behind_others i lt)) next.0 next.1)

  -- what is kept as one file more is put into the tree is so of the tree of all files
  module _ (P : List Given → Entries → Type 0) (begun : P [] no_entries)
      (more : (i : ℕ) (tree : Entries) → i < length files → ComesAfter (get_or files i nothing).path tree → P (take i files) tree
      → P (take i files ++ get_or files i nothing ∷ []) (put tree (get_or files i nothing))) where
    grown_to : (i : ℕ) → i ≤ length files → P (take i files) (tree_made (take i files))
    unfolding tree_made
    grown_to zero within = begun
    grown_to (suc i) within =
        let lt : i < length files = omega arith in
        rw (← add-one i, fold_more put no_entries files i nothing lt, take_more files i nothing lt)
        (more i _ lt (behind_others i lt) (grown_to i (omega arith)))

    pub grows : P files (tree_made files)
    grows = rw (take_all (length files) files (omega arith)) at (grown_to (length files) (omega arith))

module _ (files : List (Bor Made)) (i : ℕ) (m : Bor Made) (lt : i < length files) (is : m ≡ get_or files i m) where
  lent_at : get_or (map given_at files) i nothing ≡ given_at m
  lent_at = get_or-map given_at files i m nothing lt ∙ ap given_at (sym is)

  pub lent_behind : HaveTreePaths (map given_at files) → All (λ f. AreNonEmpty f.path) (map given_at files)
      → ComesAfter (given_at m).path (tree_made (take i (map given_at files)))
  lent_behind tree_paths named = rw lent_at at (behind_others _ tree_paths named i (rw length-map lt))

  pub tree_more : tree_made (take (i + 1) (map given_at files)) ≡ put (tree_made (take i (map given_at files))) (given_at m)
  unfolding tree_made
  tree_more = fold_more put no_entries (map given_at files) i nothing (rw length-map lt) ∙ ap (put _) lent_at

-- ==== the layers of files by their roots

-- ---- the map as entries

abbrev now_of : Option (Bor (List ℕ)) → Option (List ℕ)
now_of = option_map (λ layer. layer.now)

-- the pairs as entries
abbrev pub layer_list : List (List ℕ × Bor (List ℕ)) → Entries
layer_list [] = no_entries
layer_list (e ∷ es) = entry e.0 (string e.1.now) (layer_list es)

pub before_more : (es rest : Entries) (key : List ℕ) (d : Data)
    → entries_before (entries_before es (entry key d no_entries)) rest ≡ entries_before es (entry key d rest)
before_more no_entries rest key d = refl
before_more (entry k e es) rest key d = ap (entry k e) (before_more es rest key d)

pub list_ascends : (es : List (List ℕ × Bor (List ℕ))) → IsStrictlySortedBy (slice_cmp nat_cmp) (keys_of es) → EntriesAscend (layer_list es)
unfolding IsStrictlySortedBy EntriesAscend HasAscendingKeys
list_ascends [] h = tt
list_ascends (e ∷ []) h = (tt, tt, tt)
list_ascends (e ∷ f ∷ es) h = (h.0.0, tt, list_ascends (f ∷ es) h.1)

pub list_finds : (es : List (List ℕ × Bor (List ℕ))) (root : List ℕ)
    → first_value_of (layer_list es) root ≡ option_map string (now_of (lookup (is_at (slice_cmp nat_cmp root)) es))
list_finds [] root = refl
list_finds (e ∷ es) root =
    rw (nat_list_eq_equiv.symm e.0 root, ← is_eq-slice_cmp root e.0) (elim (cases_Bool (is_eq (slice_cmp nat_cmp root e.0))) [
      | inl same ↦ rw same refl
      | inr other ↦ rw other (list_finds es root)
    ])

-- ---- one file more

module _ (n : ℕ) (f : Given) where
  abbrev has : List ℕ → Given → Bool
  has root g = nat_lt n g.length && pointwise nat_eq g.root root

  -- the first layer is that of the files before, or else that of the file
  behind : (files : List Given) (root : List ℕ) → first_layer n (files ++ f ∷ []) root ≡ option_or (first_layer n files root) (first_layer n (f ∷ []) root)
  behind [] root = refl
  behind (g ∷ gs) root = elim (cases_Bool (has root g)) [
    | inl first ↦ rw first refl
    | inr other ↦ rw other (behind gs root)
  ]

  module _ (files : List Given) (old : BTreeMap (List ℕ) (Bor (List ℕ))) (h : HasFirstLayers n files old) where
    abbrev layer_there : List ℕ → Option (Bor (List ℕ))
    layer_there = get (slice_cmp nat_cmp) old

    -- a root where the file has no layer, or another has one
    stays : (root : List ℕ) → (nat_lt n f.length ≡ true → pointwise nat_eq f.root root ≡ true → is_some (layer_there root) ≡ true)
        → now_of (layer_there root) ≡ first_layer n (files ++ f ∷ []) root
    stays root there = rw (behind files root, ← h root) (by (layer_there root) (has root f) (λ t. let both = and_parts _ _ t in there both.0 both.1))
      where
        by : (o : Option (Bor (List ℕ))) (t : Bool) → (t ≡ true → is_some o ≡ true)
            → now_of o ≡ option_or (now_of o) (option_map (λ (g : Given). g.layer) (cond t (Some f) None))
        by None true there = absurd (true≢false (sym (there refl)))
        by None false there = refl
        by (Some layer) t there = refl

    -- a file of one piece
    pub layers_of_short : nat_lt n f.length ≡ false → HasFirstLayers n (files ++ f ∷ []) old
    layers_of_short short root = stays root (λ long same. cc)

    -- one whose root has a layer
    pub layers_of_known : is_some (layer_there f.root) ≡ true → HasFirstLayers n (files ++ f ∷ []) old
    layers_of_known known root = stays root (λ long same. rw (← (bytes_eq-Decides f.root root).0 same) known)

    -- one whose root has none yet
    pub layers_of_new : (new : BTreeMap (List ℕ) (Bor (List ℕ))) (layer : Bor (List ℕ)) → nat_lt n f.length ≡ true
        → is_some (layer_there f.root) ≡ false → layer.now ≡ f.layer
        → ((root : List ℕ) → get (slice_cmp nat_cmp) new root ≡ cond (is_at (slice_cmp nat_cmp f.root) root) (Some layer) (layer_there root))
        → HasFirstLayers n (files ++ f ∷ []) new
    layers_of_new new layer long absent is updates root = rw (updates root, is_eq-slice_cmp f.root root) (elim (cases_Bool (pointwise nat_eq f.root root)) [
      | inl same ↦
          let none : layer_there root ≡ None = None-if_not_some _ (rw ((bytes_eq-Decides f.root root).0 same) at absent) in
          rw (same, is, behind files root, ← h root, none, long, same) refl
      | inr other ↦ rw other (stays root (λ long same. cc))
    ])
