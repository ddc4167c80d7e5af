-- Trees that are kept for later files of the same root and length.
use Rattle.std.proofs.Common.{◌≡◌, ℕ, zero, suc, ◌+◌, ◌<◌, ◌≤◌, ◌↔◌, ◌&&◌, ◌==◌, Bool, true, false, true≢false, cond, List, [], ◌∷◌, ◌++◌, length, map, get_or, leb, inl, inr, Option, None, Some, refl, sym, ap, ◌∙◌, subst, arith, IsTrue}
use Rattle.std.specs.Prelude.{nat_eq, slice_get}
use Rattle.std.specs.Cmp.Lexicographic.{pointwise, slice_cmp}
use Rattle.std.specs.List.{filter}
use Rattle.std.specs.Option.{option_or}
use Rattle.std.specs.Ordering.{is_eq, nat_cmp, ordering_then}
use Rattle.std.specs.declared.cmp.Ordering.{Ordering}
use Rattle.std.specs.declared.cmp.Ordering.TheVariants.{Less, Equal, Greater}
use Rattle.std.specs.BTreeMap.{BTreeMap, UpdatesBy, get, is_at}
use Rattle.std.specs.Map.{lookup}
use Rattle.std.proofs.lemmas.Bool.{cases_lt, lt-ltb, le-ltb, le-leb, leb-true, eqb-true}
use Rattle.std.proofs.lemmas.Bool.Decides.{eqb_tells}
use Rattle.std.proofs.lemmas.List.Elements.{filter-append}
use Rattle.std.proofs.lemmas.Map.Text.{is_eq-slice_cmp}
use Rattle.std.proofs.lemmas.Slice.Eq.{bytes_eq-Decides}
use Rattle.bt_disk.specs.Conduct.{Conduct}
use Rattle.bt_meta.specs.Files.{File}
use Rattle.bt_sparse.specs.SparseTree.{Facts}
use Rattle.bt_sparse.proofs.Values.{none_some}
use Rattle.bt_check.specs.Check.{CheckedFile, IsFileFinding, present, are_twins, is_twin, twins_layer, twins_leaf, layer_before, leaves_before}
use Rattle.bt_check.specs.CheckSteps.{HoldsLeaves, leaves_after}
use Rattle.bt_check.specs.EntryCheck.{Answers, IsEntryCheck, leaf_read}
use Rattle.bt_check.specs.Finding.{KnownLayer, known_layer, no_leaves}
use Rattle.bt_check.specs.TreeSteps.{Key, Kept, tree_key, key_cmp, tree_in, HasTree, TakesTree, LeavesKept, ChecksFile, KeepsTrees, IsLast, LetsGo}
use Rattle.bt_check.specs.declared.data_file.Finding.{Finding}
use Rattle.bt_check.specs.declared.trees.SharedTrees.{SharedTrees}
use Rattle.bt_check.proofs.LeafKnowledge.{same_leaves}
use Rattle.bt_check.proofs.RightBlocks.{cases_bool}
use Rattle.bt_check.proofs.AdoptedGroups.{both_true}

-- ---- keys

then_is : (o p : Ordering) → is_eq (ordering_then o p) ≡ (is_eq o && is_eq p)
then_is Less p = refl
then_is Equal p = refl
then_is Greater p = refl

nat_cmp_is : (a b : ℕ) → is_eq (nat_cmp a b) ≡ (a == b)
nat_cmp_is a b = elim (cases_lt a b) [
  | inl lt ↦ ap (λ t. is_eq (cond t Less (cond (a == b) Equal Greater))) (lt-ltb a b lt) ∙ elim (eqb_tells a b) [
    | inl is ↦ absurd (omega (arith, is.1, lt))
    | inr is ↦ sym is.0
  ]
  | inr le ↦ ap (λ t. is_eq (cond t Less (cond (a == b) Equal Greater))) (le-ltb a b le) ∙ either (a == b)
]
  where
    either : (t : Bool) → is_eq (cond t Equal Greater) ≡ t
    either true = refl
    either false = refl

-- the keys of two files are equal where they are twins
pub key_tells : (file other : File) → is_eq (key_cmp (tree_key file) (tree_key other)) ≡ are_twins file other
key_tells file other =
    then_is (slice_cmp nat_cmp file.root other.root) (nat_cmp file.length other.length)
    ∙ ap (λ b. b && is_eq (nat_cmp file.length other.length)) (is_eq-slice_cmp file.root other.root)
    ∙ ap (λ b. pointwise nat_eq file.root other.root && b) (nat_cmp_is file.length other.length)

-- a tree is taken out of what is kept, or put there
pub others_kept : (file : File) (key : Key) (old new : Kept) (w : Option Facts) → key ≡ tree_key file → UpdatesBy key_cmp (key_cmp key) old new w → LeavesKept file old new
others_kept file key old new w same update other apart =
    update.2 (tree_key other) (ap (λ k. is_eq (key_cmp k (tree_key other))) same ∙ key_tells file other ∙ apart)

pub put_at : (file : File) (key : Key) (old new : Kept) (k : Facts) → key ≡ tree_key file → UpdatesBy key_cmp (key_cmp key) old new (Some k) → tree_in new file ≡ Some k
put_at file key old new k same update = ap (λ q. get key_cmp new q) (sym same) ∙ update.1

first_true : (a b : Bool) → (a && b) ≡ true → a ≡ true
first_true true b e = refl
first_true false b e = absurd (true≢false (sym e))

pub one_root : (file other : File) → are_twins file other ≡ true → file.root ≡ other.root
one_root file other e = (bytes_eq-Decides file.root other.root).0 (first_true _ _ e)

pub one_length : (file other : File) → are_twins file other ≡ true → file.length ≡ other.length
one_length file other e = eqb-true file.length other.length (both_true _ _ e)

pub own_twin : (file : File) → are_twins file file ≡ true
own_twin file = ap (λ b. b && file.length == file.length) ((bytes_eq-Decides file.root file.root).1 refl) ∙ same file.length
  where
    same : (m : ℕ) → (m == m) ≡ true
    same m = elim (eqb_tells m m) [ inl is ↦ is.0 | inr is ↦ absurd (is.1 refl) ]

-- ---- what is kept of a file

twins_same : (file other : File) (xs : List CheckedFile) → are_twins file other ≡ true → filter (is_twin other) xs ≡ filter (is_twin file) xs
twins_same file other xs e =
    ap (λ r. filter (λ (c : CheckedFile). pointwise nat_eq c.file.root r && c.file.length == other.length) xs) (sym (one_root file other e))
    ∙ ap (λ m. filter (λ (c : CheckedFile). pointwise nat_eq c.file.root file.root && c.file.length == m) xs) (sym (one_length file other e))

tree_same : (file other : File) (kept : Kept) → are_twins file other ≡ true → tree_in kept other ≡ tree_in kept file
tree_same file other kept e =
    ap (λ r. get key_cmp kept (r, other.length)) (sym (one_root file other e)) ∙ ap (λ m. get key_cmp kept (file.root, m)) (sym (one_length file other e))

-- one file more was checked
twin_more : (file : File) (before : List CheckedFile) (c : CheckedFile) → is_twin file c ≡ true
    → filter (is_twin file) (before ++ c ∷ []) ≡ filter (is_twin file) before ++ c ∷ []
twin_more file before c e = filter-append (is_twin file) before (c ∷ []) ∙ ap (λ b. filter (is_twin file) before ++ cond b (c ∷ []) []) e

twin_not : (file : File) (before : List CheckedFile) (c : CheckedFile) → is_twin file c ≡ false
    → filter (is_twin file) (before ++ c ∷ []) ≡ filter (is_twin file) before
twin_not file before c e = filter-append (is_twin file) before (c ∷ []) ∙ ap (λ b. filter (is_twin file) before ++ cond b (c ∷ []) []) e ∙ all (filter (is_twin file) before)
  where
    all : (xs : List CheckedFile) → xs ++ [] ≡ xs
    all [] = refl
    all (x ∷ xs) = ap (λ l. x ∷ l) (all xs)

layer_more : (layer : ℕ) (file : File) (xs : List CheckedFile) (answers : Answers)
    → twins_layer layer file (xs ++ record { file = file; answers = answers } ∷ []) ≡ twins_layer layer file xs
layer_more layer file [] answers = refl
layer_more layer file (x ∷ xs) answers = refl

or_assoc : {X : Type 0} (o p q : Option X) → option_or o (option_or p q) ≡ option_or (option_or o p) q
or_assoc None p q = refl
or_assoc (Some x) p q = refl

or_none : {X : Type 0} (o : Option X) → option_or o None ≡ o
or_none None = refl
or_none (Some x) = refl

leaf_more : (n : ℕ) (known : KnownLayer) (xs : List CheckedFile) (c : CheckedFile) (i : ℕ)
    → twins_leaf n known (xs ++ c ∷ []) i ≡ option_or (twins_leaf n known xs i) (leaf_read c.answers.reads n known i)
leaf_more n known [] c i = or_none (leaf_read c.answers.reads n known i)
leaf_more n known (x ∷ xs) c i =
    ap (option_or (leaf_read x.answers.reads n known i)) (leaf_more n known xs c i)
    ∙ or_assoc (leaf_read x.answers.reads n known i) (twins_leaf n known xs i) (leaf_read c.answers.reads n known i)

-- it has another tree
other_kept : (layer : ℕ) (before : List CheckedFile) (file other : File) (answers : Answers) (old new : Kept) → are_twins file other ≡ false
    → tree_in new other ≡ tree_in old other → HasTree layer before other old → HasTree layer (before ++ record { file = file; answers = answers } ∷ []) other new
other_kept layer before file other answers old new apart same has =
    let c : CheckedFile = record { file = file; answers = answers } in
    let twins = twin_not other before c apart in
    record {
      none = λ some e. twins ∙ has.none some (sym same ∙ e);
      tree = λ k some e. subst (λ xs. HoldsLeaves other.length (twins_layer layer other xs) (twins_leaf other.length (twins_layer layer other xs) xs) k) (sym twins)
          (has.tree k some (sym same ∙ e));
    }

-- it has the tree of the file that was checked
twin_kept : (layer : ℕ) (before : List CheckedFile) (file other : File) (answers : Answers) (new : Kept) → are_twins file other ≡ true
    → HasTree layer (before ++ record { file = file; answers = answers } ∷ []) file new → HasTree layer (before ++ record { file = file; answers = answers } ∷ []) other new
twin_kept layer before file other answers new same has =
    let c : CheckedFile = record { file = file; answers = answers } in
    let after : List CheckedFile = before ++ c ∷ [] in
    let long : file.length ≡ other.length = one_length file other same in
    let twins : filter (is_twin other) after ≡ filter (is_twin file) after = twins_same file other after same in
    let own : filter (is_twin file) after ≡ filter (is_twin file) before ++ c ∷ [] = twin_more file before c (own_twin file) in
    record {
      none = λ some e. twins ∙ has.none (omega (arith, some, long)) (sym (tree_same file other new same) ∙ e);
      tree = λ k some e.
          let holds = has.tree k (omega (arith, some, long)) (sym (tree_same file other new same) ∙ e) in
          let layers : twins_layer layer file (filter (is_twin file) after) ≡ twins_layer layer other (filter (is_twin other) after) =
          ap (twins_layer layer file) own ∙ same_first (filter (is_twin file) before) c ∙ ap (twins_layer layer other) (sym own ∙ sym twins) in
          subst (λ m. HoldsLeaves m (twins_layer layer other (filter (is_twin other) after))
          (twins_leaf m (twins_layer layer other (filter (is_twin other) after)) (filter (is_twin other) after)) k) long
          (subst (λ l. HoldsLeaves file.length l (twins_leaf file.length l (filter (is_twin other) after)) k) layers
          (subst (λ xs. HoldsLeaves file.length (twins_layer layer file (filter (is_twin file) after))
          (twins_leaf file.length (twins_layer layer file (filter (is_twin file) after)) xs) k) (sym twins) holds));
    }
  where
    same_first : (xs : List CheckedFile) (c : CheckedFile) → twins_layer layer file (xs ++ c ∷ []) ≡ twins_layer layer other (xs ++ c ∷ [])
    same_first [] c = refl
    same_first (x ∷ xs) c = refl

-- what is kept of any file is so after a file was checked
pub others_after : (layer : ℕ) (before : List CheckedFile) (file : File) (answers : Answers) (old new : Kept)
    → HasTree layer (before ++ record { file = file; answers = answers } ∷ []) file new → LeavesKept file old new
    → (other : File) → HasTree layer before other old → HasTree layer (before ++ record { file = file; answers = answers } ∷ []) other new
others_after layer before file answers old new own others other had = elim (cases_bool (are_twins file other)) [
  | inl same ↦ twin_kept layer before file other answers new same own
  | inr apart ↦ other_kept layer before file other answers old new apart (others other apart) had
]

-- there is no data file, or it is known that there is one
pub absent_checked : {D : Type 0} {conduct : Conduct D} {layer : ℕ} {file : File} {disk : Option D} {kept : Kept} {finding : Finding} → disk ≡ None
    → ((before : List CheckedFile) → IsFileFinding conduct layer before file finding None before) → ChecksFile conduct layer file disk kept finding kept
absent_checked {conduct = conduct} {layer} {file} {finding = finding} none found before has =
    (before, subst (λ o. IsFileFinding conduct layer before file finding o before) (sym none) (found before), λ other had. had)

pub checked_with : {D : Type 0} {conduct : Conduct D} {layer : ℕ} {file : File} {disk there : Option D} {old new : Kept} {finding : Finding} → disk ≡ there
    → ChecksFile conduct layer file there old finding new → ChecksFile conduct layer file disk old finding new
checked_with {conduct = conduct} {layer} {file} {old = old} {new} {finding} same checks =
    subst (λ o. ChecksFile conduct layer file o old finding new) (sym same) checks

module _ (layer : ℕ) (file : File) (old new : Kept) where
  -- its device gave answers
  pub present_checked : {D : Type 0} {conduct : Conduct D} {finding : Finding} (disk after : D)
      → ((before : List CheckedFile) → HasTree layer before file old → (answers : Answers)
      × IsEntryCheck conduct file.length (layer_before layer before file) (leaves_before layer before file) disk answers after finding
      × HasTree layer (before ++ record { file = file; answers = answers } ∷ []) file new)
      → LeavesKept file old new → ChecksFile conduct layer file (Some disk) old finding new
  present_checked disk after checked others before has =
      let made = checked before has in (
        before ++ record { file = file; answers = made.0 } ∷ [],
        present disk after made.0 made.1,
        others_after layer before file made.0 old new made.2 others,
      )

  -- it is empty
  pub empty_kept : (before : List CheckedFile) (answers : Answers) → file.length ≡ 0 → HasTree layer (before ++ record { file = file; answers = answers } ∷ []) file new
  empty_kept before answers empty = record {
    none = λ some e. absurd (omega (arith, some, empty));
    tree = λ k some e. absurd (omega (arith, some, empty));
  }

  -- its tree is put back
  pub tree_kept : (before : List CheckedFile) (answers : Answers) (k : Facts) → tree_in new file ≡ Some k
      → HoldsLeaves file.length (layer_before layer before file)
      (leaves_after (leaves_before layer before file) answers.reads file.length (layer_before layer before file)) k
      → HasTree layer (before ++ record { file = file; answers = answers } ∷ []) file new
  tree_kept before answers k put holds =
      let c : CheckedFile = record { file = file; answers = answers } in
      let own = twin_more file before c (own_twin file) in
      let twins : List CheckedFile = filter (is_twin file) before in
      let known : KnownLayer = twins_layer layer file twins in
      record {
        none = λ some e. absurd (none_some k (sym e ∙ put));
        tree = λ j some e.
            let same : k ≡ j = some_is (sym put ∙ e) in
            let told : HoldsLeaves file.length known (twins_leaf file.length known (twins ++ c ∷ [])) k =
            same_leaves file.length known (leaves_after (twins_leaf file.length known twins) answers.reads file.length known)
            (twins_leaf file.length known (twins ++ c ∷ [])) k (λ i lt. sym (leaf_more file.length known twins c i)) holds in
            subst (λ m. HoldsLeaves file.length (layer_before layer (before ++ c ∷ []) file) (leaves_before layer (before ++ c ∷ []) file) m) same
            (subst (λ xs. HoldsLeaves file.length (twins_layer layer file xs) (twins_leaf file.length (twins_layer layer file xs) xs) k) (sym own)
            (subst (λ l. HoldsLeaves file.length l (twins_leaf file.length l (twins ++ c ∷ [])) k) (sym (layer_more layer file twins answers)) told));
      }
    where
      some_is : {x y : Facts} → Some x ≡ Some y → x ≡ y
      some_is e = cc

-- ---- the trees of all files

pub first_has : {layer : ℕ} {before : List CheckedFile} {file : File} {rest : List File} {trees : SharedTrees} → KeepsTrees layer before (file ∷ rest) trees
    → HasTree layer before file trees.kept
first_has {file = file} keeps = keeps.has 0 file refl

pub next_trees : (layer : ℕ) (before after : List CheckedFile) (file : File) (rest : List File) (old mid new : SharedTrees)
    → KeepsTrees layer before (file ∷ rest) old → mid.last ≡ old.last → mid.left ≡ length rest
    → ((other : File) → HasTree layer before other old.kept → HasTree layer after other mid.kept) → LetsGo file mid new → KeepsTrees layer after rest new
next_trees layer before after file rest old mid new keeps last_is left_is others goes = record {
  count = goes.0 ∙ left_is;
  has = λ i other at.
      let had : HasTree layer after other mid.kept = others other (keeps.has (suc i) other at) in
      elim (goes.2 other) [
        | inl same ↦ record { none = λ some e. had.none some (sym same ∙ e); tree = λ k some e. had.tree k some (sym same ∙ e) }
        | inr gone ↦
            let behind = keeps.last (suc i) other at in
            let key : get key_cmp old.last (tree_key file) ≡ Some behind.0 =
            ap (λ r. get key_cmp old.last (r, file.length)) (one_root file other gone.0) ∙ ap (λ m. get key_cmp old.last (other.root, m)) (one_length file other gone.0) ∙ behind.2 in
            let few = gone.1 behind.0 (ap (λ m. get key_cmp m (tree_key file)) last_is ∙ key) in
            absurd (omega (arith, few, left_is, behind.1))
      ];
  last = λ i other at.
      let behind = keeps.last (suc i) other at in
      (behind.0, omega (arith, behind.1), ap (λ m. get key_cmp m (tree_key other)) (goes.1 ∙ last_is) ∙ behind.2);
}

-- whether a file is the last
pub tells_last : (trees : SharedTrees) (file : File) (behind : ℕ) → get key_cmp trees.last (tree_key file) ≡ Some behind
    → IsTrue (leb trees.left behind) ↔ IsLast trees file
tells_last trees file behind at = (
  λ t other e. subst (λ m. trees.left ≤ m) (same (sym at ∙ e)) (leb-true trees.left behind t),
  λ h. le-leb trees.left behind (h behind at),
)
  where
    same : {x y : ℕ} → Some x ≡ Some y → x ≡ y
    same e = cc

pub tells_none : (trees : SharedTrees) (file : File) → get key_cmp trees.last (tree_key file) ≡ None → IsTrue true ↔ IsLast trees file
tells_none trees file at = (λ t other e. absurd (none_some other (sym at ∙ e)), λ _. refl)

-- what was read of a list, as it is mapped
pub read_mapped : {X Y : Type 0} (f : X → Y) (xs : List X) (i : ℕ) (x : X) → i < length xs → x ≡ get_or xs i x → slice_get (map f xs) i ≡ Some (f x)
read_mapped f [] i x lt e = absurd (omega (arith, lt))
read_mapped f (y ∷ xs) zero x lt e = ap (λ z. Some (f z)) (sym e)
read_mapped f (y ∷ xs) (suc i) x lt e = read_mapped f xs i x (omega (arith, lt)) e

-- how many files come after the last of each root and length among the first files
abbrev pub TellsLast : List File → ℕ → BTreeMap Key ℕ → Type 0
TellsLast files count last = (i : ℕ) (file : File) → i < count → slice_get files i ≡ Some file
    → (behind : ℕ) × (behind + i < length files) × (get key_cmp last (tree_key file) ≡ Some behind)

pub last_more : (files : List File) (i left : ℕ) (old new : BTreeMap Key ℕ) (file : File) → slice_get files i ≡ Some file → left + i < length files
    → ((k : Key) → get key_cmp new k ≡ cond (is_eq (key_cmp (tree_key file) k)) (Some left) (get key_cmp old k)) → TellsLast files i old
    → TellsLast files (i + 1) new
last_more files i left old new file here room update told j other lt at =
    let test : (b : Bool) → are_twins file other ≡ b → get key_cmp new (tree_key other) ≡ cond b (Some left) (get key_cmp old (tree_key other)) =
    λ b e. update (tree_key other) ∙ ap (λ t. cond t (Some left) (get key_cmp old (tree_key other))) (key_tells file other ∙ e) in
    elim (cases_bool (are_twins file other)) [
      | inl same ↦ (left, omega (arith, lt, room), test true same)
      | inr apart ↦ elim (cases_lt j i) [
        | inl lower ↦ let t = told j other lower at in (t.0, t.1, test false apart ∙ t.2)
        | inr le ↦
            let index : j ≡ i = omega (arith, le, lt) in
            let same : file ≡ other = some_file (sym here ∙ ap (λ m. slice_get files m) (sym index) ∙ at) in
            absurd (true≢false (sym (own_twin file) ∙ ap (are_twins file) same ∙ apart))
      ]
    ]
  where
    some_file : {x y : File} → Some x ≡ Some y → x ≡ y
    some_file e = cc

-- of some files none is checked yet
pub trees_begun : (layer : ℕ) (files : List File) (trees : SharedTrees) → trees.left ≡ length files → trees.kept.entries ≡ [] → TellsLast files (length files) trees.last
    → KeepsTrees layer [] files trees
trees_begun layer files trees count empty told = record {
  count = count;
  has = λ i file at. record {
    none = λ some e. refl;
    tree = λ k some e. absurd (none_some k (sym (ap (λ (es : List (Key × Facts)). lookup (is_at (key_cmp (tree_key file))) es) empty) ∙ e));
  };
  last = λ i file at. told i file (below files i at) at;
}
  where
    below : (xs : List File) (i : ℕ) {x : File} → slice_get xs i ≡ Some x → i < length xs
    below [] zero e = cc
    below [] (suc i) e = cc
    below (x ∷ xs) zero e = omega arith
    below (x ∷ xs) (suc i) e = omega (arith, below xs i e)

-- ---- taking a tree

-- one that is kept, or a new one
pub kept_taken : (layer : ℕ) (file : File) (key : Key) (kept : Kept) (k : Facts) → key ≡ tree_key file → get key_cmp kept key ≡ Some k → TakesTree layer file kept k
kept_taken layer file key kept k same found before has some = has.tree k some (ap (λ q. get key_cmp kept q) (sym same) ∙ found)

pub new_taken : (layer n : ℕ) (file : File) (key : Key) (kept : Kept) (k : Facts) → key ≡ tree_key file → get key_cmp kept key ≡ None → n ≡ file.length
    → HoldsLeaves n (known_layer layer file) no_leaves k → TakesTree layer file kept k
new_taken layer n file key kept k same absent long holds before has some =
    let none = has.none some (ap (λ q. get key_cmp kept q) (sym same) ∙ absent) in
    subst (λ xs. HoldsLeaves file.length (twins_layer layer file xs) (twins_leaf file.length (twins_layer layer file xs) xs) k) (sym none)
    (subst (λ m. HoldsLeaves m (known_layer layer file) no_leaves k) long holds)
