-- Roots by their numbers: one is found there, or gets the next; and the trees of their first files.
use Rattle.bt_machine.proofs.Base.{[], ◌≡◌, ◌≢◌, ℕ, suc, ◌+◌, ◌<◌, inl, inr, List, ◌∷◌, ◌++◌, length, get_or, Option, Some, None, refl, sym, ap, ◌∙◌, subst, arith, slice_get, AllPairs, All, All-get_or, cases_lt, map, length-map, get_or-map, ◌≤◌, File, Metainfo, IsLawful, IsLawfulFile, Facts}
use Rattle.std.specs.Ordering.{nat_cmp}
use Rattle.std.specs.Cmp.Lexicographic.{slice_cmp}
use Rattle.std.specs.BTreeMap.{Updates}
use Rattle.std.proofs.lemmas.Option.{get_or_from_slice_get}
use Rattle.std.proofs.lemmas.List.{map-append}
use Rattle.std.proofs.lemmas.Simd.{map-map}
use Rattle.std.specs.Prelude.{IsSome, is_some}
use Rattle.std.specs.Option.{option_map_or}
use Rattle.bt_machine.proofs.Lists.{some_is, some_below, get_some, get_map}
use Rattle.bt_machine.proofs.Pairs.{Pairs, to_pairs, from_pairs, pairs_at}
use Rattle.bt_tree.specs.Limits.{max_file_length}
use Rattle.bt_meta.specs.Files.{file_of}
use Rattle.bt_meta.specs.Torrent.{HaveOneLengthPerRoot}
use Rattle.bt_meta.specs.declared.torrent.FileEntry.{FileEntry}
use Rattle.bt_machine.specs.Start.{IsTreeFrom, by_layer, by_root}
use Rattle.bt_engine_state.specs.Ties.{EachIsFirst, IsFirstFile, root_and_length, root_and_length_of}
use Rattle.bt_engine_state.specs.declared.slot.Slot.{Slot}
use Rattle.bt_engine_state.proofs.BlockChanges.{pairs_of_map}
use Rattle.bt_engine_state.proofs.Lists.{get_at, get_read, get_mapped}
use Rattle.bt_engine_state.specs.Roots.{Numbers, number_of, AreNumbered}
use Rattle.bt_engine_start.specs.RootsSteps.{roots_of, roots_and_lengths, AreByRoot, Extends, HasTreeAt, AreTorrentTrees, IsBareSlot, AreBareSlotsSoFar, AreBareSlots}
use Rattle.bt_engine_start.specs.TreesSteps.{AreTreesSoFar, AreTreesOf}
use Rattle.bt_engine_start.proofs.Numbers.{number_kept, number_added}
use Rattle.bt_engine_start.proofs.Pushes.{get_cases}

pub tree_is : {dig : List ℕ → List ℕ} {torrent : Metainfo} {file : File} {k : Facts} → IsTreeFrom dig torrent file k
    → (k.root ≡ file.root) × (k.file_length ≡ file.length)
tree_is (by_layer layer some piece h) = (h.root_is, h.length_is)
tree_is (by_root none is) = (ap (λ (k : Facts). k.root) is, ap (λ (k : Facts). k.file_length) is)

one_length : (files : List File) → HaveOneLengthPerRoot files → (i j : ℕ) {f g : File} → slice_get files i ≡ Some f → slice_get files j ≡ Some g
    → 0 < f.length → 0 < g.length → f.root ≡ g.root → f.length ≡ g.length
one_length files have i j {f} {g} at there some many same =
    let pairs = to_pairs (λ f g. f.length ≢ 0 → g.length ≢ 0 → f.root ≡ g.root → f.length ≡ g.length) files have in
    elim (cases_lt i j) [
      | inl lt ↦ pairs_at (λ f g. f.length ≢ 0 → g.length ≢ 0 → f.root ≡ g.root → f.length ≡ g.length) files i j pairs at there lt (λ e. absurd (omega arith)) (λ e. absurd (omega arith)) same
      | inr ge ↦ elim (cases_lt j i) [
        | inl lt ↦ sym (pairs_at (λ f g. f.length ≢ 0 → g.length ≢ 0 → f.root ≡ g.root → f.length ≡ g.length) files j i pairs there at lt (λ e. absurd (omega arith)) (λ e. absurd (omega arith)) (sym same))
        | inr le ↦ (let here : i ≡ j = omega arith in ap (λ (f : File). f.length) (some_is (sym at ∙ ap (λ n. slice_get files n) here ∙ there)))
      ]
    ]

pub lawful_file : {piece_length : ℕ} {files : List File} → IsLawful piece_length files → (i : ℕ) {file : File} → slice_get files i ≡ Some file → IsLawfulFile piece_length file
lawful_file {piece_length} {files} lawful i {file} listed =
    subst (λ (file : File). IsLawfulFile piece_length file) (get_or_from_slice_get files i file file listed)
    (All-get_or (IsLawfulFile piece_length) files i file (some_below files i listed) lawful.each)

-- ---- the first files of roots

-- what stands under a file's number is what its tree has
pub listed_root : (files : List File) (number : ℕ) {file : File} → slice_get files number ≡ Some file
    → root_and_length_of files number ≡ (file.root, file.length)
listed_root files number listed = ap (λ o. option_map_or (λ (f : File). (f.root, f.length)) o ([], 0)) listed

module _ {files : List File} {from : ℕ} {firsts : List ℕ} {numbers : Numbers} (by : AreByRoot files from firsts numbers) where
  -- the number of a file's root is that of its tree
  pub known_tree : HaveOneLengthPerRoot files → (index : ℕ) {file : File} → slice_get files index ≡ Some file
      → {t : ℕ} → number_of numbers file.root ≡ Some t → HasTreeAt file (roots_and_lengths files firsts) t
  known_tree one index {file} listed {t} has some =
      let n = get_map (λ number. (root_and_length_of files number).0) firsts t ((by.numbered t file.root).0 has) in
      let first = by.each t n.0 n.1 in
      let is = listed_root files n.0 first.listed in
      let root : first.file.root ≡ file.root = sym (ap (λ p. p.0) is) ∙ n.2 in
      get_mapped (root_and_length_of files) firsts t n.1
      ∙ ap (λ p. Some p) (is ∙ ap (λ r. (r, first.file.length)) root
      ∙ ap (λ n. (file.root, n)) (one_length files one n.0 index first.listed listed first.some some root))

  -- no two have one root
  pub roots_apart : AllPairs (λ r s. r ≢ s) (roots_of files firsts)
  roots_apart i j d lt within same =
      let roots = roots_of files firsts in
      let first = (by.numbered i (get_or roots i d)).1 (get_at roots i d (omega arith)) in
      let second = (by.numbered j (get_or roots j d)).1 (get_at roots j d within) in
      let here : i ≡ j = some_is (sym first ∙ ap (λ root. number_of numbers root) same ∙ second) in
      absurd (omega arith)

  -- a file whose root has a number, and one that is empty, is passed
  pub root_passed : {file : File} → slice_get files from ≡ Some file → (0 < file.length → IsSome (number_of numbers file.root))
      → AreByRoot files (from + 1) firsts numbers
  root_passed {file} listed has = record {
    each = by.each;
    numbered = by.numbered;
    before = λ j other lt at some. elim (cases_lt j from) [
      | inl earlier ↦ by.before j other earlier at some
      | inr late ↦ (
          let here : j ≡ from = omega arith in
          let same : file ≡ other = some_is (sym listed ∙ ap (λ n. slice_get files n) (sym here) ∙ at) in
          ap (λ (f : File). is_some (number_of numbers f.root)) (sym same) ∙ has (subst (λ (f : File). 0 < f.length) (sym same) some)
          )
    ];
  }

-- a file whose root has no number is the first of its root
module _ {files : List File} {from : ℕ} {firsts : List ℕ} (old new : Numbers) {file : File} (by : AreByRoot files from firsts old)
    (listed : slice_get files from ≡ Some file) (some : 0 < file.length) (none : number_of old file.root ≡ None)
    (update : Updates (slice_cmp nat_cmp) old new file.root (Some (length (roots_of files firsts)))) where
  still_some : (root : List ℕ) (o : Option ℕ) → number_of old root ≡ o → IsSome o → IsSome (number_of new root)
  still_some root None e has = absurd cc
  still_some root (Some t) e has = ap (λ o. is_some o) (number_kept (roots_of files firsts) old new file.root by.numbered none update root e)

  roots_more : roots_of files (firsts ++ from ∷ []) ≡ roots_of files firsts ++ file.root ∷ []
  roots_more =
      map-append (λ number. (root_and_length_of files number).0) firsts (from ∷ [])
      ∙ ap (λ p. roots_of files firsts ++ p.0 ∷ []) (listed_root files from listed)

  is_first : IsFirstFile files from
  is_first = record {
    file = file;
    listed = listed;
    some = some;
    is_first = λ j other at has same. elim (cases_lt j from) [
      | inl earlier ↦ absurd (
          let there = ap (λ o. is_some o) (sym (ap (λ r. number_of old r) same ∙ none)) ∙ by.before j other earlier at has in
          cc
          )
      | inr late ↦ omega arith
    ];
  }

  pub root_pushed : AreByRoot files (from + 1) (firsts ++ from ∷ []) new
  root_pushed = record {
    each = λ t number at. elim (get_cases firsts t at) [
      | inl before ↦ by.each t number before
      | inr last ↦ subst (λ n. IsFirstFile files n) (sym last.1) is_first
    ];
    numbered = subst (λ (roots : List (List ℕ)). AreNumbered roots new) (sym roots_more) (number_added (roots_of files firsts) old new file.root by.numbered none update);
    before = λ j other lt at has. elim (cases_lt j from) [
      | inl earlier ↦ still_some other.root (number_of old other.root) refl (by.before j other earlier at has)
      | inr late ↦ (
          let here : j ≡ from = omega arith in
          let same : file ≡ other = some_is (sym listed ∙ ap (λ n. slice_get files n) (sym here) ∙ at) in
          ap (λ (f : File). is_some (number_of new f.root)) (sym same) ∙ ap (λ o. is_some o) update.1
          )
    ];
  }

-- so it is where a root had none
pub root_added : {files : List File} {from : ℕ} {firsts : List ℕ} (old new : Numbers) {file : File} {n : ℕ} (more : List ℕ) → AreByRoot files from firsts old
    → slice_get files from ≡ Some file → 0 < file.length → n ≡ length firsts → number_of old file.root ≡ None
    → Updates (slice_cmp nat_cmp) old new file.root (Some n) → more ≡ firsts ++ from ∷ [] → AreByRoot files (from + 1) more new
root_added {files} {from} {firsts} old new {file} more by listed some size none update shape =
    let own = subst (λ n. Updates (slice_cmp nat_cmp) old new file.root (Some n)) (size ∙ sym (length-map firsts (λ number. (root_and_length_of files number).0))) update in
    subst (λ (ns : List ℕ). AreByRoot files (from + 1) ns new) (sym shape) (root_pushed old new by listed some none own)

pub extends_mapped : {X Y : Type 0} (f : X → Y) (old new : List X) → Extends old new → Extends (map f old) (map f new)
extends_mapped f old new grown t y at =
    let x = get_map f old t at in
    get_mapped f new t (grown t x.0 x.1) ∙ ap (λ z. Some z) x.2

-- a slot more, where the trees have grown
pub slot_pushed : {D H : Type 0} (files : List File) {trees more : List (List ℕ × ℕ)} (slots : List (Slot D H)) {slot : Slot D H} {file : File}
    → AreBareSlotsSoFar files trees slots → Extends trees more → slice_get files (length slots) ≡ Some file → IsBareSlot file more slot
    → AreBareSlotsSoFar files more (slots ++ slot ∷ [])
slot_pushed {D} {H} files {trees} {more} slots {slot} {file} so_far grown here bare i f s listed at = elim (get_cases slots i at) [
  | inl before ↦ (
      let own = so_far i f s listed before in
      record { bare = own.bare; has_tree = λ some. grown s.tree (f.root, f.length) (own.has_tree some) }
      )
  | inr last ↦ (
      let same : file ≡ f = some_is (sym here ∙ ap (λ n. slice_get files n) (sym last.0) ∙ listed) in
      subst (λ (s : Slot D H). IsBareSlot f more s) (sym last.1) (subst (λ (f : File). IsBareSlot f more slot) same bare)
      )
]

-- ---- the trees of first files

-- a tree of this root and length stands there
pub tree_named : (trees : List Facts) (t : ℕ) {root : List ℕ} {n : ℕ} → slice_get (map root_and_length trees) t ≡ Some (root, n)
    → (k : Facts) × (slice_get trees t ≡ Some k) × (k.root ≡ root) × (k.file_length ≡ n)
tree_named trees t at =
    let k = get_map root_and_length trees t at in
    (k.0, k.1, ap (λ p. p.0) k.2, ap (λ p. p.1) k.2)

pub names_agree : (files : List File) (ks : List Facts) (ns : List ℕ) → length ks ≡ length ns
    → ((t n : ℕ) (k : Facts) → slice_get ns t ≡ Some n → slice_get ks t ≡ Some k → root_and_length k ≡ root_and_length_of files n)
    → map root_and_length ks ≡ map (root_and_length_of files) ns
names_agree files [] [] size same = refl
names_agree files [] (n ∷ ns) size same = absurd (omega (arith, size))
names_agree files (k ∷ ks) [] size same = absurd (omega (arith, size))
names_agree files (k ∷ ks) (n ∷ ns) size same =
    ap (λ p. p ∷ map root_and_length ks) (same 0 n k refl refl)
    ∙ ap (λ ps. root_and_length_of files n ∷ ps) (names_agree files ks ns (omega (arith, size)) (λ t m l. same (suc t) m l))

-- trees are apart where their roots are
pub trees_apart : (trees : List Facts) (roots : List (List ℕ)) → map (λ k. k.root) trees ≡ roots → AllPairs (λ r s. r ≢ s) roots
    → AllPairs (λ j k. j.root ≢ k.root) trees
trees_apart trees roots are apart =
    from_pairs (λ j k. j.root ≢ k.root) trees
    (pairs_of_map (λ r s. r ≢ s) (λ (k : Facts). k.root) trees (subst (λ rs. Pairs (λ r s. r ≢ s) rs) (sym are) (to_pairs (λ r s. r ≢ s) roots apart)))

-- the first file that is read at i
module _ {files : List File} (entries : List FileEntry) (numbers : List ℕ) (said : map file_of entries ≡ files) (firsts : EachIsFirst files numbers)
    (i : ℕ) (lt : i < length numbers) where
  first : IsFirstFile files (get_or numbers i 0)
  first = firsts i (get_or numbers i 0) (get_at numbers i 0 lt)

  pub first_below : get_or numbers i 0 < length entries
  first_below =
      let below = some_below files (get_or numbers i 0) first.listed in
      omega (arith, below, length-map entries file_of, ap (λ (fs : List File). length fs) said)

  module _ (entry : FileEntry) (read : entry ≡ get_or entries (get_or numbers i 0) entry) where
    pub first_read : slice_get files (get_or numbers i 0) ≡ Some (file_of entry)
    first_read =
        ap (λ (fs : List File). slice_get fs (get_or numbers i 0)) (sym said)
        ∙ get_mapped file_of entries (get_or numbers i 0) (get_read entries (get_or numbers i 0) entry first_below read)

    pub first_some : 0 < entry.length
    first_some = subst (λ (f : File). 0 < f.length) (some_is (sym first.listed ∙ first_read)) first.some

    -- its tree stands after those of the numbers before
    pub tree_pushed : {dig : List ℕ → List ℕ} {torrent : Metainfo} (trees : List Facts) {more : List Facts} {k : Facts} → torrent.files ≡ files
        → length trees ≡ i → AreTreesSoFar dig torrent numbers trees → IsTreeFrom dig torrent (file_of entry) k → more ≡ trees ++ k ∷ []
        → AreTreesSoFar dig torrent numbers more
    tree_pushed {dig} {torrent} trees {more} {k} same long so_far of shape t number l there at =
        elim (get_cases trees t (ap (λ (ks : List Facts). slice_get ks t) (sym shape) ∙ at)) [
          | inl before ↦ so_far t number l there before
          | inr last ↦ (
              let own : number ≡ get_or numbers i 0 = some_is (sym there ∙ ap (λ n. slice_get numbers n) (last.0 ∙ long) ∙ get_at numbers i 0 lt) in
              record {
                file = file_of entry;
                listed = ap (λ (fs : List File). slice_get fs number) same ∙ ap (λ n. slice_get files n) own ∙ first_read;
                says = subst (λ (l : Facts). IsTreeFrom dig torrent (file_of entry) l) (sym last.1) of;
              }
              )
        ]

-- by the names of trees, their roots have the numbers of those of the first files
module _ (files : List File) (firsts : List ℕ) (numbers : Numbers) {names : List (List ℕ × ℕ)} (same : names ≡ roots_and_lengths files firsts) where
  roots_named : map (λ p. p.0) names ≡ roots_of files firsts
  roots_named = ap (map (λ p. p.0)) same ∙ map-map (λ p. p.0) (root_and_length_of files) firsts

  pub numbered_names : AreNumbered (roots_of files firsts) numbers → AreNumbered (map (λ p. p.0) names) numbers
  numbered_names are = subst (λ (roots : List (List ℕ)). AreNumbered roots numbers) (sym roots_named) are

  pub numbered_roots : AreNumbered (map (λ p. p.0) names) numbers → AreNumbered (roots_of files firsts) numbers
  numbered_roots are = subst (λ (roots : List (List ℕ)). AreNumbered roots numbers) roots_named are

module _ {dig : List ℕ → List ℕ} {torrent : Metainfo} {firsts : List ℕ} {trees : List Facts} (are : AreTreesOf dig torrent firsts trees) where
  pub names_of_trees : map root_and_length trees ≡ roots_and_lengths torrent.files firsts
  names_of_trees = names_agree torrent.files trees firsts are.count (λ t n k there at. (
      let of = are.each t n k there at in
      let is = tree_is of.says in
      ap (λ root. (root, k.file_length)) is.0 ∙ ap (λ m. (of.file.root, m)) is.1 ∙ sym (listed_root torrent.files n of.listed)
      ))

  pub roots_of_trees : map (λ k. k.root) trees ≡ roots_of torrent.files firsts
  roots_of_trees =
      sym (map-map (λ p. p.0) root_and_length trees) ∙ ap (map (λ p. p.0)) names_of_trees ∙ map-map (λ p. p.0) (root_and_length_of torrent.files) firsts

  pub torrent_trees : EachIsFirst torrent.files firsts → AllPairs (λ j k. j.root ≢ k.root) trees → AreTorrentTrees dig torrent trees
  torrent_trees each apart = record {
    roots = apart;
    each = λ t k at. (
        let n = get_some firsts t (omega (arith, some_below trees t at, are.count)) in
        let first = each t n.0 n.1 in
        let of = are.each t n.0 k n.1 at in
        let same : of.file ≡ first.file = some_is (sym of.listed ∙ first.listed) in
        record {
          number = n.0;
          file = first.file;
          listed = first.listed;
          some = first.some;
          is_first = first.is_first;
          says = subst (λ (f : File). IsTreeFrom dig torrent f k) same of.says;
        }
        );
  }

-- ---- what follows of all files

pub none_bare : {D H : Type 0} {files : List File} {trees : List (List ℕ × ℕ)} {slots : List (Slot D H)} → AreBareSlots files trees slots
    → All (λ slot. slot.store ≡ None) slots
none_bare {files = files} {slots = slots} are k d lt =
    let file = get_some files k (omega (arith, are.count)) in
    (are.each k file.0 (get_or slots k d) file.1 (get_at slots k d lt)).bare

pub all_short : {piece_length : ℕ} (files : List FileEntry) → All (IsLawfulFile piece_length) (map file_of files)
    → All (λ file. file.length ≤ max_file_length) files
all_short files lawful k d lt =
    let short = (lawful k (file_of d) (omega (arith, length-map files file_of))).short in
    omega (arith, short, ap (λ (file : File). file.length) (get_or-map file_of files k d (file_of d) lt))
