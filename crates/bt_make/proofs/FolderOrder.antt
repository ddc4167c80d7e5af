-- Lemmas on the order of a walk: the paths of the files that were found, and after them those of the entries that
-- wait, the next one first, ascend.
use Rattle.std.proofs.Common.{String, Global, ◌≡◌, ◌++◌, ◌≤◌, ℕ, refl, subst, List, [], ◌∷◌, map, length, take, string_bytes, sym, ◌∙◌, ap, arith, take_all, take_at, length-take-le}
use Rattle.std.proofs.lemmas.List.{append_assoc, append-nil, length-map, length-take, map-append, reverse-append, reverse-reverse, take-take}
use Rattle.std.proofs.lemmas.List.Elements.{All-nil, All-head, All-tail, All-push, All-same}
use Rattle.std.proofs.lemmas.Cmp.{nat_list_cmp_total}
use Rattle.std.specs.Prelude.{reverse, Option, Some, option_to_list, ⊤}
use Rattle.std.specs.List.{All, AllByRecursion}
use Rattle.std.specs.List.Sorted.{IsStrictlySortedBy}
use Rattle.std.specs.Cmp.Lexicographic.{slice_cmp}
use Rattle.std.specs.Ordering.{nat_cmp, ordering_then, ordering_reverse}
use Rattle.std.specs.declared.cmp.Ordering.{Ordering}
use Rattle.std.specs.declared.cmp.Ordering.TheVariants.{Less, Equal, Greater}
use Rattle.std.specs.String.{string_cmp}
use Rattle.bt_make.specs.Folder.{Ascend, file_paths, path_behind, path_of_file}
use Rattle.bt_make.specs.FolderSteps.{GoesOn, IsBegun, PutsEntries}
use Rattle.bt_make.specs.declared.folder.EntryKind.{EntryKind}
use Rattle.bt_make.specs.declared.folder.Walk.{Walk}
use Rattle.bt_make.specs.declared.folder.EntryKind.TheVariants.{File, Folder}
use Rattle.bt_make.specs.declared.folder.FolderEntry.{FolderEntry}
use Rattle.bt_make.proofs.FolderWalk.{Path, file_paths_more, file_paths_none, last_path, last_path_more, last_path_none, name_of}

-- the path of a name in a folder
abbrev pub inside_of : Path → String Global → Path
inside_of folder name = folder ++ string_bytes name ∷ []

-- ---- one path before another

-- at the first element in which they differ the first path has the lesser one
pub record Precedes (p q : Path) : Type 0 where
  pub common : Path
  pub x : List ℕ
  pub y : List ℕ
  pub left : Path
  pub right : Path
  pub p_is : p ≡ common ++ x ∷ left
  pub q_is : q ≡ common ++ y ∷ right
  pub less : slice_cmp nat_cmp x y ≡ Less

self_equal : (o : Ordering) → o ≡ ordering_reverse o → o ≡ Equal
self_equal Less e = cc
self_equal Equal e = refl
self_equal Greater e = cc

less_behind : (common : Path) (x y : List ℕ) (left right : Path) → slice_cmp nat_cmp x y ≡ Less
    → slice_cmp (slice_cmp nat_cmp) (common ++ x ∷ left) (common ++ y ∷ right) ≡ Less
less_behind [] x y left right less = ap (λ o. ordering_then o (slice_cmp (slice_cmp nat_cmp) left right)) less
less_behind (c ∷ cs) x y left right less =
    let same : slice_cmp nat_cmp c c ≡ Equal = self_equal (slice_cmp nat_cmp c c) (nat_list_cmp_total.antisymm c c) in
    ap (λ o. ordering_then o (slice_cmp (slice_cmp nat_cmp) (cs ++ x ∷ left) (cs ++ y ∷ right))) same ∙ less_behind cs x y left right less

precedes_less : (p q : Path) → Precedes p q → slice_cmp (slice_cmp nat_cmp) p q ≡ Less
precedes_less p q h =
    subst (λ p. slice_cmp (slice_cmp nat_cmp) p q ≡ Less) (sym h.p_is)
    (subst (λ q. slice_cmp (slice_cmp nat_cmp) (h.common ++ h.x ∷ h.left) q ≡ Less) (sym h.q_is) (less_behind h.common h.x h.y h.left h.right h.less))

-- and so have the paths below them
below_first : (p q more : Path) → Precedes p q → Precedes (p ++ more) q
below_first p q more h = record {
  common = h.common;
  x = h.x;
  y = h.y;
  left = h.left ++ more;
  right = h.right;
  p_is = ap (λ l. l ++ more) h.p_is ∙ append_assoc h.common (h.x ∷ h.left) more;
  q_is = h.q_is;
  less = h.less;
}

below_second : (p q more : Path) → Precedes p q → Precedes p (q ++ more)
below_second p q more h = record {
  common = h.common;
  x = h.x;
  y = h.y;
  left = h.left;
  right = h.right ++ more;
  p_is = h.p_is;
  q_is = ap (λ l. l ++ more) h.q_is ∙ append_assoc h.common (h.y ∷ h.right) more;
  less = h.less;
}

in_folder : (folder : Path) (a b : String Global) → string_cmp a b ≡ Less → Precedes (inside_of folder a) (inside_of folder b)
in_folder folder a b less =
    record { common = folder; x = string_bytes a; y = string_bytes b; left = []; right = []; p_is = refl; q_is = refl; less = less }

-- ---- paths in order

abbrev pub AreInOrder : List Path → Type 0
AreInOrder [] = ⊤
AreInOrder (p ∷ ps) = AllByRecursion (Precedes p) ps × AreInOrder ps

all_joined : (p : Path) (xs ys : List Path) → AllByRecursion (Precedes p) xs → AllByRecursion (Precedes p) ys → AllByRecursion (Precedes p) (xs ++ ys)
all_joined p [] ys a b = b
all_joined p (x ∷ xs) ys a b = (a.0, all_joined p xs ys a.1 b)

all_front : (p : Path) (xs ys : List Path) → AllByRecursion (Precedes p) (xs ++ ys) → AllByRecursion (Precedes p) xs
all_front p [] ys a = tt
all_front p (x ∷ xs) ys a = (a.0, all_front p xs ys a.1)

all_back : (p : Path) (xs ys : List Path) → AllByRecursion (Precedes p) (xs ++ ys) → AllByRecursion (Precedes p) ys
all_back p [] ys a = a
all_back p (x ∷ xs) ys a = all_back p xs ys a.1

all_inside : (p folder : Path) (names : List (String Global)) → Precedes p folder → AllByRecursion (Precedes p) (map (inside_of folder) names)
all_inside p folder [] h = tt
all_inside p folder (name ∷ names) h = (below_second p folder (string_bytes name ∷ []) h, all_inside p folder names h)

all_below : (p more : Path) (ps : List Path) → AllByRecursion (Precedes p) ps → AllByRecursion (Precedes (p ++ more)) ps
all_below p more [] a = tt
all_below p more (q ∷ qs) a = (below_first p q more a.0, all_below p more qs a.1)

names_behind : (folder : Path) (name : String Global) (names : List (String Global)) → AllByRecursion (λ y. string_cmp name y ≡ Less) names
    → AllByRecursion (Precedes (inside_of folder name)) (map (inside_of folder) names)
names_behind folder name [] a = tt
names_behind folder name (other ∷ names) a = (in_folder folder name other a.0, names_behind folder name names a.1)

-- the entries of a folder take its place
entries_first : (folder : Path) (names : List (String Global)) (rest : List Path) → IsStrictlySortedBy string_cmp names
    → AllByRecursion (Precedes folder) rest → AreInOrder rest → AreInOrder (map (inside_of folder) names ++ rest)
unfolding IsStrictlySortedBy
entries_first folder [] rest sorted a o = o
entries_first folder (name ∷ names) rest sorted a o = (
  all_joined (inside_of folder name) (map (inside_of folder) names) rest
      (names_behind folder name names sorted.0) (all_below folder (string_bytes name ∷ []) rest a),
  entries_first folder names rest sorted.1 a o,
)

entries_between : (front : List Path) (folder : Path) (names : List (String Global)) (rest : List Path) → IsStrictlySortedBy string_cmp names
    → AreInOrder (front ++ folder ∷ rest) → AreInOrder (front ++ (map (inside_of folder) names ++ rest))
entries_between [] folder names rest sorted o = entries_first folder names rest sorted o.0 o.1
entries_between (p ∷ ps) folder names rest sorted o =
    let behind = all_back p ps (folder ∷ rest) o.0 in (
      all_joined p ps (map (inside_of folder) names ++ rest) (all_front p ps (folder ∷ rest) o.0)
          (all_joined p (map (inside_of folder) names) rest (all_inside p folder names behind.0) behind.1),
      entries_between ps folder names rest sorted o.1,
    )

front_in_order : (front rest : List Path) → AreInOrder (front ++ rest) → AreInOrder front
front_in_order [] rest o = tt
front_in_order (p ∷ ps) rest o = (all_front p ps rest o.0, front_in_order ps rest o.1)

all_less : (p : Path) (ps : List Path) → AllByRecursion (Precedes p) ps → AllByRecursion (λ q. slice_cmp (slice_cmp nat_cmp) p q ≡ Less) ps
all_less p [] a = tt
all_less p (q ∷ qs) a = (precedes_less p q a.0, all_less p qs a.1)

ascend : (ps : List Path) → AreInOrder ps → Ascend ps
unfolding IsStrictlySortedBy
ascend [] o = tt
ascend (p ∷ ps) o = (all_less p ps o.0, ascend ps o.1)

-- ---- the walk

-- Entries that wait, the next one first, fit the path of the last entry: each lies in a folder of the path that the one
-- before it leaves.
abbrev pub IsStack : Path → List FolderEntry → Type 0
IsStack path [] = ⊤
IsStack path (entry ∷ entries) = (entry.depth ≤ length path) × IsStack (take entry.depth path) entries

abbrev pub stack_paths : Path → List FolderEntry → List Path
stack_paths path [] = []
stack_paths path (entry ∷ entries) = path_behind path entry ∷ stack_paths (take entry.depth path) entries

-- they fit a longer path too
take_within : (path : Path) (d n : ℕ) → n ≤ length (take d path) → take n (take d path) ≡ take n path
take_within path d n within = take-take n d path (omega (arith, within, length-take d path))

stack_deeper : (path : Path) (d : ℕ) (entries : List FolderEntry) → IsStack (take d path) entries → IsStack path entries
stack_deeper path d [] stack = tt
stack_deeper path d (entry ∷ entries) stack = (
  omega (arith, stack.0, length-take d path),
  subst (λ p. IsStack p entries) (take_within path d entry.depth stack.0) stack.1,
)

paths_deeper : (path : Path) (d : ℕ) (entries : List FolderEntry) → IsStack (take d path) entries
    → stack_paths path entries ≡ stack_paths (take d path) entries
paths_deeper path d [] stack = refl
paths_deeper path d (entry ∷ entries) stack =
    ap (λ p. (p ++ string_bytes entry.name ∷ []) ∷ stack_paths p entries) (sym (take_within path d entry.depth stack.0))

-- the path of an entry, cut back to its folder's
folder_left : (path : Path) (entry : FolderEntry) → entry.depth ≤ length path → take entry.depth (path_behind path entry) ≡ take entry.depth path
folder_left path entry within =
    take_at (take entry.depth path) (string_bytes entry.name ∷ []) entry.depth (length-take-le entry.depth path within)

-- the entries of a folder, before those that waited
stack_put : (folder : Path) (entries rest : List FolderEntry) → All (λ entry. entry.depth ≡ length folder) entries → IsStack folder rest
    → IsStack folder (entries ++ rest)
stack_put folder [] rest deep stack = stack
stack_put folder (entry ∷ entries) rest deep stack =
    let D : FolderEntry → Type 0 = λ entry. entry.depth ≡ length folder in
    let here = All-head D entry entries deep in
    let whole : take entry.depth folder ≡ folder = take_all entry.depth folder (omega (arith, here)) in (
      omega (arith, here),
      subst (λ p. IsStack p (entries ++ rest)) (sym whole) (stack_put folder entries rest (All-tail D entry entries deep) stack),
    )

paths_put : (folder : Path) (entries rest : List FolderEntry) → All (λ entry. entry.depth ≡ length folder) entries
    → stack_paths folder (entries ++ rest) ≡ map (inside_of folder) (map name_of entries) ++ stack_paths folder rest
paths_put folder [] rest deep = refl
paths_put folder (entry ∷ entries) rest deep =
    let D : FolderEntry → Type 0 = λ entry. entry.depth ≡ length folder in
    let here = All-head D entry entries deep in
    let whole : take entry.depth folder ≡ folder = take_all entry.depth folder (omega (arith, here)) in
    ap (λ p. (p ++ string_bytes entry.name ∷ []) ∷ stack_paths p (entries ++ rest)) whole
    ∙ ap (λ l. inside_of folder entry.name ∷ l) (paths_put folder entries rest (All-tail D entry entries deep))

-- The entries that were found and those that wait, the last one first, with the path of the last one that was found.
pub record IsWalk (found waiting : List FolderEntry) (path : Path) : Type 0 where
  pub last : path ≡ last_path [] found
  pub stack : IsStack path (reverse waiting)
  pub order : AreInOrder (file_paths [] found ++ stack_paths path (reverse waiting))

map_reverse : {A B : Type 0} (f : A → B) (xs : List A) → map f (reverse xs) ≡ reverse (map f xs)
map_reverse f [] = refl
map_reverse f (x ∷ xs) =
    ap (map f) (reverse-append (x ∷ []) xs) ∙ map-append f (reverse xs) (x ∷ []) ∙ ap (λ l. l ++ f x ∷ []) (map_reverse f xs)
    ∙ sym (reverse-append (f x ∷ []) (map f xs))

-- the entries that were put, in the order in which they are taken
put_names : (depth : ℕ) (old new : List FolderEntry) (put : PutsEntries depth old new) → map name_of (reverse put.entries) ≡ put.names
put_names depth old new put = map_reverse name_of put.entries ∙ ap reverse put.named ∙ reverse-reverse put.names

put_reversed : (depth : ℕ) (old new : List FolderEntry) (put : PutsEntries depth old new) → reverse new ≡ reverse put.entries ++ reverse old
put_reversed depth old new put = ap reverse put.behind ∙ reverse-append old put.entries

all_reversed : {A : Type 0} (P : A → Type 0) (xs : List A) → All P xs → All P (reverse xs)
all_reversed P [] all = All-nil P
all_reversed P (x ∷ xs) all =
    All-same P (reverse (x ∷ xs)) (reverse xs ++ x ∷ []) (reverse-append (x ∷ []) xs)
    (All-push P (reverse xs) x (all_reversed P xs (All-tail P x xs all)) (All-head P x xs all))

pub ordered_begun : (found : List FolderEntry) (path : Path) (depth : ℕ) (old new : List FolderEntry) → found ≡ [] → path ≡ [] → depth ≡ 0 → old ≡ []
    → PutsEntries depth old new → IsWalk found new path
ordered_begun found path depth old new none top flat empty put =
    let D : FolderEntry → Type 0 = λ entry. entry.depth ≡ 0 in
    let deep : All D (reverse put.entries) = all_reversed D put.entries (subst (λ n. All (λ entry. entry.depth ≡ n) put.entries) flat put.inside) in
    let bare : reverse new ≡ reverse put.entries = put_reversed depth old new put ∙ ap (λ l. reverse put.entries ++ reverse l) empty ∙ append-nil (reverse put.entries) in
    let same : reverse put.entries ++ [] ≡ reverse new = append-nil (reverse put.entries) ∙ sym bare in
    let paths : stack_paths [] (reverse put.entries ++ []) ≡ map (inside_of []) put.names ++ [] =
    paths_put [] (reverse put.entries) [] deep ∙ ap (λ l. map (inside_of []) l ++ []) (put_names depth old new put) in
    rw (none, top) (record {
      last = sym (last_path_none []);
      stack = subst (IsStack []) same (stack_put [] (reverse put.entries) [] deep tt);
      order = subst (λ l. AreInOrder (l ++ stack_paths [] (reverse new))) (sym (file_paths_none []))
          (subst (λ l. AreInOrder (stack_paths [] l)) same
          (subst AreInOrder (sym paths) (entries_first [] put.names [] put.ascending tt tt)));
    })

-- the next entry, and what waits after it
pub record IsNext (found more left : List FolderEntry) (path next : Path) (entry : FolderEntry) : Type 0 where
  pub last : next ≡ last_path [] more
  pub stack : IsStack next (reverse left)
  pub order : AreInOrder (file_paths [] found ++ (next ∷ stack_paths next (reverse left)))
  pub paths : file_paths [] more ≡ file_paths [] found ++ path_of_file entry.kind next

pub ordered_next : (found more old left : List FolderEntry) (path next : Path) (r : Option FolderEntry) (entry : FolderEntry)
    → old ≡ left ++ option_to_list r → r ≡ Some entry → next ≡ path_behind path entry → more ≡ found ++ entry ∷ [] → IsWalk found old path
    → IsNext found more left path next entry
ordered_next found more old left path next r entry items some is pushed walk =
    let top : reverse old ≡ entry ∷ reverse left =
    ap reverse (items ∙ ap (λ r. left ++ option_to_list r) some) ∙ reverse-append left (entry ∷ []) in
    let stack : IsStack path (entry ∷ reverse left) = subst (IsStack path) top walk.stack in
    let order : AreInOrder (file_paths [] found ++ (path_behind path entry ∷ stack_paths (take entry.depth path) (reverse left))) =
    subst (λ l. AreInOrder (file_paths [] found ++ stack_paths path l)) top walk.order in
    let own : Path = path_behind path entry in
    let cut : take entry.depth own ≡ take entry.depth path = folder_left path entry stack.0 in
    let below : IsStack (take entry.depth own) (reverse left) = subst (λ p. IsStack p (reverse left)) (sym cut) stack.1 in
    let same : stack_paths own (reverse left) ≡ stack_paths (take entry.depth path) (reverse left) =
    paths_deeper own entry.depth (reverse left) below ∙ ap (λ p. stack_paths p (reverse left)) cut in
    let behind : path_behind path entry ≡ path_behind (last_path [] found) entry = ap (λ p. path_behind p entry) walk.last in
    rw is (record {
      last = behind ∙ sym (ap (last_path []) pushed ∙ last_path_more [] found entry);
      stack = stack_deeper own entry.depth (reverse left) below;
      order = subst (λ l. AreInOrder (file_paths [] found ++ (own ∷ l))) (sym same) order;
      paths = ap (file_paths []) pushed ∙ file_paths_more [] found entry
          ∙ ap (λ p. file_paths [] found ++ path_of_file entry.kind p) (sym behind);
    })

pub ordered_file : (found more left : List FolderEntry) (path next : Path) (entry : FolderEntry) → entry.kind ≡ File
    → IsNext found more left path next entry → IsWalk more left next
ordered_file found more left path next entry file at = record {
  last = at.last;
  stack = at.stack;
  order = subst AreInOrder
      (sym (append_assoc (file_paths [] found) (next ∷ []) (stack_paths next (reverse left)))
      ∙ ap (λ l. l ++ stack_paths next (reverse left)) (sym (at.paths ∙ ap (λ k. file_paths [] found ++ path_of_file k next) file)))
      at.order;
}

pub ordered_folder : (found more left new : List FolderEntry) (path next : Path) (depth : ℕ) (entry : FolderEntry) → entry.kind ≡ Folder → depth ≡ length next
    → PutsEntries depth left new → IsNext found more left path next entry → IsWalk more new next
ordered_folder found more left new path next depth entry folder deep put at =
    let D : FolderEntry → Type 0 = λ entry. entry.depth ≡ length next in
    let inside : All D (reverse put.entries) = all_reversed D put.entries (subst (λ n. All (λ entry. entry.depth ≡ n) put.entries) deep put.inside) in
    let same : reverse put.entries ++ reverse left ≡ reverse new = sym (put_reversed depth left new put) in
    let paths : stack_paths next (reverse new) ≡ map (inside_of next) put.names ++ stack_paths next (reverse left) =
    ap (stack_paths next) (sym same) ∙ paths_put next (reverse put.entries) (reverse left) inside
    ∙ ap (λ l. map (inside_of next) l ++ stack_paths next (reverse left)) (put_names depth left new put) in
    let files : file_paths [] more ≡ file_paths [] found =
    at.paths ∙ ap (λ k. file_paths [] found ++ path_of_file k next) folder ∙ append-nil (file_paths [] found) in
    record {
      last = at.last;
      stack = subst (IsStack next) same (stack_put next (reverse put.entries) (reverse left) inside at.stack);
      order = subst (λ l. AreInOrder (l ++ stack_paths next (reverse new))) (sym files)
          (subst (λ l. AreInOrder (file_paths [] found ++ l)) (sym paths)
          (entries_between (file_paths [] found) next put.names (stack_paths next (reverse left)) put.ascending at.order));
    }

pub ordered_files : (found waiting : List FolderEntry) (path : Path) → IsWalk found waiting path → Ascend (file_paths [] found)
ordered_files found waiting path walk =
    ascend (file_paths [] found) (front_in_order (file_paths [] found) (stack_paths path (reverse waiting)) walk.order)

-- ---- the code's walk

abbrev pub path_of_walk : Walk → Path
path_of_walk walk = map string_bytes walk.path.items

pub walk_begun : (walk : Walk) → IsBegun walk → IsWalk walk.entries.items walk.waiting.items (path_of_walk walk)
walk_begun walk is =
    ordered_begun walk.entries.items (path_of_walk walk) 0 [] walk.waiting.items is.none (ap (map string_bytes) is.top) refl refl is.put

walk_to : (old new : Walk) (kind : EntryKind) (on : GoesOn old new) → on.entry.kind ≡ kind
    → IsNext old.entries.items new.entries.items on.others (path_of_walk old) (path_of_walk new) on.entry
    → IsWalk new.entries.items new.waiting.items (path_of_walk new)
walk_to old new File on is at =
    subst (λ l. IsWalk new.entries.items l (path_of_walk new)) (sym (on.file is))
    (ordered_file old.entries.items new.entries.items on.others (path_of_walk old) (path_of_walk new) on.entry is at)
walk_to old new Folder on is at =
    ordered_folder old.entries.items new.entries.items on.others new.waiting.items (path_of_walk old) (path_of_walk new) (length new.path.items) on.entry is
    (sym (length-map new.path.items string_bytes)) (on.folder is) at

pub walk_on : (old new : Walk) → GoesOn old new → IsWalk old.entries.items old.waiting.items (path_of_walk old)
    → IsWalk new.entries.items new.waiting.items (path_of_walk new)
walk_on old new on walk =
    walk_to old new on.entry.kind on refl
    (ordered_next old.entries.items new.entries.items old.waiting.items on.others (path_of_walk old) (path_of_walk new) (Some on.entry) on.entry
    on.taken refl on.path on.found walk)

-- at the end
pub walk_ended : (found entries waiting : List FolderEntry) (path : Path) → found ≡ entries → IsWalk entries waiting path → Ascend (file_paths [] found)
walk_ended found entries waiting path same walk =
    subst (λ l. Ascend (file_paths [] l)) (sym same) (ordered_files entries waiting path walk)

-- an entry was taken from those that waited
pub went_on : (old new : Walk) (left : List FolderEntry) (r : Option FolderEntry) (entry : FolderEntry) → old.waiting.items ≡ left ++ option_to_list r
    → r ≡ Some entry → new.entries.items ≡ old.entries.items ++ entry ∷ []
    → map string_bytes new.path.items ≡ path_behind (map string_bytes old.path.items) entry → (entry.kind ≡ File → new.waiting.items ≡ left)
    → (entry.kind ≡ Folder → PutsEntries (length new.path.items) left new.waiting.items) → GoesOn old new
went_on old new left r entry items some found path file folder = record {
  entry = entry;
  others = left;
  taken = items ∙ ap (λ o. left ++ option_to_list o) some;
  found = found;
  path = path;
  file = file;
  folder = folder;
}
