-- Lemmas on the entries of a folder: how they are put, and what paths they have.
use Rattle.std.proofs.Common.{String, Global, ◌≡◌, ◌++◌, ℕ, refl, List, [], ◌∷◌, map, string_bytes, length, take, sym, ◌∙◌, ap, arith}
use Rattle.std.proofs.lemmas.List.{append_assoc, append-nil, length_push, map-append, reverse-append, take-map}
use Rattle.std.proofs.lemmas.List.Elements.{All-nil, All-cons, All-push, All-append}
use Rattle.std.specs.Prelude.{reverse}
use Rattle.std.specs.List.{All}
use Rattle.bt_make.specs.Folder.{HasElement, file_paths, path_behind, path_of_file}
use Rattle.bt_make.specs.declared.folder.EntryKind.{EntryKind}
use Rattle.bt_make.specs.declared.folder.EntryKind.TheVariants.{File, Folder}
use Rattle.bt_make.specs.declared.folder.FolderEntry.{FolderEntry}

abbrev pub Path : Type 0
Path = List (List ℕ)

abbrev pub name_of : FolderEntry → String Global
name_of entry = entry.name

-- ---- entries that are put

-- of all names, the greatest have their entries after those that were there, and the others are left
pub record ArePut (depth : ℕ) (all left : List (String Global)) (old new : List FolderEntry) : Type 0 where
  pub names : List (String Global)
  pub split : all ≡ left ++ names
  pub entries : List FolderEntry
  pub behind : new ≡ old ++ entries
  pub named : map name_of entries ≡ reverse names
  pub inside : All (λ entry. entry.depth ≡ depth) entries

pub puts_none : (depth : ℕ) (all : List (String Global)) (old : List FolderEntry) → ArePut depth all all old old
puts_none depth all old = record {
  names = [];
  split = sym (append-nil all);
  entries = [];
  behind = sym (append-nil old);
  named = refl;
  inside = All-nil (λ entry. entry.depth ≡ depth);
}

pub puts_more : (depth : ℕ) (all left rest : List (String Global)) (name : String Global) (kind : EntryKind) (old mid new : List FolderEntry)
    → ArePut depth all left old mid → left ≡ rest ++ name ∷ [] → new ≡ mid ++ (record { name = name; depth = depth; kind = kind }) ∷ []
    → ArePut depth all rest old new
puts_more depth all left rest name kind old mid new put last more =
    let entry : FolderEntry = record { name = name; depth = depth; kind = kind } in
    record {
      names = name ∷ put.names;
      split = put.split ∙ ap (λ l. l ++ put.names) last ∙ append_assoc rest (name ∷ []) put.names;
      entries = put.entries ++ entry ∷ [];
      behind = more ∙ ap (λ l. l ++ entry ∷ []) put.behind ∙ append_assoc old put.entries (entry ∷ []);
      named = map-append name_of put.entries (entry ∷ []) ∙ ap (λ l. l ++ name ∷ []) put.named
          ∙ sym (reverse-append (name ∷ []) put.names);
      inside = All-push (λ entry. entry.depth ≡ depth) put.entries entry put.inside refl;
    }

-- the greatest of a map's keys
pub last_key : {X : Type 0} (old new : List (String Global × X)) (entry : String Global × X) (name : String Global) → old ≡ new ++ entry ∷ []
    → name ≡ entry.0 → map (λ e. e.0) old ≡ map (λ e. e.0) new ++ name ∷ []
last_key old new entry name removal is =
    ap (map (λ e. e.0)) removal ∙ map-append (λ e. e.0) new (entry ∷ []) ∙ ap (λ n. map (λ e. e.0) new ++ n ∷ []) (sym is)

-- ---- paths

-- the path is cut back and extended by a name
pub followed : (old cut new : List (String Global)) (copy : String Global) (entry : FolderEntry) → cut ≡ take entry.depth old
    → new ≡ cut ++ copy ∷ [] → string_bytes copy ≡ string_bytes entry.name → map string_bytes new ≡ path_behind (map string_bytes old) entry
followed old cut new copy entry back more same =
    ap (map string_bytes) (more ∙ ap (λ l. l ++ copy ∷ []) back) ∙ map-append string_bytes (take entry.depth old) (copy ∷ [])
    ∙ ap (λ l. l ++ string_bytes copy ∷ []) (sym (take-map string_bytes entry.depth old))
    ∙ ap (λ b. take entry.depth (map string_bytes old) ++ b ∷ []) same

-- the path of the last of some entries
unfoldable pub last_path : Path → List FolderEntry → Path
last_path before [] = before
last_path before (entry ∷ entries) = last_path (path_behind before entry) entries

pub last_path_none : (before : Path) → last_path before [] ≡ before
unfolding last_path
last_path_none before = refl

pub last_path_more : (before : Path) (entries : List FolderEntry) (entry : FolderEntry)
    → last_path before (entries ++ entry ∷ []) ≡ path_behind (last_path before entries) entry
unfolding last_path
last_path_more before [] entry = refl
last_path_more before (first ∷ entries) entry = last_path_more (path_behind before first) entries entry

pub file_paths_none : (before : Path) → file_paths before [] ≡ []
unfolding file_paths
file_paths_none before = refl

pub file_paths_more : (before : Path) (entries : List FolderEntry) (entry : FolderEntry)
    → file_paths before (entries ++ entry ∷ [])
    ≡ file_paths before entries ++ path_of_file entry.kind (path_behind (last_path before entries) entry)
unfolding file_paths last_path
file_paths_more before [] entry = append-nil (path_of_file entry.kind (path_behind before entry))
file_paths_more before (first ∷ entries) entry =
    ap (λ l. path_of_file first.kind (path_behind before first) ++ l) (file_paths_more (path_behind before first) entries entry)
    ∙ sym (append_assoc (path_of_file first.kind (path_behind before first)) (file_paths (path_behind before first) entries)
    (path_of_file entry.kind (path_behind (last_path (path_behind before first) entries) entry)))

-- what comes first
pub file_paths_first : (before path : Path) (entry : FolderEntry) (entries : List FolderEntry) → path ≡ path_behind before entry
    → file_paths before (entry ∷ entries) ≡ path_of_file entry.kind path ++ file_paths path entries
unfolding file_paths
file_paths_first before path entry entries is = ap (λ p. path_of_file entry.kind p ++ file_paths p entries) (sym is)

-- every path of a file has its name
has_name : (before : Path) (entry : FolderEntry) → HasElement (path_behind before entry)
has_name before entry none =
    omega (arith, length_push (take entry.depth before) (string_bytes entry.name), ap length none)

file_named : (kind : EntryKind) (path : Path) → HasElement path → All HasElement (path_of_file kind path)
file_named File path has = All-cons HasElement path [] has (All-nil HasElement)
file_named Folder path has = All-nil HasElement

pub files_named : (before : Path) (entries : List FolderEntry) → All HasElement (file_paths before entries)
unfolding file_paths
files_named before [] = All-nil HasElement
files_named before (entry ∷ entries) =
    All-append HasElement (path_of_file entry.kind (path_behind before entry)) (file_paths (path_behind before entry) entries)
    (file_named entry.kind (path_behind before entry) (has_name before entry)) (files_named (path_behind before entry) entries)
