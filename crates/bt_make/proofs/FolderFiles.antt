-- Lemmas on the files of a folder, as they are found and as they are read.
use Rattle.std.proofs.Common.{Vec, String, Global, ◌≤◌, ◌≡◌, ◌++◌, ◌+◌, ℕ, refl, ◌⊎◌, inl, inr, List, [], ◌∷◌, map, length, sym, ◌∙◌, ap, arith, subst, string_bytes}
use Rattle.std.proofs.lemmas.List.{append_assoc, append-nil, length-map, length_push, map-append}
use Rattle.std.proofs.lemmas.List.Elements.{All-nil, All-head, All-tail, All-push, All-same}
use Rattle.std.proofs.lemmas.List.Sums.{sum_by-append}
use Rattle.std.specs.Prelude.{Option, None, Some}
use Rattle.std.specs.List.{All, sum_by}
use Rattle.bt_tree.specs.Limits.{max_file_length}
use Rattle.bt_meta.specs.Faults.{first_of}
use Rattle.bt_meta.specs.Files.{piece_count}
use Rattle.bt_meta.specs.TreeEntries.{with_earlier}
use Rattle.bt_meta.specs.declared.writer.Made.{Made}
use Rattle.bt_meta.specs.declared.writer.MakeError.{MakeError}
use Rattle.bt_meta.proofs.Checks.{first_of-append}
use Rattle.bt_meta.proofs.TreeWalk.{with_earlier-append}
use Rattle.bt_check.specs.Digests.{IsDigestFault}
use Rattle.bt_check.specs.Fault.{device, make_fault, out_of_memory}
use Rattle.bt_make.specs.Limits.{count_refusal}
use Rattle.bt_make.specs.Folder.{file_paths, path_behind, path_of_file}
use Rattle.bt_make.specs.Command.{HasContent, IsMeasuringFault, Paths, elements_of, first_count_refusal, paths_of, refusal_behind, total_piece_count}
use Rattle.bt_make.specs.CommandSteps.{AddsFile, IsFileRefusal, elements_in, file_of_made}
use Rattle.bt_check.specs.declared.fault.Fault.{Fault}
use Rattle.bt_make.proofs.FolderWalk.{Path, file_paths_first, file_paths_none}
use Rattle.bt_make.specs.declared.folder.EntryKind.TheVariants.{File, Folder}
use Rattle.bt_make.specs.declared.folder.FolderEntry.{FolderEntry}
use Rattle.bt_make.specs.declared.command.FolderFile.{FolderFile}

-- ---- files as they are found

-- after the files so far comes the next path
split_more : {A B : Type 0} (f : A → B) (all left rest : List B) (old new : List A) (x : A) → all ≡ map f old ++ left → left ≡ f x ∷ rest
    → new ≡ old ++ x ∷ [] → all ≡ map f new ++ rest
split_more f all left rest old new x each first more =
    each ∙ ap (λ l. map f old ++ l) first ∙ sym (append_assoc (map f old) (f x ∷ []) rest)
    ∙ ap (λ l. l ++ rest) (sym (ap (map f) more ∙ map-append f old (x ∷ [])))

-- before the first entry
pub files_begun : (path : List (String Global)) (left all : List FolderEntry) → path ≡ [] → left ≡ all
    → file_paths (map string_bytes path) left ≡ file_paths [] all
files_begun path left all none same = ap (λ p. file_paths (map string_bytes p) left) none ∙ ap (file_paths []) same

-- a file with a path has as many elements
pub as_many : (file : FolderFile) (path : List (String Global)) → elements_in file ≡ map string_bytes path → length path ≡ length file.path.items
as_many file path same = sym (length-map path string_bytes) ∙ ap length (sym same) ∙ length-map file.path.items string_bytes

-- the next entry is a file, or a folder
paths_from : (before path : Path) (left rest : List FolderEntry) (entry : FolderEntry) → left ≡ entry ∷ rest → path ≡ path_behind before entry
    → file_paths before left ≡ path_of_file entry.kind path ++ file_paths path rest
paths_from before path left rest entry first is = ap (file_paths before) first ∙ file_paths_first before path entry rest is

pub file_next : (before path : Path) (left rest : List FolderEntry) (entry : FolderEntry) (elements : Path) → left ≡ entry ∷ rest
    → path ≡ path_behind before entry → entry.kind ≡ File → elements ≡ path → file_paths before left ≡ elements ∷ file_paths path rest
file_next before path left rest entry elements first is file same =
    paths_from before path left rest entry first is ∙ ap (λ k. path_of_file k path ++ file_paths path rest) file
    ∙ ap (λ p. p ∷ file_paths path rest) (sym same)

pub folder_next : (before path : Path) (left rest : List FolderEntry) (entry : FolderEntry) → left ≡ entry ∷ rest → path ≡ path_behind before entry
    → entry.kind ≡ Folder → file_paths before left ≡ file_paths path rest
folder_next before path left rest entry first is folder =
    paths_from before path left rest entry first is ∙ ap (λ k. path_of_file k path ++ file_paths path rest) folder

-- when none is left
pub split_all : {A B : Type 0} (f : A → B) (all left : List B) (files : List A) → all ≡ map f files ++ left → length left ≡ 0 → map f files ≡ all
split_all f all [] files each none = sym (each ∙ append-nil (map f files))
split_all f all (x ∷ left) files each none = absurd (omega (arith, none))

-- when no entry is left
pub all_files : (all : Paths) (files : List FolderFile) (path : Path) (left : List FolderEntry) → all ≡ map elements_in files ++ file_paths path left
    → length left ≡ 0 → map elements_in files ≡ all
all_files all files path [] each none =
    sym (each ∙ ap (λ l. map elements_in files ++ l) (file_paths_none path) ∙ append-nil (map elements_in files))
all_files all files path (entry ∷ left) each none = absurd (omega (arith, none))

-- what is refused after files of which none is
refusal_at_last : (size : ℕ) (old : List FolderFile) (file : FolderFile) → first_count_refusal size old ≡ None
    → first_count_refusal size (old ++ file ∷ []) ≡ first_of (refusal_behind size old file ∷ [])
refusal_at_last size old file none =
    ap first_of (with_earlier-append (refusal_behind size) [] old (file ∷ []))
    ∙ first_of-append (with_earlier (refusal_behind size) [] old) (with_earlier (refusal_behind size) old (file ∷ [])) none

-- the files so far are the first of those wanted, and are not refused, not too long and counted
pub record AreMeasured (size files_count pieces_count : ℕ) (all left : Paths) (files : List FolderFile) : Type 0 where
  pub each : all ≡ map elements_in files ++ left
  pub faultless : first_count_refusal size files ≡ None
  pub short : All (λ file. file.length ≤ max_file_length) files
  pub count : length files ≡ files_count
  pub pieces : total_piece_count size files ≡ pieces_count

pub measured_none : (size files_count pieces_count : ℕ) (all left : Paths) (files : List FolderFile) → files ≡ [] → files_count ≡ 0
    → pieces_count ≡ 0 → left ≡ all → AreMeasured size files_count pieces_count all left files
measured_none size files_count pieces_count all left files empty no_file no_piece same = rw empty (record {
  each = sym same;
  faultless = refl;
  short = All-nil (λ file. file.length ≤ max_file_length);
  count = sym no_file;
  pieces = sym no_piece;
})

-- a folder is passed over
pub measured_same : (size count pieces : ℕ) (all left rest : Paths) (files : List FolderFile) → left ≡ rest → AreMeasured size count pieces all left files
    → AreMeasured size count pieces all rest files
measured_same size count pieces all left rest files same h = subst (λ l. AreMeasured size count pieces all l files) same h

module _ {size count pieces : ℕ} {all left : Paths} {old : List FolderFile} (h : AreMeasured size count pieces all left old)
    (rest : Paths) (file : FolderFile) (elements : ℕ) (first : left ≡ elements_in file ∷ rest)
    (sized : elements ≡ length file.path.items) where
  told_behind : (told : Option MakeError) → told ≡ count_refusal count pieces size elements file.length
      → first_count_refusal size (old ++ file ∷ []) ≡ first_of (told ∷ [])
  told_behind told is =
      let same : refusal_behind size old file ≡ told =
      ap (λ n. count_refusal n (total_piece_count size old) size (length file.path.items) file.length) h.count
      ∙ ap (λ n. count_refusal count n size (length file.path.items) file.length) h.pieces
      ∙ ap (λ n. count_refusal count pieces size n file.length) (sym sized) ∙ sym is in
      refusal_at_last size old file h.faultless ∙ ap (λ t. first_of (t ∷ [])) same

  pub measured_more : (next_count next_pieces : ℕ) (new : List FolderFile) → new ≡ old ++ file ∷ []
      → None ≡ count_refusal count pieces size elements file.length → file.length ≤ max_file_length → next_count ≡ count + 1
      → next_pieces ≡ pieces + piece_count size file.length → AreMeasured size next_count next_pieces all rest new
  measured_more next_count next_pieces new more passes short one_more its_pieces =
      let S : FolderFile → Type 0 = λ f. f.length ≤ max_file_length in
      let pieces_of : FolderFile → ℕ = λ f. piece_count size f.length in
      let sum_is : sum_by pieces_of (old ++ file ∷ []) ≡ sum_by pieces_of old + sum_by pieces_of (file ∷ []) = sum_by-append pieces_of old (file ∷ []) in
      let last : sum_by pieces_of (file ∷ []) ≡ piece_count size file.length = omega arith in
      record {
        each = split_more elements_in all left rest old new file h.each first more;
        faultless = ap (first_count_refusal size) more ∙ told_behind None passes;
        short = All-same S new (old ++ file ∷ []) more (All-push S old file h.short short);
        count = ap length more ∙ length_push old file ∙ ap (λ n. n + 1) h.count ∙ sym one_more;
        pieces = ap (sum_by pieces_of) more ∙ sum_is ∙ ap (λ n. n + sum_by pieces_of (file ∷ [])) h.pieces
            ∙ ap (λ n. pieces + n) last ∙ sym its_pieces;
      }

  pub measured_refused : (cause : MakeError) → Some cause ≡ count_refusal count pieces size elements file.length
      → IsMeasuringFault all size (make_fault cause)
  measured_refused cause refused = inr (inr (record {
    files = old ++ file ∷ [];
    rest = rest;
    each = split_more elements_in all left rest old (old ++ file ∷ []) file h.each first refl;
    cause = cause;
    refusal = told_behind (Some cause) refused;
    is = refl;
  }))

-- a file was added, or refused
pub measured_added : (size count pieces next_count next_pieces : ℕ) (all left rest : Paths) (path : List (String Global)) (old new : List FolderFile)
    → left ≡ map string_bytes path ∷ rest → AddsFile size count pieces path old new next_count next_pieces → AreMeasured size count pieces all left old
    → AreMeasured size next_count next_pieces all rest new
measured_added size count pieces next_count next_pieces all left rest path old new first adds h =
    measured_more h rest adds.file (length path) (first ∙ ap (λ p. p ∷ rest) (sym adds.named)) (as_many adds.file path adds.named) next_count next_pieces new
    adds.behind adds.passes adds.short adds.count adds.sum

pub measured_fault : (size count pieces : ℕ) (all left rest : Paths) (path : Vec (String Global) Global) (old : List FolderFile) (fault : Fault)
    → left ≡ map string_bytes path.items ∷ rest → AreMeasured size count pieces all left old
    → (fault ≡ device) ⊎ (fault ≡ out_of_memory) ⊎ IsFileRefusal size count pieces path.items fault → IsMeasuringFault all size fault
measured_fault size count pieces all left rest path old fault first h (inl failed) = inl failed
measured_fault size count pieces all left rest path old fault first h (inr (inl memory)) = inr (inl memory)
measured_fault size count pieces all left rest path old fault first h (inr (inr refused)) =
    subst (IsMeasuringFault all size) (sym refused.is)
    (measured_refused h rest (record { path = path; length = refused.bytes }) (length path.items) first refl refused.cause refused.refusal)

-- why a file is refused
pub file_refused : (size count pieces elements bytes : ℕ) (path : List (String Global)) (cause : MakeError) → elements ≡ length path
    → Some cause ≡ count_refusal count pieces size elements bytes → IsFileRefusal size count pieces path (make_fault cause)
file_refused size count pieces elements bytes path cause sized refused =
    record { bytes = bytes; cause = cause; refusal = refused ∙ ap (λ n. count_refusal count pieces size n bytes) sized; is = refl }

-- ---- files as they are read

-- the files so far are the first of those found, and have digests, and those that are left are not too long
pub record HaveContents (layer : ℕ) (all left : List FolderFile) (files : List Made) : Type 0 where
  pub each : all ≡ map file_of_made files ++ left
  pub short : All (λ file. file.length ≤ max_file_length) left
  pub contents : All (HasContent layer) files

pub contents_none : (layer : ℕ) (all left : List FolderFile) (files : List Made) → files ≡ [] → left ≡ all → All (λ file. file.length ≤ max_file_length) all
    → HaveContents layer all left files
contents_none layer all left files empty same short = rw empty (record {
  each = sym same;
  short = All-same (λ file. file.length ≤ max_file_length) left all same short;
  contents = All-nil (HasContent layer);
})

pub contents_more : (layer : ℕ) (all left rest : List FolderFile) (old new : List Made) (found : FolderFile) (file : Made) → left ≡ found ∷ rest
    → new ≡ old ++ file ∷ [] → file.path ≡ found.path → file.length ≡ found.length → HasContent layer file → HaveContents layer all left old
    → HaveContents layer all rest new
contents_more layer all left rest old new found file first more path size is are =
    let S : FolderFile → Type 0 = λ f. f.length ≤ max_file_length in
    let as_found : Vec (String Global) Global → ℕ → FolderFile = λ p n. record { path = p; length = n } in
    let same : found ≡ file_of_made file = sym (ap (λ p. as_found p file.length) path ∙ ap (as_found found.path) size) in
    record {
      each = split_more file_of_made all left rest old new file are.each (first ∙ ap (λ f. f ∷ rest) same) more;
      short = All-tail S found rest (All-same S (found ∷ rest) left (sym first) are.short);
      contents = All-same (HasContent layer) new (old ++ file ∷ []) more (All-push (HasContent layer) old file are.contents is);
    }

-- a file that is left is not too long
pub short_next : (layer : ℕ) (all left rest : List FolderFile) (found : FolderFile) (files : List Made) → left ≡ found ∷ rest
    → HaveContents layer all left files → found.length ≤ max_file_length
short_next layer all left rest found files first are =
    let S : FolderFile → Type 0 = λ f. f.length ≤ max_file_length in
    All-head S found rest (All-same S (found ∷ rest) left (sym first) are.short)

-- a file that is not too long is refused by a device or for memory alone
pub read_fault : (size : ℕ) (fault : Fault) → size ≤ max_file_length → IsDigestFault size fault → (fault ≡ device) ⊎ (fault ≡ out_of_memory)
read_fault size fault short (inl failed) = inl failed
read_fault size fault short (inr (inl memory)) = inr memory
read_fault size fault short (inr (inr long)) = let beyond = long.1 in absurd (omega (arith, short, beyond))

made_paths : (files : List Made) → paths_of files ≡ map elements_in (map file_of_made files)
made_paths [] = refl
made_paths (file ∷ files) = ap (λ l. elements_of file.path ∷ l) (made_paths files)

-- what was made has the paths that were given
pub paths_kept : (paths : Paths) (found : List FolderFile) (files : List Made) → map elements_in found ≡ paths
    → map file_of_made files ≡ found → paths_of files ≡ paths
paths_kept paths found files each same = made_paths files ∙ ap (map elements_in) same ∙ each
