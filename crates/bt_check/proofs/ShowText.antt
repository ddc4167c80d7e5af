-- Lemmas on how names, paths and torrents are printed.
use Rattle.std.proofs.Common.{◌≡◌, ℕ, Bool, true, false, ◌&&◌, List, [], ◌∷◌, ◌++◌, Option, Result, Ok, Err, length, map, refl, sym, ap, ◌∙◌, subst, append-nil, append_assoc}
use Rattle.std.proofs.lemmas.List.{length-map}
use Rattle.std.specs.Prelude.{OnOk, codes, if◌then◌else◌}
use Rattle.std.specs.Io.KnownBytes.{Appends, Keeps}
use Rattle.std.specs.List.{flat_map, join_by}
use Rattle.std.specs.Str.{IsUtf8, is_utf8}
use Rattle.std.proofs.KnownBytes.{Appends-trans, Appends-kept}
use Rattle.std.proofs.Math.Bool.{and-false}
use Rattle.std.proofs.lemmas.Grind.{flat_map-append}
use Rattle.std.proofs.lemmas.List.Folds.{flat_map-map}
use Rattle.std.proofs.lemmas.Str.{IsUtf8-from_is_utf8, is_utf8-from_IsUtf8}
use Rattle.std.specs.Fmt.{decimal}
use Rattle.hex.specs.Hex.{encode_lower}
use Rattle.bt_meta.specs.Files.{File, file_of}
use Rattle.bt_meta.specs.Torrent.{Metainfo, total_pieces}
use Rattle.bt_meta.specs.declared.torrent.FileEntry.{FileEntry}
use Rattle.bt_check.specs.Display.{is_readable, is_plain, hex_text, display_text, line_text}
use Rattle.bt_check.specs.Paths.{path_text}
use Rattle.bt_check.specs.Show.{root_text, head_lines, entry_line, show_text}

-- a fact that holds whatever a call came to
pub on_ok_always : {T E P : Type 0} (r : Result T E) → P → OnOk r P
on_ok_always (Ok x) p = p
on_ok_always (Err e) p = tt

-- ---- names

pub shown_plain : (name : List ℕ) → IsUtf8 name → is_readable name ≡ true → display_text name ≡ name
unfolding display_text
shown_plain name utf8 unmarked =
    let plain : is_plain name ≡ true = ap (λ a. a && is_readable name) (is_utf8-from_IsUtf8 name utf8) ∙ unmarked in
    ap (λ b. if b then name else hex_text name) plain

shown_other : (name : List ℕ) → is_plain name ≡ false → display_text name ≡ hex_text name
unfolding display_text
shown_other name other = ap (λ b. if b then name else hex_text name) other

pub shown_marked : (name : List ℕ) → is_readable name ≡ false → display_text name ≡ hex_text name
shown_marked name marked = shown_other name (ap (λ b. is_utf8 name && b) marked ∙ and-false (is_utf8 name))

no_utf8 : (name : List ℕ) → ¬ IsUtf8 name → (b : Bool) → is_utf8 name ≡ b → b ≡ false
no_utf8 name bytes true e = absurd (bytes (IsUtf8-from_is_utf8 name e))
no_utf8 name bytes false e = refl

pub shown_bytes : (name : List ℕ) → ¬ IsUtf8 name → display_text name ≡ hex_text name
shown_bytes name bytes = shown_other name (ap (λ a. a && is_readable name) (no_utf8 name bytes (is_utf8 name) refl))

-- ---- paths

pub path_joined : {S : Type 0} (text : S → List ℕ) (elements : List S) → join_by text (codes "/") elements ≡ path_text (map text elements)
unfolding path_text
path_joined text [] = refl
path_joined text (first ∷ rest) = ap (λ l. text first ++ l) (sym (flat_map-map (λ element. codes "/" ++ element) text rest))

-- ---- torrents

pub count_is : (entries : List FileEntry) (files : List File) → map file_of entries ≡ files → length entries ≡ length files
count_is entries files are = sym (length-map entries file_of) ∙ ap length are

-- a line before more text
line_before : (front text rest : List ℕ) → front ++ (text ++ (10 ∷ rest)) ≡ line_text (front ++ text) ++ rest
line_before front text rest = sym (append_assoc front text (10 ∷ rest)) ∙ sym (append_assoc (front ++ text) (10 ∷ []) rest)

pub head_printed : (torrent : Metainfo) (name hash : List ℕ) (piece_length pieces files : ℕ) → name ≡ display_text torrent.name → hash ≡ encode_lower torrent.infohash
    → piece_length ≡ torrent.piece_length → pieces ≡ total_pieces torrent → files ≡ length torrent.files
    → codes "name " ++ (name ++ (codes "\ninfohash " ++ (hash ++ (codes "\npiece length " ++ (decimal piece_length ++ (codes "\npieces " ++ (decimal pieces
    ++ (codes "\nfiles " ++ (decimal files ++ 10 ∷ []))))))))) ≡ flat_map line_text (head_lines torrent)
head_printed torrent name hash piece_length pieces files a b c d e =
    let on_files : List ℕ = codes "files " ++ decimal (length torrent.files) in
    let on_pieces : List ℕ = codes "pieces " ++ decimal (total_pieces torrent) in
    let on_length : List ℕ = codes "piece length " ++ decimal torrent.piece_length in
    let on_hash : List ℕ = codes "infohash " ++ encode_lower torrent.infohash in
    let from_files : List ℕ = line_text on_files ++ [] in
    let from_pieces : List ℕ = line_text on_pieces ++ from_files in
    let from_length : List ℕ = line_text on_length ++ from_pieces in
    let from_hash : List ℕ = line_text on_hash ++ from_length in
    rw (a, b, c, d, e) (
    ap (λ l. codes "name " ++ (display_text torrent.name ++ (codes "\ninfohash " ++ (encode_lower torrent.infohash ++ (codes "\npiece length "
    ++ (decimal torrent.piece_length ++ (codes "\npieces " ++ (decimal (total_pieces torrent) ++ 10 ∷ l)))))))) (line_before (codes "files ") (decimal (length torrent.files)) [])
    ∙ ap (λ l. codes "name " ++ (display_text torrent.name ++ (codes "\ninfohash " ++ (encode_lower torrent.infohash ++ (codes "\npiece length "
    ++ (decimal torrent.piece_length ++ 10 ∷ l)))))) (line_before (codes "pieces ") (decimal (total_pieces torrent)) from_files)
    ∙ ap (λ l. codes "name " ++ (display_text torrent.name ++ (codes "\ninfohash " ++ (encode_lower torrent.infohash ++ 10 ∷ l))))
    (line_before (codes "piece length ") (decimal torrent.piece_length) from_pieces)
    ∙ ap (λ l. codes "name " ++ (display_text torrent.name ++ 10 ∷ l)) (line_before (codes "infohash ") (encode_lower torrent.infohash) from_length)
    ∙ line_before (codes "name ") (display_text torrent.name) from_hash)

pub file_printed : (file : File) (root path : List ℕ) → root ≡ root_text file → path ≡ display_text (path_text file.path)
    → decimal file.length ++ (codes " " ++ (root ++ (codes " " ++ (path ++ 10 ∷ [])))) ≡ line_text (entry_line file)
file_printed file root path a b = rw (a, b) (simp append_assoc)

-- the head and the lines of the files so far are written
pub record IsShowing (old new : Option (List ℕ)) (torrent : Metainfo) (files : List FileEntry) : Type 0 where
  pub told : Appends old new (flat_map line_text (head_lines torrent) ++ flat_map (λ f. line_text (entry_line (file_of f))) files)

pub showing_begun : (old new : Option (List ℕ)) (torrent : Metainfo) (head : List ℕ) → head ≡ flat_map line_text (head_lines torrent) → Appends old new head
    → IsShowing old new torrent []
showing_begun old new torrent head is put = record { told = subst (Appends old new) (is ∙ sym (append-nil (flat_map line_text (head_lines torrent)))) put }

pub showing_more : (old mid new : Option (List ℕ)) (torrent : Metainfo) (files next : List FileEntry) (file : FileEntry) (line : List ℕ) → IsShowing old mid torrent files
    → line ≡ line_text (entry_line (file_of file)) → next ≡ files ++ file ∷ [] → Appends mid new line → IsShowing old new torrent next
showing_more old mid new torrent files next file line s is more put =
    let head : List ℕ = flat_map line_text (head_lines torrent) in
    let text : FileEntry → List ℕ = λ f. line_text (entry_line (file_of f)) in
    let one : flat_map text (file ∷ []) ≡ text file = append-nil (text file) in
    let all : (head ++ flat_map text files) ++ line ≡ head ++ flat_map text next =
    append_assoc head (flat_map text files) line
    ∙ ap (λ l. head ++ l) (ap (λ l. flat_map text files ++ l) (is ∙ sym one) ∙ sym (flat_map-append text files (file ∷ [])) ∙ ap (flat_map text) (sym more)) in
    record { told = subst (Appends old new) all (Appends-trans old mid new _ line s.told put) }

pub showing_done : (old mid new : Option (List ℕ)) (torrent : Metainfo) (files : List FileEntry) → map file_of files ≡ torrent.files → IsShowing old mid torrent files
    → Keeps mid new → Appends old new (show_text torrent)
unfolding show_text
showing_done old mid new torrent files are s kept =
    let line : File → List ℕ = λ f. line_text (entry_line f) in
    let lines : flat_map (λ f. line (file_of f)) files ≡ flat_map line_text (map entry_line torrent.files) =
    sym (flat_map-map line file_of files) ∙ ap (flat_map line) are ∙ sym (flat_map-map line_text entry_line torrent.files) in
    let all : flat_map line_text (head_lines torrent) ++ flat_map (λ f. line (file_of f)) files ≡ show_text torrent =
    ap (λ l. flat_map line_text (head_lines torrent) ++ l) lines ∙ sym (flat_map-append line_text (head_lines torrent) (map entry_line torrent.files)) in
    subst (Appends old new) all (Appends-kept old mid new _ s.told kept)
