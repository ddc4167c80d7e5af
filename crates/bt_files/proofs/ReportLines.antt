-- Lemmas on the lines of a report, file by file.
use Rattle.std.proofs.Common.{◌≡◌, ℕ, ◌+◌, ◌<◌, ◌≤◌, List, [], ◌∷◌, ◌++◌, length, get_or, map, take, Option, Some, None, refl, sym, ap, subst, ◌∙◌, append-nil, arith}
use Rattle.std.specs.List.{flat_map, zip}
use Rattle.std.specs.Prelude.{slice_get, option_map}
use Rattle.std.specs.Io.KnownBytes.{Appends}
use Rattle.std.proofs.KnownBytes.{Appends-trans}
use Rattle.std.proofs.lemmas.Grind.{flat_map-append}
use Rattle.std.proofs.lemmas.List.{length-map, take_all, take_more}
use Rattle.std.proofs.lemmas.Option.{get_or_from_slice_get, slice_get-map, slice_get_within}
use Rattle.std.proofs.lemmas.Slice.Zip.{get_or-zip, length-zip}
use Rattle.bt_meta.specs.Files.{File, file_of}
use Rattle.bt_meta.specs.declared.torrent.FileEntry.{FileEntry}
use Rattle.bt_machine.specs.State.{FileState, EngineState}
use Rattle.bt_check.specs.Display.{display_text}
use Rattle.bt_check.specs.Paths.{path_text}
use Rattle.bt_check.specs.Report.{finding_line}
use Rattle.bt_check.specs.declared.data_file.Finding.{Finding}
use Rattle.bt_files.specs.Report.{finding_of, state_line, state_lines}

-- one pair more of two lists
pub take_zip_more : {A B : Type 0} (xs : List A) (ys : List B) (i : ℕ) (x : A) (y : B) → slice_get xs i ≡ Some x → slice_get ys i ≡ Some y
    → take (i + 1) (zip xs ys) ≡ take i (zip xs ys) ++ (x, y) ∷ []
take_zip_more xs ys i x y here there =
    let below : i < length xs = slice_get_within xs i x here in
    let within : i < length ys = slice_get_within ys i y there in
    let inside : i < length (zip xs ys) = (let l = length-zip xs ys in omega arith) in
    take_more (zip xs ys) i (x, y) inside
    ∙ ap (λ p. take i (zip xs ys) ++ p ∷ [])
    (get_or-zip xs ys i (x, y) below within
    ∙ ap (λ a. (a, get_or ys i y)) (get_or_from_slice_get xs i x x here) ∙ ap (λ b. (x, b)) (get_or_from_slice_get ys i y y there))

-- the lines of the first `count` files
abbrev pub lines_to : EngineState → ℕ → List ℕ
lines_to s count = flat_map (λ p. state_line p.0 p.1) (take count (zip s.files s.torrent.files))

record IsFoundIn (found : Option FileState) (finding : Finding) : Type 0 where
  pub state : FileState
  pub here : found ≡ Some state
  pub same : finding_of state ≡ finding

found_in : (found : Option FileState) (finding : Finding) → option_map finding_of found ≡ Some finding → IsFoundIn found finding
found_in None finding e = cc
found_in (Some f) finding e = record { state = f; here = refl; same = cc }

-- a line more was written
pub line_more : (s : EngineState) (entries : List FileEntry) (i : ℕ) (entry : FileEntry) (finding : Finding) (old mid new : Option (List ℕ))
    → map file_of entries ≡ s.torrent.files → slice_get entries i ≡ Some entry
    → option_map finding_of (slice_get s.files i) ≡ Some finding → Appends old mid (lines_to s i)
    → Appends mid new (finding_line finding (display_text (path_text (file_of entry).path))) → Appends old new (lines_to s (i + 1))
line_more s entries i entry finding old mid new same listed found before put =
    let state = found_in (slice_get s.files i) finding found in
    let file : slice_get s.torrent.files i ≡ Some (file_of entry) =
    ap (λ files. slice_get files i) (sym same) ∙ slice_get-map file_of entries i ∙ ap (option_map file_of) listed in
    let line : FileState × File → List ℕ = λ p. state_line p.0 p.1 in
    let text = display_text (path_text (file_of entry).path) in
    let more : lines_to s (i + 1) ≡ lines_to s i ++ finding_line finding text =
    ap (flat_map line) (take_zip_more s.files s.torrent.files i state.state (file_of entry) state.here file)
    ∙ flat_map-append line (take i (zip s.files s.torrent.files)) ((state.state, file_of entry) ∷ [])
    ∙ ap (λ l. lines_to s i ++ l) (append-nil (state_line state.state (file_of entry)) ∙ ap (λ f. finding_line f text) state.same) in
    subst (Appends old new) (sym more) (Appends-trans old mid new _ _ before put)

-- the lines of all files
pub all_lines : (s : EngineState) (entries : List FileEntry) (count : ℕ) → map file_of entries ≡ s.torrent.files → length entries ≤ count
    → lines_to s count ≡ state_lines s
all_lines s entries count same all =
    let files : length s.torrent.files ≡ length entries = sym (ap length same) ∙ length-map entries file_of in
    let enough : length (zip s.files s.torrent.files) ≤ count = (let l = length-zip s.files s.torrent.files in omega arith) in
    ap (flat_map (λ p. state_line p.0 p.1)) (take_all count (zip s.files s.torrent.files) enough)
