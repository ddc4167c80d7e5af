-- What the parts told, file by file.
use Rattle.std.proofs.Common.{◌≡◌, ℕ, suc, ◌+◌, ◌<◌, ◌≤◌, ◌&&◌, ◌||◌, Bool, true, false, List, [], ◌∷◌, ◌++◌, Option, length, map, take, drop, get_or, refl, sym, ap, ◌∙◌, subst, add-one, append-nil, append_assoc, arith}
use Rattle.std.specs.List.{flat_map}
use Rattle.std.specs.Io.KnownBytes.{Appends}
use Rattle.std.proofs.KnownBytes.{Appends-nil, Appends-trans}
use Rattle.std.proofs.lemmas.Grind.{flat_map-append}
use Rattle.std.proofs.lemmas.List.{drop_all, drop_more, map-append, map_more}
use Rattle.std.proofs.lemmas.List.Folds.{list_all-append, list_any-append}
use Rattle.bt_tree.specs.Blocks.{block_count}
use Rattle.bt_meta.specs.Files.{File, file_of}
use Rattle.bt_meta.specs.declared.torrent.FileEntry.{FileEntry}
use Rattle.bt_check.specs.Finding.{is_complete_finding}
use Rattle.bt_check.specs.Report.{file_in, file_line, is_complete_report, is_faulty_report, last_line, lines_text, report_text}
use Rattle.bt_check.specs.declared.data_file.Finding.{Finding}
use Rattle.bt_check.specs.declared.report.FileFinding.{FileFinding}
use Rattle.bt_check.specs.declared.report.Summary.{Summary}
use Rattle.bt_parts.specs.Join.{BeginsElsewhere, IsJoined}
use Rattle.bt_parts.specs.declared.run.Run.{Run}
use Rattle.bt_meta.specs.Torrent.{Metainfo}
use Rattle.bt_jobs.specs.Report.{AreJoined, none, more, IsJoinedReport, finding_of}
use Rattle.bt_jobs.specs.Told.{TellsEach}
use Rattle.bt_jobs.specs.declared.report.Heard.{Heard}

-- ---- joining

-- The files from one on are joined to these findings where the runs that are left are theirs.
abbrev pub JoinsRest : ℕ → List File → List File → List Run → List Run → List Finding → Type 0
JoinsRest number all files runs rest findings = (later : List Finding) → AreJoined number files rest later → AreJoined 0 all runs (findings ++ later)

pub joins_begun : (all : List File) (runs : List Run) → JoinsRest 0 all all runs runs []
joins_begun all runs later is = is

-- one file more
pub joins_more : (number : ℕ) (all files : List File) (file : File) (runs rest own behind : List Run) (findings : List Finding) (finding : Finding)
    → JoinsRest number all (file ∷ files) runs rest findings → rest ≡ own ++ behind → BeginsElsewhere number behind
    → IsJoined number (block_count file.length) own finding → JoinsRest (suc number) all files runs behind (findings ++ finding ∷ [])
joins_more number all files file runs rest own behind findings finding joins parted elsewhere is later are =
    subst (AreJoined 0 all runs) (sym (append_assoc findings (finding ∷ []) later))
    (joins (finding ∷ later) (subst (λ r. AreJoined number (file ∷ files) r (finding ∷ later)) (sym parted)
    (more number file files own behind finding later elsewhere is are)))

pub joins_all : (number : ℕ) (all : List File) (runs rest : List Run) (findings : List Finding) → JoinsRest number all [] runs rest findings → rest ≡ []
    → AreJoined 0 all runs findings
joins_all number all runs rest findings joins empty =
    subst (AreJoined 0 all runs) (append-nil findings) (joins [] (subst (λ r. AreJoined number [] r []) (sym empty) (none number)))

-- the files from one on are those from the next one on, with it
pub joined_next : (all : List File) (number : ℕ) (file : File) (runs rest own behind : List Run) (heard grown : List Heard) (one : Heard)
    → number < length all → file ≡ get_or all number file → JoinsRest number all (drop number all) runs rest (map finding_of heard) → rest ≡ own ++ behind
    → BeginsElsewhere number behind → IsJoined number (block_count file.length) own one.finding → grown ≡ heard ++ one ∷ []
    → JoinsRest (number + 1) all (drop (number + 1) all) runs behind (map finding_of grown)
joined_next all number file runs rest own behind heard grown one lt is joins parted elsewhere joined more_is =
    let left : drop number all ≡ file ∷ drop (number + 1) all = drop_more all number file lt ∙ ap (λ f. f ∷ drop (number + 1) all) (sym is) in
    let are : map finding_of grown ≡ map finding_of heard ++ one.finding ∷ [] = ap (map finding_of) more_is ∙ map-append finding_of heard (one ∷ []) in
    subst (λ fs. JoinsRest (number + 1) all (drop (number + 1) all) runs behind fs) (sym are)
    (subst (λ m. JoinsRest m all (drop (number + 1) all) runs behind (map finding_of heard ++ one.finding ∷ [])) (sym (add-one number))
    (joins_more number all (drop (number + 1) all) file runs rest own behind (map finding_of heard) one.finding
    (subst (λ fs. JoinsRest number all fs runs rest (map finding_of heard)) left joins) parted elsewhere joined))

-- no run is left after the last
none_is : {X : Type 0} (xs : List X) → length xs ≡ 0 → xs ≡ []
none_is [] e = refl
none_is (x ∷ xs) e = absurd (omega (arith, e))

pub joined_end : (all : List File) (number : ℕ) (runs rest : List Run) (heard : List Heard) → length all ≤ number
    → JoinsRest number all (drop number all) runs rest (map finding_of heard) → length rest ≡ 0 → AreJoined 0 all runs (map finding_of heard)
joined_end all number runs rest heard past joins empty =
    joins_all number all runs rest (map finding_of heard)
    (subst (λ fs. JoinsRest number all fs runs rest (map finding_of heard)) (drop_all number all past) joins) (none_is rest empty)

-- there is a finding for each file
pub joined_each : (number : ℕ) (files : List File) (runs : List Run) (findings : List Finding) → AreJoined number files runs findings
    → length findings ≡ length files
joined_each _ _ _ _ (none number) = refl
joined_each _ _ _ _ (more number file files own rest finding findings elsewhere is are) = omega (arith, joined_each (suc number) files rest findings are)

-- ---- reporting

-- The first findings are reported.
pub record IsTelling (files : List File) (findings : List Finding) (summary : Summary) (old new : Option (List ℕ)) : Type 0 where
  pub found : List FileFinding
  pub are_files : map file_in found ≡ files
  pub are : map (λ (f : FileFinding). f.finding) found ≡ findings
  pub complete : summary.complete ≡ is_complete_report found
  pub faulty : summary.faulty ≡ is_faulty_report found
  pub lines : Appends old new (lines_text found)

pub telling_begun : (summary : Summary) (old : Option (List ℕ)) → summary.complete ≡ true → summary.faulty ≡ false → IsTelling [] [] summary old old
telling_begun summary old complete faulty =
    record { found = []; are_files = refl; are = refl; complete = complete; faulty = faulty; lines = Appends-nil old }

pub telling_more : (files : List File) (findings : List Finding) (summary next : Summary) (one : FileFinding) (file : File) (finding : Finding)
    (old mid new : Option (List ℕ)) → IsTelling files findings summary old mid → file_in one ≡ file → one.finding ≡ finding
    → next.complete ≡ (summary.complete && is_complete_finding finding) → next.faulty ≡ (summary.faulty || finding.faulty)
    → Appends mid new (file_line one) → IsTelling (files ++ file ∷ []) (findings ++ finding ∷ []) next old new
telling_more files findings summary next one file finding old mid new t same is complete faulty put =
    let last : flat_map file_line (one ∷ []) ≡ file_line one = append-nil (file_line one) in
    record {
      found = t.found ++ one ∷ [];
      are_files = map-append file_in t.found (one ∷ []) ∙ ap (λ l. l ++ file_in one ∷ []) t.are_files ∙ ap (λ f. files ++ f ∷ []) same;
      are = map-append (λ (f : FileFinding). f.finding) t.found (one ∷ []) ∙ ap (λ l. l ++ one.finding ∷ []) t.are ∙ ap (λ f. findings ++ f ∷ []) is;
      complete = complete ∙ ap (λ b. b && is_complete_finding finding) t.complete ∙ ap (λ f. is_complete_report t.found && is_complete_finding f) (sym is)
          ∙ sym (all_push t.found);
      faulty = faulty ∙ ap (λ b. b || finding.faulty) t.faulty ∙ ap (λ (f : Finding). is_faulty_report t.found || f.faulty) (sym is) ∙ sym (any_push t.found);
      lines = subst (Appends old new) (ap (λ l. lines_text t.found ++ l) (sym last) ∙ sym (flat_map-append file_line t.found (one ∷ [])))
          (Appends-trans old mid new _ _ t.lines put);
    }
  where
    and_true : (b : Bool) → (b && true) ≡ b
    and_true true = refl
    and_true false = refl

    or_false : (b : Bool) → (b || false) ≡ b
    or_false true = refl
    or_false false = refl

    all_push : (xs : List FileFinding) → is_complete_report (xs ++ one ∷ []) ≡ (is_complete_report xs && is_complete_finding one.finding)
    all_push xs =
        list_all-append (λ (f : FileFinding). is_complete_finding f.finding) xs (one ∷ [])
        ∙ ap (λ b. is_complete_report xs && b) (and_true (is_complete_finding one.finding))

    any_push : (xs : List FileFinding) → is_faulty_report (xs ++ one ∷ []) ≡ (is_faulty_report xs || one.finding.faulty)
    any_push xs = list_any-append (λ (f : FileFinding). f.finding.faulty) xs (one ∷ []) ∙ ap (λ b. is_faulty_report xs || b) (or_false one.finding.faulty)

-- the files so far, with the next one
pub told_next : (files : List FileEntry) (heard : List Heard) (number : ℕ) (file : FileEntry) (d : Heard) (found : FileFinding) (summary next : Summary)
    (old mid new : Option (List ℕ)) → number < length files → number < length heard → file ≡ get_or files number file
    → IsTelling (map file_of (take number files)) (map finding_of (take number heard)) summary old mid → file_in found ≡ file_of file
    → found.finding ≡ (get_or heard number d).finding → next.complete ≡ (summary.complete && is_complete_finding (get_or heard number d).finding)
    → next.faulty ≡ (summary.faulty || (get_or heard number d).finding.faulty) → Appends mid new (file_line found)
    → IsTelling (map file_of (take (number + 1) files)) (map finding_of (take (number + 1) heard)) next old new
told_next files heard number file d found summary next old mid new lt also is t same own complete faulty put =
    subst (λ fs. IsTelling fs (map finding_of (take (number + 1) heard)) next old new) (sym (map_more file_of files number file lt))
    (subst (λ findings. IsTelling (map file_of (take number files) ++ file_of (get_or files number file) ∷ []) findings next old new)
    (sym (map_more finding_of heard number d also))
    (telling_more (map file_of (take number files)) (map finding_of (take number heard)) summary next found (file_of (get_or files number file))
    (get_or heard number d).finding old mid new t (same ∙ ap file_of is) own complete faulty put))

-- and the last line is written
pub all_told : (files : List File) (findings : List Finding) (summary : Summary) (words : List ℕ) (old mid new : Option (List ℕ))
    → IsTelling files findings summary old mid → words ≡ last_line summary.complete → Appends mid new words
    → (found : List FileFinding) × (map file_in found ≡ files) × (map (λ (f : FileFinding). f.finding) found ≡ findings)
    × (summary.complete ≡ is_complete_report found) × (summary.faulty ≡ is_faulty_report found) × Appends old new (report_text found)
all_told files findings summary words old mid new t last put = (
  t.found,
  t.are_files,
  t.are,
  t.complete,
  t.faulty,
  subst (Appends old new) (ap (λ w. lines_text t.found ++ w) (last ∙ ap last_line t.complete)) (Appends-trans old mid new _ _ t.lines put),
)

-- what the parts told, as a report on a torrent
pub joined_report : (torrent : Metainfo) (files : List File) (text : List ℕ) (runs : List Run) (heard : List Heard) (found : List FileFinding) (summary : Summary)
    → files ≡ torrent.files → TellsEach text runs → AreJoined 0 files runs (map finding_of heard) → map file_in found ≡ files
    → map (λ (f : FileFinding). f.finding) found ≡ map finding_of heard → summary.complete ≡ is_complete_report found
    → summary.faulty ≡ is_faulty_report found → IsJoinedReport torrent found summary
joined_report torrent files text runs heard found summary same told joined are_files are complete faulty = record {
  each = are_files ∙ same;
  text = text;
  runs = runs;
  told = told;
  joined = subst (λ fs. AreJoined 0 fs runs (map (λ (f : FileFinding). f.finding) found)) same (subst (AreJoined 0 files runs) (sym are) joined);
  complete = complete;
  faulty = faulty;
}
