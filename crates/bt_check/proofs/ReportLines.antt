-- Lemmas on what a check reports, file by file.
use Rattle.std.proofs.Common.{◌≡◌, ℕ, ◌*◌, ◌^◌, ◌&&◌, ◌||◌, Bool, true, false, List, [], ◌∷◌, ◌++◌, Option, map, refl, sym, ap, ◌∙◌, subst, append-nil, append_assoc}
use Rattle.std.specs.List.{flat_map, All}
use Rattle.std.specs.Io.KnownBytes.{Appends}
use Rattle.std.proofs.KnownBytes.{Appends-nil, Appends-trans}
use Rattle.std.proofs.lemmas.Grind.{flat_map-append}
use Rattle.std.proofs.lemmas.List.Folds.{list_all-append, list_any-append}
use Rattle.std.proofs.lemmas.List.{map-append}
use Rattle.std.proofs.lemmas.List.Elements.{All-tail}
use Rattle.bt_disk.specs.Conduct.{Conduct}
use Rattle.bt_disk.specs.Pool.{PooledView, pooled_conduct}
use Rattle.bt_check.specs.Check.{CheckedFile, IsFileFinding}
use Rattle.bt_check.specs.DataFile.{IsAtPath, file_at}
use Rattle.bt_check.specs.EntryCheck.{IsCheckable}
use Rattle.bt_check.specs.Finding.{is_complete_finding}
use Rattle.bt_meta.specs.Torrent.{Metainfo}
use Rattle.bt_tree.specs.Limits.{full_block_length}
use Rattle.bt_check.specs.Report.{AreFindings, none, more, IsReportOf, IsReportOn, file_in, file_line, last_line, lines_text, report_text, is_complete_report, is_faulty_report}
use Rattle.bt_check.specs.declared.report.FileFinding.{FileFinding}
use Rattle.bt_check.specs.TreeSteps.{ChecksNext, KeepsTrees}
use Rattle.bt_check.specs.declared.data_file.DataFile.{DataFile}
use Rattle.bt_check.specs.declared.report.Summary.{Summary}
use Rattle.bt_check.specs.declared.trees.SharedTrees.{SharedTrees}

module _ {D : Type 0} (conduct : Conduct D) (layer : ℕ) where
  -- Some files are reported, and these are left.
  pub record IsReporting (all left : List (DataFile D)) (trees : SharedTrees) (summary : Summary) (old new : Option (List ℕ)) : Type 0 where
    pub done : List (DataFile D)
    pub found : List FileFinding
    pub checked : List CheckedFile
    pub parted : all ≡ done ++ left
    pub each : map file_in found ≡ map file_at done
    pub checkable : All (IsCheckable layer) (map file_at left)
    pub are : AreFindings conduct layer [] done found checked
    pub keeps : KeepsTrees layer checked (map file_at left) trees
    pub complete : summary.complete ≡ is_complete_report found
    pub faulty : summary.faulty ≡ is_faulty_report found
    pub lines : Appends old new (lines_text found)

  pub reporting_begun : (all : List (DataFile D)) (trees : SharedTrees) (old : Option (List ℕ)) → All (IsCheckable layer) (map file_at all)
      → KeepsTrees layer [] (map file_at all) trees → IsReporting all all trees (record { complete = true; faulty = false }) old old
  reporting_begun all trees old checkable keeps = record {
    done = [];
    found = [];
    checked = [];
    parted = refl;
    each = refl;
    checkable = checkable;
    are = none [];
    keeps = keeps;
    complete = refl;
    faulty = refl;
    lines = Appends-nil old;
  }

  -- one finding more
  are_more : (before mid after : List CheckedFile) (done : List (DataFile D)) (found : List FileFinding) (here : DataFile D) (one : FileFinding)
      → AreFindings conduct layer before done found mid → IsFileFinding conduct layer mid (file_at here) one.finding here.disk after
      → AreFindings conduct layer before (done ++ here ∷ []) (found ++ one ∷ []) after
  are_more _ _ after _ _ here one (none before) is = more before after after here [] one [] is (none after)
  are_more _ _ after _ _ here one (more before next mid first files own rest found are) is =
      more before next after first (files ++ here ∷ []) own (rest ++ one ∷ []) found (are_more next mid after files rest here one are is)

  pub reporting_more : (all before left : List (DataFile D)) (here : DataFile D) (trees grown : SharedTrees) (summary next : Summary) (one : FileFinding)
      (old mid new : Option (List ℕ))
      → IsReporting all before trees summary old mid → before ≡ here ∷ left → file_in one ≡ file_at here
      → ChecksNext conduct layer (file_at here) here.disk trees one.finding grown
      → next.complete ≡ (summary.complete && is_complete_finding one.finding) → next.faulty ≡ (summary.faulty || one.finding.faulty)
      → Appends mid new (file_line one) → IsReporting all left grown next old new
  reporting_more all before left here trees grown summary next one old mid new r taken same checks complete faulty put =
      let made = checks r.checked (map file_at left) (subst (λ l. KeepsTrees layer r.checked (map file_at l) trees) taken r.keeps) in
      let checkable : All (IsCheckable layer) (map file_at (here ∷ left)) = subst (λ l. All (IsCheckable layer) (map file_at l)) taken r.checkable in
      let last : flat_map file_line (one ∷ []) ≡ file_line one = append-nil (file_line one) in
      record {
        done = r.done ++ here ∷ [];
        found = r.found ++ one ∷ [];
        parted = r.parted ∙ ap (λ l. r.done ++ l) taken ∙ sym (append_assoc r.done (here ∷ []) left);
        each = map-append file_in r.found (one ∷ []) ∙ ap (λ l. l ++ file_in one ∷ []) r.each ∙ ap (λ f. map file_at r.done ++ f ∷ []) same
            ∙ sym (map-append file_at r.done (here ∷ []));
        checkable = All-tail (IsCheckable layer) (file_at here) (map file_at left) checkable;
        checked = made.0;
        are = are_more [] r.checked made.0 r.done r.found here one r.are made.1;
        keeps = made.2;
        complete = complete ∙ ap (λ b. b && is_complete_finding one.finding) r.complete ∙ sym (all_push r.found);
        faulty = faulty ∙ ap (λ b. b || one.finding.faulty) r.faulty ∙ sym (any_push r.found);
        lines = subst (Appends old new) (ap (λ l. lines_text r.found ++ l) (sym last) ∙ sym (flat_map-append file_line r.found (one ∷ [])))
            (Appends-trans old mid new _ _ r.lines put);
      }
    where
      and_true : (b : Bool) → (b && true) ≡ b
      and_true true = refl
      and_true false = refl

      or_false : (b : Bool) → (b || false) ≡ b
      or_false true = refl
      or_false false = refl

      all_push : (xs : List FileFinding) → is_complete_report (xs ++ one ∷ []) ≡ (is_complete_report xs && is_complete_finding one.finding)
      all_push xs =
          list_all-append (λ f. is_complete_finding f.finding) xs (one ∷ [])
          ∙ ap (λ b. is_complete_report xs && b) (and_true (is_complete_finding one.finding))

      any_push : (xs : List FileFinding) → is_faulty_report (xs ++ one ∷ []) ≡ (is_faulty_report xs || one.finding.faulty)
      any_push xs = list_any-append (λ f. f.finding.faulty) xs (one ∷ []) ∙ ap (λ b. is_faulty_report xs || b) (or_false one.finding.faulty)

-- and the last line is written
pub report_on : (dir : List ℕ) (torrent : Metainfo) (layer bytes : ℕ) (opened : List (DataFile PooledView)) (summary : Summary) (words : List ℕ)
    (old mid new : Option (List ℕ))
    → torrent.piece_length ≡ bytes → bytes ≡ full_block_length * 2 ^ layer → map file_at opened ≡ torrent.files → All (IsAtPath dir) opened
    → (found : List FileFinding) × IsReportOf pooled_conduct layer opened found summary × Appends old mid (lines_text found) → words ≡ last_line summary.complete
    → Appends mid new words → (found : List FileFinding) × IsReportOn dir torrent found summary × Appends old new (report_text found)
report_on dir torrent layer bytes opened summary words old mid new length_is size same paths r last put = (
  r.0,
  record { layer = layer; pieces = length_is ∙ size; opened = opened; files = same; paths = paths; report = r.1 },
  subst (Appends old new) (ap (λ w. lines_text r.0 ++ w) (last ∙ ap last_line r.1.complete)) (Appends-trans old mid new _ _ r.2 put),
)
