-- What a check reports on the files of a torrent.
use Rattle.std.specs.Prelude.{◌≡◌, ℕ, ◌*◌, ◌^◌, ◌++◌, if◌then◌else◌, Bool, List, [], ◌∷◌, Result, Ok, Err, codes, map}
use Rattle.std.specs.Fmt.{decimal}
use Rattle.std.specs.List.{All, flat_map, list_all, list_any}
use Rattle.bt_disk.specs.Conduct.{Conduct}
use Rattle.bt_disk.specs.Pool.{PooledView, pooled_conduct}
use Rattle.bt_meta.specs.Files.{File, file_of}
use Rattle.bt_meta.specs.Torrent.{Metainfo}
use Rattle.bt_tree.specs.Limits.{full_block_length}
use Rattle.bt_check.specs.Check.{CheckedFile, IsFileFinding}
use Rattle.bt_check.specs.DataFile.{IsAtPath, file_at}
use Rattle.bt_check.specs.Finding.{is_complete_finding}
use Rattle.bt_check.specs.Display.{display_text, line_text}
use Rattle.bt_check.specs.Fault.{device}
use Rattle.bt_check.specs.Paths.{path_text}
use Rattle.bt_check.specs.declared.data_file.DataFile.{DataFile}
use Rattle.bt_check.specs.declared.data_file.Finding.{Finding}
use Rattle.bt_check.specs.declared.fault.Fault.{Fault}
use Rattle.bt_check.specs.declared.report.FileFinding.{FileFinding}
use Rattle.bt_check.specs.declared.report.Summary.{Summary}

-- the file of a torrent that a finding is of
abbrev pub file_in : FileFinding → File
file_in found = file_of found.file.now

-- every file is complete
abbrev pub is_complete_report : List FileFinding → Bool
is_complete_report found = list_all (λ f. is_complete_finding f.finding) found

-- a call of some file's device failed
abbrev pub is_faulty_report : List FileFinding → Bool
is_faulty_report found = list_any (λ f. f.finding.faulty) found

-- The findings of some data files, each by its device, after those before it were checked; and which are
-- checked then.
pub data AreFindings {D : Type 0} (conduct : Conduct D) (layer : ℕ)
    : List CheckedFile → List (DataFile D) → List FileFinding → List CheckedFile → Type 0 where
  none : (before : List CheckedFile) → AreFindings conduct layer before [] [] before
  more : (before mid after : List CheckedFile) (here : DataFile D) (files : List (DataFile D))
      (one : FileFinding) (rest : List FileFinding)
      → IsFileFinding conduct layer before (file_at here) one.finding here.disk mid
      → AreFindings conduct layer mid files rest after
      → AreFindings conduct layer before (here ∷ files) (one ∷ rest) after

-- The findings are of these data files, in order, and the summary is theirs; a piece has 2 ^ layer blocks.
pub record IsReportOf {D : Type 0} (conduct : Conduct D) (layer : ℕ) (opened : List (DataFile D))
    (found : List FileFinding) (summary : Summary) : Type 0 where
  pub each : map file_in found ≡ map file_at opened
  pub checked : List CheckedFile
  pub are : AreFindings conduct layer [] opened found checked
  pub complete : summary.complete ≡ is_complete_report found
  pub faulty : summary.faulty ≡ is_faulty_report found

-- The findings are of a torrent's files, in order, by the answers of the devices at their paths below a
-- folder.
pub record IsReportOn (dir : List ℕ) (torrent : Metainfo) (found : List FileFinding) (summary : Summary)
    : Type 0 where
  pub layer : ℕ
  pub pieces : torrent.piece_length ≡ full_block_length * 2 ^ layer
  pub opened : List (DataFile PooledView)
  pub files : map file_at opened ≡ torrent.files
  pub paths : All (IsAtPath dir) opened
  pub report : IsReportOf pooled_conduct layer opened found summary

-- status 0 where all are complete and 1 where one is not; a fault where a device failed
abbrev pub check_outcome : Summary → Result ℕ Fault
check_outcome summary = if summary.faulty then Err device else Ok (if summary.complete then 0 else 1)

-- the line of a finding
abbrev pub finding_line : Finding → List ℕ → List ℕ
finding_line finding path = line_text (
    if finding.longer then codes "longer " ++ path
    else (if is_complete_finding finding then codes "complete " ++ path
    else decimal finding.marked ++ codes " of " ++ decimal finding.blocks ++ codes " " ++ path))

-- the line of one file
abbrev pub file_line : FileFinding → List ℕ
file_line found = finding_line found.finding (display_text (path_text (file_in found).path))

-- the last line
abbrev pub last_line : Bool → List ℕ
last_line complete = line_text (if complete then codes "complete" else codes "not complete")

-- a line for each file
abbrev pub lines_text : List FileFinding → List ℕ
lines_text found = flat_map file_line found

-- what is printed: these lines, and the last one
abbrev pub report_text : List FileFinding → List ℕ
report_text found = lines_text found ++ last_line (is_complete_report found)
