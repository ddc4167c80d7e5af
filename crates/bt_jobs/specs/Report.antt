-- What the parts of a check told, as the report of the whole.
use Rattle.std.specs.Prelude.{◌≡◌, ℕ, suc, List, [], ◌∷◌, ◌++◌, map}
use Rattle.bt_tree.specs.Blocks.{block_count}
use Rattle.bt_meta.specs.Files.{File}
use Rattle.bt_meta.specs.Torrent.{Metainfo}
use Rattle.bt_check.specs.Report.{file_in, is_complete_report, is_faulty_report}
use Rattle.bt_check.specs.declared.data_file.Finding.{Finding}
use Rattle.bt_check.specs.declared.report.FileFinding.{FileFinding}
use Rattle.bt_check.specs.declared.report.Summary.{Summary}
use Rattle.bt_parts.specs.Join.{BeginsElsewhere, IsJoined}
use Rattle.bt_parts.specs.declared.run.Run.{Run}
use Rattle.bt_jobs.specs.Told.{TellsEach}
use Rattle.bt_jobs.specs.declared.report.Heard.{Heard}

-- The findings are of these files, of which the first has this number, and each is what the file's runs come
-- to: all blocks of each file are told, each once, and nothing else is.
pub data AreJoined : (number : ℕ) → List File → List Run → List Finding → Type 0 where
  none : (number : ℕ) → AreJoined number [] [] []
  more : (number : ℕ) (file : File) (files : List File) (own rest : List Run) (finding : Finding)
      (findings : List Finding) → BeginsElsewhere number rest
      → IsJoined number (block_count file.length) own finding → AreJoined (suc number) files rest findings
      → AreJoined number (file ∷ files) (own ++ rest) (finding ∷ findings)

-- what was told of a file comes to this
abbrev pub finding_of : Heard → Finding
finding_of heard = heard.finding

-- The findings are of a torrent's files, as runs tell them, of which there are lines, and the summary is
-- theirs.
pub record IsJoinedReport (torrent : Metainfo) (found : List FileFinding) (summary : Summary) : Type 0 where
  pub each : map file_in found ≡ torrent.files
  pub text : List ℕ
  pub runs : List Run
  pub told : TellsEach text runs
  pub joined : AreJoined 0 torrent.files runs (map (λ f. f.finding) found)
  pub complete : summary.complete ≡ is_complete_report found
  pub faulty : summary.faulty ≡ is_faulty_report found
