-- What an engine reports on the files of its torrent, in the words of a check.
use Rattle.std.specs.Prelude.{◌≡◌, ℕ, ◌++◌, true, false, List, length, Option, Some, slice_get}
use Rattle.std.specs.List.{count_by, flat_map, zip}
use Rattle.bt_disk.specs.Conduct.{Conduct}
use Rattle.bt_store.specs.BlockStates.{is_marked}
use Rattle.bt_meta.specs.Files.{File}
use Rattle.bt_meta.specs.Torrent.{Metainfo}
use Rattle.bt_machine.specs.declared.event.Event.{Event}
use Rattle.bt_machine.specs.declared.event.Answer.{Answer}
use Rattle.bt_machine.specs.State.{FileState, EngineState, EngineView}
use Rattle.bt_machine.specs.Opening.{BeginsOn}
use Rattle.bt_machine.specs.Report.{all_complete}
use Rattle.bt_machine.specs.View.{RunsTo}
use Rattle.bt_resume.specs.ResumeLog.{LogView}
use Rattle.bt_engine.specs.WholeRuns.{IsFileMarkedOnPath, IsPublishedOn}
use Rattle.bt_check.specs.Finding.{is_complete_finding}
use Rattle.bt_check.specs.Display.{display_text}
use Rattle.bt_check.specs.Paths.{path_text}
use Rattle.bt_check.specs.Report.{finding_line, last_line}
use Rattle.bt_check.specs.declared.data_file.Finding.{Finding}

-- how far a file is
abbrev pub finding_of : FileState → Finding
finding_of f = record {
  blocks = length f.states;
  marked = count_by is_marked f.states;
  longer = false;
  faulty = false;
}

-- the line of a file of the torrent, with its blocks as the engine has them
abbrev pub state_line : FileState → File → List ℕ
state_line f file = finding_line (finding_of f) (display_text (path_text file.path))

-- a line for each file
abbrev pub state_lines : EngineState → List ℕ
state_lines s = flat_map (λ p. state_line p.0 p.1) (zip s.files s.torrent.files)

-- these, and the last line
abbrev pub engine_report : EngineState → List ℕ
engine_report s = state_lines s ++ last_line (all_complete s)

-- ---- what it means that a line calls a file complete

-- the line of the torrent's file of this number begins with `complete`
pub record IsCalledComplete (torrent : Metainfo) (s : EngineState) (number : ℕ) (file : File) : Type 0 where
  pub state : FileState
  pub listed : slice_get torrent.files number ≡ Some file
  pub here : slice_get s.files number ≡ Some state
  pub called : is_complete_finding (finding_of state) ≡ true

-- Each block of such a file is marked since a run or its start, by bytes whose digest lies at its leaf, on a checked
-- path to the file's root.
abbrev pub ReportsMarked : {D : Type 0} {conduct : Conduct D}
    {dig : List ℕ → List ℕ} {torrent : Metainfo} {placed : List (Option D)} {log : Option (LogView D)}
    {first : EngineView D} {events : List Event} {answers : List Answer} {last : EngineView D}
    → BeginsOn conduct dig torrent placed log first
    → RunsTo conduct dig first events answers last → Type 0
ReportsMarked {torrent = torrent} {last = last} begins runs = (number : ℕ) (file : File)
    → IsCalledComplete torrent last.state number file → IsFileMarkedOnPath begins runs number file

-- Such a file is the published one on its device, where that is honest. An empty file has no device and no byte.
abbrev pub ReportsPublished : {D : Type 0} → Conduct D → (List ℕ → List ℕ) → Metainfo
    → EngineView D → Type 0
ReportsPublished {D} conduct dig torrent last = (number : ℕ) (file : File) (disk : Option D)
    → IsCalledComplete torrent last.state number file → slice_get last.disks number ≡ Some disk
    → IsPublishedOn conduct dig file disk
