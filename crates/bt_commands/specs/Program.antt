-- What the program does with its words: the status that it exits with, the text that it writes, and what it reads.
use Rattle.std.specs.Prelude.{◌≡◌, ◌≢◌, ℕ, ◌⊎◌, Bool, false, List, Option, None, if◌then◌else◌}
use Rattle.std.specs.Borrow.{Bor}
use Rattle.std.specs.Io.KnownBytes.{Appends, Keeps}
use Rattle.clap.specs.Words.{Text}
use Rattle.clap.specs.declared.error.kind.ErrorKind.{ErrorKind}
use Rattle.clap.specs.declared.error.kind.ErrorKind.TheVariants.{DisplayHelp, DisplayVersion, OutOfMemory}
use Rattle.bt_tree.specs.TreeShape.{IsPieceLength}
use Rattle.bt_meta.specs.Torrent.{Metainfo}
use Rattle.bt_meta.specs.declared.writer.MakeError.TheVariants.{PieceLength}
use Rattle.bt_replay.specs.Command.{IsReplay}
use Rattle.bt_transfer.specs.Fetch.{IsFetch}
use Rattle.bt_transfer.specs.FullLog.{HasFilledLog}
use Rattle.bt_transfer.specs.Seed.{IsSeed, seed_use}
use Rattle.bt_files.specs.Loading.{IsLogFull, IsStoreFault}
use Rattle.bt_files.specs.declared.file_use.FileUse.{FileUse}
use Rattle.bt_files.specs.declared.file_use.FileUse.TheVariants.{Fetch as for_fetch}
use Rattle.bt_words.specs.CommandLine.{IsTaskOf, IsNoTaskOf}
use Rattle.bt_check.specs.Fault.{log_full, make_fault, out_of_memory, status_of, words_fault}
use Rattle.bt_make.specs.AtomicFile.{infohash_line}
use Rattle.bt_make.specs.Command.{IsMakeFault, IsMakeTorrent}
use Rattle.bt_check.specs.Report.{IsReportOn, is_complete_report, is_faulty_report, report_text}
use Rattle.bt_check.specs.Show.{show_text}
use Rattle.bt_check.specs.TorrentFile.{HasText, IsLoadFault}
use Rattle.bt_parts.specs.declared.cut.Part.{Part as PartOf}
use Rattle.bt_parts.specs.declared.run.Run.{Run}
use Rattle.bt_jobs.specs.Part.{IsPartReport}
use Rattle.bt_jobs.specs.Report.{IsJoinedReport}
use Rattle.bt_jobs.specs.Share.{runs_text}
use Rattle.bt_words.specs.declared.command_line.CheckTask.{CheckTask}
use Rattle.bt_words.specs.declared.command_line.Work.{Work}
use Rattle.bt_words.specs.declared.command_line.Work.TheVariants.{Jobs, Part}
use Rattle.bt_words.specs.declared.command_line.FetchTask.{FetchTask}
use Rattle.bt_words.specs.declared.command_line.MakeTask.{MakeTask}
use Rattle.bt_words.specs.declared.command_line.SeedTask.{SeedTask}
use Rattle.bt_check.specs.declared.torrent_file.Source.{Source}
use Rattle.bt_words.specs.declared.command_line.Task.{Task}
use Rattle.bt_words.specs.declared.command_line.Task.TheVariants.{Make, Show, Check, Seed, Fetch, Replay}
use Rattle.bt_check.specs.declared.fault.Fault.{Fault}
use Rattle.bt_make.specs.declared.new_torrent.NewTorrent.{NewTorrent}
use Rattle.bt_check.specs.declared.report.FileFinding.{FileFinding}
use Rattle.bt_check.specs.declared.report.Summary.{Summary}

-- ---- a task that is done

-- a torrent was made, and the text is a line with its infohash
pub record IsMakeResult (request : MakeTask) (status : ℕ) (text : List ℕ) : Type 0 where
  pub new : NewTorrent
  pub made : IsMakeTorrent request.name.now request.piece_length new
  pub line : text ≡ infohash_line new.infohash
  pub answer : status ≡ 0

-- a torrent was read, and the text is what it says
pub record IsShowResult (source : Source) (status : ℕ) (text : List ℕ) : Type 0 where
  pub torrent : Metainfo
  pub loaded : HasText source.is_info torrent
  pub lines : text ≡ show_text torrent
  pub answer : status ≡ 0

-- a torrent was read and its files in a folder were checked, no device of which failed; the text is the
-- report's, and the status says whether all are complete
pub record IsWholeResult (source : Source) (dir : List ℕ) (status : ℕ) (text : List ℕ) : Type 0 where
  pub torrent : Metainfo
  pub loaded : HasText source.is_info torrent
  pub found : List FileFinding
  pub summary : Summary
  pub report : IsReportOn dir torrent found summary
  pub sound : is_faulty_report found ≡ false
  pub lines : text ≡ report_text found
  pub answer : status ≡ (if is_complete_report found then 0 else 1)

-- a torrent was read, and what was found of its files is that of the files in a folder, or is what parts told: of all
-- blocks of each file, each once; no device failed
pub record IsJoinedResult (source : Source) (dir : List ℕ) (status : ℕ) (text : List ℕ) : Type 0 where
  pub torrent : Metainfo
  pub loaded : HasText source.is_info torrent
  pub found : List FileFinding
  pub summary : Summary
  pub report : IsReportOn dir torrent found summary ⊎ IsJoinedReport torrent found summary
  pub sound : is_faulty_report found ≡ false
  pub lines : text ≡ report_text found
  pub answer : status ≡ (if is_complete_report found then 0 else 1)

-- a torrent was read, and the text is what a part of a check tells of its files in a folder, a line for each run
-- of blocks
pub record IsPartResult (source : Source) (dir : List ℕ) (part : PartOf) (status : ℕ) (text : List ℕ)
    : Type 0 where
  pub torrent : Metainfo
  pub loaded : HasText source.is_info torrent
  pub runs : List Run
  pub report : IsPartReport dir torrent part runs
  pub lines : text ≡ runs_text runs
  pub answer : status ≡ 0

-- all was checked, by one process or by several; or a part was
abbrev pub IsWorkResult : Source → List ℕ → Work → ℕ → List ℕ → Type 0
IsWorkResult source dir (Jobs n) status text =
    (n ≡ 1 → IsWholeResult source dir status text) × (n ≢ 1 → IsJoinedResult source dir status text)
IsWorkResult source dir (Part part) status text = IsPartResult source dir part status text

abbrev pub IsCheckResult : CheckTask → ℕ → List ℕ → Type 0
IsCheckResult task status text = IsWorkResult task.torrent task.dir.now task.work status text

-- the torrent's files were served, as said, with the log that is asked for, or without one; or they are only
-- to be read, and not complete
abbrev pub IsSeedResult : SeedTask → (old new : Option (List ℕ)) → ℕ → Type 0
IsSeedResult task old new status =
    IsSeed task.torrent.is_info task.dir.now task.service task.log old new status

-- the torrent's files were fetched from the peers, as far as these had them, with the log that is asked for,
-- or without one
abbrev pub IsFetchResult : FetchTask → (old new : Option (List ℕ)) → ℕ → Type 0
IsFetchResult task old new status =
    IsFetch task.torrent.is_info task.dir.now task.is_together task.peers.items task.log old new status

-- a text was written, and it and the status are as wanted
pub record Writes (wanted : ℕ → List ℕ → Type 0) (old new : Option (List ℕ)) (status : ℕ) : Type 0 where
  pub text : List ℕ
  pub written : Appends old new text
  pub is : wanted status text

-- a task was done, with this status: `given` and `left` are what the reader had before and after, `old` and
-- `new` what the writer had. A replay tells its faults itself
abbrev pub IsDone : Task → (given left old new : Option (List ℕ)) → ℕ → Type 0
IsDone (Make request) given left old new status = Writes (IsMakeResult request) old new status
IsDone (Show task) given left old new status = Writes (IsShowResult task.torrent) old new status
IsDone (Check task) given left old new status = Writes (IsCheckResult task) old new status
IsDone (Seed task) given left old new status = IsSeedResult task old new status
IsDone (Fetch task) given left old new status = IsFetchResult task old new status
IsDone Replay given left old new status = IsReplay given left old new status

-- ---- what is not done

-- no torrent was made; and where the piece length is not lawful, that is why
pub record IsMakeEnd (request : MakeTask) (fault : Fault) : Type 0 where
  pub cause : IsMakeFault request.name.now request.piece_length fault
  pub unlawful : ¬ IsPieceLength request.piece_length → fault ≡ make_fault PieceLength

-- the file of the log that a task is to go on from, if there is to be one
abbrev pub task_log : Task → Option (Bor (List ℕ))
task_log (Seed task) = task.log
task_log (Fetch task) = task.log
task_log task = None

-- Why a task over a store ends: the store is not opened; or its log, where one is asked for, was found full.
abbrev pub IsStoreEnd : Bool → FileUse → List ℕ → Option (Bor (List ℕ)) → Fault → Type 0
IsStoreEnd is_info usage dir log fault =
    IsStoreFault is_info usage log fault ⊎ (IsLogFull log fault × HasFilledLog is_info usage dir log)

-- a fault that can end a task: the commands on a torrent end as the reading of one can, those that write its
-- files where two of its paths are one file, and those with a log where it is refused, or was found full
abbrev pub IsTaskFault : Task → Fault → Type 0
IsTaskFault (Make request) fault = IsMakeEnd request fault
IsTaskFault (Show task) fault = IsLoadFault task.torrent.is_info fault
IsTaskFault (Check task) fault = IsLoadFault task.torrent.is_info fault
IsTaskFault (Seed task) fault =
    IsStoreEnd task.torrent.is_info (seed_use task.service.is_read_only) task.dir.now task.log fault
IsTaskFault (Fetch task) fault = IsStoreEnd task.torrent.is_info for_fetch task.dir.now task.log fault
IsTaskFault Replay fault = ⊥

-- a fault ended a task; where it is a refusal, nothing was written, but that a task's log is full shows as
-- what is known is written to it, after the lines of what was done
pub record IsTaskEnd (task : Task) (old new : Option (List ℕ)) (fault : Fault) : Type 0 where
  pub cause : IsTaskFault task fault
  pub refused : status_of fault ≡ 2 → ¬ IsLogFull (task_log task) fault → Keeps old new

-- status 0 or 3 for help and the version: the kit does not say their text. A mistake goes to the other
-- stream, or there was no memory to tell it.
abbrev pub IsExplanation : ErrorKind → Option (List ℕ) → Option (List ℕ) → ℕ → Type 0
IsExplanation DisplayHelp old new status = (status ≡ 0) ⊎ (status ≡ 3)
IsExplanation DisplayVersion old new status = (status ≡ 0) ⊎ (status ≡ 3)
IsExplanation OutOfMemory old new status = (status ≡ 4) × Keeps old new
IsExplanation kind old new status = ((status ≡ 2) ⊎ (status ≡ 4)) × Keeps old new

-- ---- a run

-- what the words ask for was done, or ended by a fault; or they ask for nothing
pub data IsRun (words : List Text) (given left old new : Option (List ℕ)) (status : ℕ) : Type 0 where
  task_result : (task : Task) → IsTaskOf words task
      → IsDone task given left old new status → IsRun words given left old new status
  task_end : (task : Task) (fault : Fault) → IsTaskOf words task
      → IsTaskEnd task old new fault → status ≡ status_of fault → IsRun words given left old new status
  no_task : (kind : ErrorKind) → IsNoTaskOf words kind
      → IsExplanation kind old new status → IsRun words given left old new status

-- the words ask for a task with a log, and the log was found full, which ended it
pub record FillsLog (words : List Text) (old new : Option (List ℕ)) : Type 0 where
  pub task : Task
  pub asked : IsTaskOf words task
  pub logged : task_log task ≢ None
  pub ended : IsTaskEnd task old new log_full

-- a run on some words; or the words could not be had, and nothing was written
pub data IsStart (given left old new : Option (List ℕ)) (status : ℕ) : Type 0 where
  on_words : (words : List Text) → IsRun words given left old new status → IsStart given left old new status
  no_words : (fault : Fault) → (fault ≡ words_fault) ⊎ (fault ≡ out_of_memory) → status ≡ status_of fault
      → Keeps old new → IsStart given left old new status
