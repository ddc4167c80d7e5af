-- A check by parts, as its caller sees it.
use Rattle.std.specs.Prelude.{◌≡◌, ◌⊎◌, ℕ, Bool, List}
use Rattle.bt_meta.specs.Torrent.{Metainfo}
use Rattle.bt_check.specs.Report.{IsReportOn}
use Rattle.bt_check.specs.TorrentFile.{IsTorrentOfText}
use Rattle.bt_check.specs.declared.report.FileFinding.{FileFinding}
use Rattle.bt_check.specs.declared.report.Summary.{Summary}
use Rattle.bt_jobs.specs.Parts.{AreStarted, IsDone, PartState}
use Rattle.bt_jobs.specs.Report.{IsJoinedReport}
use Rattle.bt_jobs.specs.Starts.{Start, part_starts}
use Rattle.bt_jobs.specs.declared.jobs.Job.{Job}

-- All parts of a check were started; each was passed a text that spells the torrent, and has ended with status 0.
pub record AllAreDone {S P : Type 0} (starts : S → Start → S → Type 0) (stands : P → PartState → Type 0)
    (is_info : Bool) (dir : List ℕ) (count : ℕ) (torrent : Metainfo) (old new : S) : Type 0 where
  pub text : List ℕ
  pub spelled : IsTorrentOfText is_info text torrent
  pub parts : List P
  pub done : AreStarted starts stands (IsDone text) old (part_starts is_info dir count) new parts

-- One process alone found it, and no part was started; or all were, and it is what runs come to.
abbrev pub IsCheckByParts : {S P : Type 0} → (S → Start → S → Type 0) → (P → PartState → Type 0) → Job
    → Metainfo → List FileFinding → Summary → (old new : S) → Type 0
IsCheckByParts starts stands job torrent found summary old new =
    (IsReportOn job.dir.now torrent found summary × (new ≡ old))
    ⊎ (IsJoinedReport torrent found summary
    × AllAreDone starts stands job.source.is_info job.dir.now job.count torrent old new)
