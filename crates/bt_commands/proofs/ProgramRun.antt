-- Lemmas on what a run does.
use Rattle.std.proofs.Common.{◌≡◌, ℕ, Bool, true, false, ap, List, Option, Result, Ok, Err, IfOk, IfErr, IsErrAnd, refl, sym, subst, ◌∙◌, inl, inr}
use Rattle.std.specs.Prelude.{◌⊎◌, if◌then◌else◌}
use Rattle.std.specs.Io.KnownBytes.{Appends, Keeps}
use Rattle.std.proofs.KnownBytes.{Keeps-refl}
use Rattle.clap.specs.Words.{Text}
use Rattle.bt_tree.specs.TreeShape.{IsPieceLength}
use Rattle.bt_meta.specs.declared.writer.MakeError.TheVariants.{PieceLength}
use Rattle.bt_words.specs.CommandLine.{IsTaskOf}
use Rattle.bt_meta.specs.Torrent.{Metainfo}
use Rattle.bt_check.specs.Report.{IsReportOn, check_outcome, is_complete_report, is_faulty_report, report_text}
use Rattle.bt_check.specs.TorrentFile.{HasText}
use Rattle.bt_jobs.specs.ByParts.{IsCheckByParts}
use Rattle.bt_jobs.specs.Parts.{PartState}
use Rattle.bt_jobs.specs.Report.{IsJoinedReport}
use Rattle.bt_jobs.specs.Starts.{Start}
use Rattle.bt_jobs.specs.declared.jobs.Job.{Job}
use Rattle.bt_make.specs.AtomicFile.{infohash_line}
use Rattle.bt_make.specs.Command.{IsMakeFault, IsMakeTorrent}
use Rattle.bt_commands.specs.Program.{IsDone, IsJoinedResult, IsMakeResult, IsWholeResult, IsTaskEnd, IsRun, IsStart, Writes, no_words, on_words, task_result, task_end}
use Rattle.bt_commands.specs.ProgramSteps.{status_after}
use Rattle.bt_check.specs.Fault.{device, make_fault, out_of_memory, status_of, words_fault}
use Rattle.bt_make.specs.declared.new_torrent.NewTorrent.{NewTorrent}
use Rattle.bt_check.specs.declared.report.FileFinding.{FileFinding}
use Rattle.bt_check.specs.declared.report.Summary.{Summary}
use Rattle.bt_words.specs.declared.command_line.MakeTask.{MakeTask}
use Rattle.bt_check.specs.declared.torrent_file.Source.{Source}
use Rattle.bt_words.specs.declared.command_line.Task.{Task}
use Rattle.bt_words.specs.declared.command_line.Task.TheVariants.{Make}
use Rattle.bt_check.specs.declared.fault.Fault.{Fault}

-- nothing was made, and nothing written yet
pub not_made : {T : Type 0} (r : Result T Fault) (request : MakeTask) (old : Option (List ℕ)) (fault : Fault)
    → IsMakeFault request.name.now request.piece_length fault → (¬ IsPieceLength request.piece_length → fault ≡ make_fault PieceLength)
    → IsErrAnd r (λ found. found ≡ fault) → IfErr r (IsTaskEnd (Make request) old old)
not_made (Ok x) request old fault cause why same = absurd same
not_made (Err found) request old fault cause why same = record {
  cause = record { cause = subst (IsMakeFault request.name.now request.piece_length) (sym same) cause; unlawful = λ none. same ∙ why none };
  refused = λ _ _. Keeps-refl old;
}

-- a check that was done ends as its summary says: where a device failed with this fault, and else with this status
outcome_written : (is_faulty is_complete : Bool) (P : ℕ → Type 0) → (is_faulty ≡ false → P (if is_complete then 0 else 1))
    → IfOk (if is_faulty then Err device else Ok (if is_complete then 0 else 1)) P
outcome_written true is_complete P h = tt
outcome_written false is_complete P h = h refl

pub check_done : (source : Source) (dir : List ℕ) (torrent : Metainfo) (summary : Summary) (old new : Option (List ℕ)) (outcome : Result ℕ Fault)
    → outcome ≡ check_outcome summary → HasText source.is_info torrent
    → (found : List FileFinding) × IsReportOn dir torrent found summary × Appends old new (report_text found)
    → IfOk outcome (Writes (IsWholeResult source dir) old new)
check_done source dir torrent summary old new outcome is loaded r =
    subst (λ o. IfOk o (Writes (IsWholeResult source dir) old new)) (sym is)
    (outcome_written summary.faulty summary.complete (Writes (IsWholeResult source dir) old new) (λ sound. record {
      text = report_text r.0;
      written = r.2;
      is = record {
        torrent = torrent;
        loaded = loaded;
        found = r.0;
        summary = summary;
        report = r.1;
        sound = sym r.1.report.faulty ∙ sound;
        lines = refl;
        answer = ap (λ b. if b then 0 else 1) r.1.report.complete;
      };
    }))

-- the report of a check by parts, whose summary is that of its findings
by_parts : {S P : Type 0} (starts : S → Start → S → Type 0) (stands : P → PartState → Type 0) (job : Job) (torrent : Metainfo) (found : List FileFinding) (summary : Summary) (old new : S)
    → IsCheckByParts starts stands job torrent found summary old new → (IsReportOn job.dir.now torrent found summary ⊎ IsJoinedReport torrent found summary)
    × (summary.faulty ≡ is_faulty_report found) × (summary.complete ≡ is_complete_report found)
by_parts starts stands job torrent found summary old new (inl alone) = (inl alone.0, alone.0.report.faulty, alone.0.report.complete)
by_parts starts stands job torrent found summary old new (inr joined) = (inr joined.0, joined.0.faulty, joined.0.complete)

pub jobs_done : {S P : Type 0} (starts : S → Start → S → Type 0) (stands : P → PartState → Type 0) (job : Job) (summary : Summary) (before after : S)
    (old new : Option (List ℕ)) (outcome : Result ℕ Fault) → outcome ≡ check_outcome summary
    → (torrent : Metainfo) × (found : List FileFinding) × HasText job.source.is_info torrent
    × IsCheckByParts starts stands job torrent found summary before after × Appends old new (report_text found)
    → IfOk outcome (Writes (IsJoinedResult job.source job.dir.now) old new)
jobs_done starts stands job summary before after old new outcome is r =
    let sums = by_parts starts stands job r.0 r.1 summary before after r.3 in
    subst (λ o. IfOk o (Writes (IsJoinedResult job.source job.dir.now) old new)) (sym is)
    (outcome_written summary.faulty summary.complete (Writes (IsJoinedResult job.source job.dir.now) old new) (λ sound. record {
      text = report_text r.1;
      written = r.4;
      is = record {
        torrent = r.0;
        loaded = r.2;
        found = r.1;
        summary = summary;
        report = sums.0;
        sound = sym sums.1 ∙ sound;
        lines = refl;
        answer = ap (λ b. if b then 0 else 1) sums.2;
      };
    }))

pub performed : (words : List Text) (task : Task) (given left old new : Option (List ℕ)) (r : Result ℕ Fault) → IsTaskOf words task
    → IfOk r (IsDone task given left old new) → IfErr r (IsTaskEnd task old new) → IsRun words given left old new (status_after r)
performed words task given left old new (Ok status) asked written ended = task_result task asked written
performed words task given left old new (Err fault) asked written ended = task_end task fault asked ended refl

pub made : (request : MakeTask) (new : NewTorrent) (old now : Option (List ℕ)) (told : NewTorrent)
    → IsMakeTorrent request.name.now request.piece_length new → told ≡ new → Appends old now (infohash_line told.infohash)
    → Writes (IsMakeResult request) old now 0
made request new old now told is same put = record {
  text = infohash_line told.infohash;
  written = put;
  is = record { new = new; made = is; line = ap (λ (t : NewTorrent). infohash_line t.infohash) same; answer = refl };
}

pub start_on_words : (given left rest old new ran : Option (List ℕ)) (status run_status exit : ℕ) (words : List Text) → left ≡ rest → new ≡ ran
    → status ≡ run_status → exit ≡ status → IsRun words given rest old ran run_status → IsStart given left old new exit
start_on_words given left rest old new ran status run_status exit words unread same is exits run =
    on_words words (rw (unread, same, exits, is) run)

pub start_without_words : (given left old new : Option (List ℕ)) (status told exit : ℕ) (fault : Fault) → new ≡ old → status ≡ told → exit ≡ status
    → told ≡ status_of fault → (fault ≡ words_fault) ⊎ (fault ≡ out_of_memory) → IsStart given left old new exit
start_without_words given left old new status told exit fault same is exits code cause =
    no_words fault cause (exits ∙ is ∙ code) (subst (Keeps old) (sym same) (Keeps-refl old))
