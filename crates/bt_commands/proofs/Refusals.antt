-- With status 2 nothing was written, but by a script, or where a log was full.
use Rattle.std.proofs.Common.{◌≡◌, ◌≢◌, ℕ, Bool, true, false, List, Option, inl, inr, refl, sym, subst, ◌∙◌, arith}
use Rattle.std.specs.Borrow.{Bor}
use Rattle.std.specs.Prelude.{◌⊎◌, if◌then◌else◌}
use Rattle.std.specs.Io.KnownBytes.{Keeps}
use Rattle.std.proofs.lemmas.Bool.Decides.{eqb_tells}
use Rattle.clap.specs.Words.{Text}
use Rattle.clap.specs.declared.error.kind.ErrorKind.{ErrorKind}
use Rattle.clap.specs.declared.error.kind.ErrorKind.TheVariants.{DisplayHelp, DisplayVersion, OutOfMemory}
use Rattle.bt_check.specs.Fault.{log_full, status_of}
use Rattle.bt_check.specs.declared.fault.Fault.{Fault}
use Rattle.bt_check.specs.declared.torrent_file.Source.{Source}
use Rattle.bt_transfer.specs.Fetch.{IsFetch}
use Rattle.bt_words.specs.CommandLine.{IsTaskOf}
use Rattle.bt_words.specs.declared.command_line.SeedTask.{SeedTask}
use Rattle.bt_words.specs.declared.command_line.Work.{Work}
use Rattle.bt_words.specs.declared.command_line.Work.TheVariants.{Jobs, Part}
use Rattle.bt_words.specs.declared.command_line.Task.{Task}
use Rattle.bt_words.specs.declared.command_line.Task.TheVariants.{Make, Show, Check, Seed, Fetch, Replay}
use Rattle.bt_words.specs.declared.peer.Peer.{Peer}
use Rattle.bt_commands.specs.Program.{FillsLog, IsDone, IsExplanation, IsRun, IsSeedResult, IsTaskEnd, IsTaskFault, IsWorkResult, no_task, task_end, task_result}
use Rattle.bt_commands.proofs.FullLog.{has_log, is_full}

-- ---- a task that was done

none_of_both : (b : Bool) (status : ℕ) → status ≡ (if b then 0 else 1) → ¬ (status ≡ 2)
none_of_both true status is two = omega (arith, is, two)
none_of_both false status is two = omega (arith, is, two)

worked : (source : Source) (dir : List ℕ) (work : Work) (status : ℕ) (text : List ℕ) → IsWorkResult source dir work status text → ¬ (status ≡ 2)
worked source dir (Jobs n) status text it two = elim (eqb_tells n 1) [
  | inl one ↦ none_of_both _ status (it.0 one.1).answer two
  | inr more ↦ none_of_both _ status (it.1 more.1).answer two
]
worked source dir (Part part) status text it two = omega (arith, it.answer, two)

seeded : (task : SeedTask) (old new : Option (List ℕ)) (status : ℕ) → IsSeedResult task old new status → ¬ (status ≡ 2)
seeded task old new status (inl served) two = omega (arith, served.ended.done, two)
seeded task old new status (inr lacking) two = omega (arith, lacking.answer, two)

fetched : (is_info : Bool) (dir : List ℕ) (are_together : Bool) (peers : List Peer) (log : Option (Bor (List ℕ))) (old new : Option (List ℕ))
    (status : ℕ) → IsFetch is_info dir are_together peers log old new status → ¬ (status ≡ 2)
fetched is_info dir false peers log old new status it two = none_of_both _ status it.ended.fetched.fetched.end.told two
fetched is_info dir true peers log old new status it two = none_of_both _ status it.ended.fetched.end.told two

-- but for a script its status is another one
done : (task : Task) (given left old new : Option (List ℕ)) (status : ℕ) → IsDone task given left old new status → task ≢ Replay → ¬ (status ≡ 2)
done (Make request) given left old new status it other two = omega (arith, it.is.answer, two)
done (Show task) given left old new status it other two = omega (arith, it.is.answer, two)
done (Check task) given left old new status it other two = worked task.torrent task.dir.now task.work status it.text it.is two
done (Seed task) given left old new status it other two = seeded task old new status it two
done (Fetch task) given left old new status it other two =
    fetched task.torrent.is_info task.dir.now task.is_together task.peers.items task.log old new status it two
done Replay given left old new status it other two = other refl

-- ---- one that a fault ended

ended : (words : List Text) (task : Task) (fault : Fault) (old new : Option (List ℕ)) → (fault ≡ log_full) ⊎ (fault ≢ log_full) → IsTaskOf words task
    → IsTaskEnd task old new fault → status_of fault ≡ 2 → Keeps old new ⊎ FillsLog words old new
ended words task fault old new (inl full) asked end two = inr (record {
  task = task;
  asked = asked;
  logged = has_log task (subst (IsTaskFault task) full end.cause);
  ended = subst (IsTaskEnd task old new) full end;
})
ended words task fault old new (inr other) asked end two = inl (end.refused two (λ full. other full.1))

-- ---- words that ask for none

explained : (kind : ErrorKind) (old new : Option (List ℕ)) (status : ℕ) → IsExplanation kind old new status → status ≡ 2 → Keeps old new
explained DisplayHelp old new status (inl printed) two = absurd (omega (arith, printed, two))
explained DisplayHelp old new status (inr failed) two = absurd (omega (arith, failed, two))
explained DisplayVersion old new status (inl printed) two = absurd (omega (arith, printed, two))
explained DisplayVersion old new status (inr failed) two = absurd (omega (arith, failed, two))
explained OutOfMemory old new status it two = it.1
explained kind old new status it two = it.1

-- ---- a run

pub refused : (words : List Text) (given left old new : Option (List ℕ)) (status : ℕ) → IsRun words given left old new status → ¬ IsTaskOf words Replay
    → status ≡ 2 → Keeps old new ⊎ FillsLog words old new
refused words given left old new status (task_result task asked it) other two =
    absurd (done task given left old new status it (λ is. other (subst (IsTaskOf words) is asked)) two)
refused words given left old new status (task_end task fault asked end is) other two =
    ended words task fault old new (is_full fault) asked end (sym is ∙ two)
refused words given left old new status (no_task kind none it) other two = inl (explained kind old new status it two)
