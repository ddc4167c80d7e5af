-- A log that is full ends no task but one with a log.
use Rattle.std.proofs.Common.{◌≡◌, ◌≢◌, ◌⊎◌, ℕ, Bool, List, Option, None, Result, Ok, Err, IfErr, inl, inr, refl, sym, subst}
use Rattle.std.specs.Borrow.{Bor}
use Rattle.std.specs.Io.KnownBytes.{Keeps}
use Rattle.bt_meta.specs.declared.writer.MakeError.{MakeError}
use Rattle.bt_meta.specs.declared.writer.MakeError.TheVariants.{BadPath, PieceLength, OutOfMemory as no_memory_to_make}
use Rattle.bt_check.specs.Fault.{log_full, make_fault, status_of}
use Rattle.bt_check.specs.declared.fault.Fault.{Fault}
use Rattle.bt_check.specs.declared.fault.Fault.TheVariants.{Words, OutAmongFiles, Torrent, Make, SameFile, LogAmongFiles, OtherTorrent, LogTooLong, LogFull, Device, OutOfMemory}
use Rattle.bt_files.specs.Loading.{IsLogFull, IsStoreFault}
use Rattle.bt_files.specs.declared.file_use.FileUse.{FileUse}
use Rattle.bt_files.specs.declared.file_use.FileUse.TheVariants.{Fetch as for_fetch}
use Rattle.bt_make.specs.Command.{IsFilesFault, IsMakeFault, Paths}
use Rattle.bt_transfer.proofs.EndFaults.{load_not_full, store_not_full}
use Rattle.bt_transfer.specs.FullLog.{HasFilledLog}
use Rattle.bt_transfer.specs.Seed.{seed_use}
use Rattle.bt_words.specs.declared.command_line.Task.{Task}
use Rattle.bt_words.specs.declared.command_line.Task.TheVariants.{Make as make, Show, Check, Seed, Fetch, Replay}
use Rattle.bt_commands.specs.Program.{IsStoreEnd, IsTaskEnd, IsTaskFault, task_log}

-- it is told apart from all other faults
pub is_full : (fault : Fault) → (fault ≡ log_full) ⊎ (fault ≢ log_full)
is_full LogFull = inl refl
is_full Words = inr (λ is. let bad : Words ≡ LogFull = is in cc)
is_full OutAmongFiles = inr (λ is. let bad : OutAmongFiles ≡ LogFull = is in cc)
is_full (Torrent refusal) = inr (λ is. let bad : Torrent refusal ≡ LogFull = is in cc)
is_full (Make refusal) = inr (λ is. let bad : Make refusal ≡ LogFull = is in cc)
is_full SameFile = inr (λ is. let bad : SameFile ≡ LogFull = is in cc)
is_full LogAmongFiles = inr (λ is. let bad : LogAmongFiles ≡ LogFull = is in cc)
is_full OtherTorrent = inr (λ is. let bad : OtherTorrent ≡ LogFull = is in cc)
is_full LogTooLong = inr (λ is. let bad : LogTooLong ≡ LogFull = is in cc)
is_full Device = inr (λ is. let bad : Device ≡ LogFull = is in cc)
is_full OutOfMemory = inr (λ is. let bad : OutOfMemory ≡ LogFull = is in cc)

-- ---- what a folder has

no_make_fault : (refusal : MakeError) → ¬ (make_fault refusal ≡ LogFull)
no_make_fault no_memory_to_make is = let bad : OutOfMemory ≡ LogFull = is in cc
no_make_fault refusal is = let bad : Make refusal ≡ LogFull = is in cc

not_a_device : ¬ (LogFull ≡ Device)
not_a_device is = let bad : LogFull ≡ Device = is in cc

not_memory : ¬ (LogFull ≡ OutOfMemory)
not_memory is = let bad : LogFull ≡ OutOfMemory = is in cc

no_files_fault : (paths : Paths) (name : List ℕ) (piece_length : ℕ) → IsFilesFault paths name piece_length log_full → ⊥
no_files_fault paths name piece_length (inl (inl at_device)) = not_a_device at_device
no_files_fault paths name piece_length (inl (inr (inl short))) = not_memory short
no_files_fault paths name piece_length (inl (inr (inr counted))) = no_make_fault counted.cause (sym counted.is)
no_files_fault paths name piece_length (inr made) = no_make_fault made.cause (sym made.is)

no_folder_fault : (name : List ℕ) (piece_length : ℕ) → IsMakeFault name piece_length log_full → ⊥
no_folder_fault name piece_length (inl unlawful) = no_make_fault PieceLength (sym unlawful.0)
no_folder_fault name piece_length (inr (inl (inl at_device))) = not_a_device at_device
no_folder_fault name piece_length (inr (inl (inr (inl short)))) = not_memory short
no_folder_fault name piece_length (inr (inl (inr (inr path)))) = no_make_fault BadPath (sym path)
no_folder_fault name piece_length (inr (inr (inl among))) = let bad : LogFull ≡ OutAmongFiles = among in cc
no_folder_fault name piece_length (inr (inr (inr files))) = no_files_fault files.0 name piece_length files.1

-- ---- a task

-- a task that it ends has one
pub has_log : (task : Task) → IsTaskFault task log_full → task_log task ≢ None
has_log (make request) cause = absurd (no_folder_fault request.name.now request.piece_length cause.cause)
has_log (Show task) cause = absurd (load_not_full task.torrent.is_info log_full cause refl)
has_log (Check task) cause = absurd (load_not_full task.torrent.is_info log_full cause refl)
has_log (Seed task) (inl loading) =
    absurd (store_not_full task.torrent.is_info (seed_use task.service.is_read_only) task.log log_full loading refl)
has_log (Seed task) (inr full) = full.0.0
has_log (Fetch task) (inl loading) = absurd (store_not_full task.torrent.is_info for_fetch task.log log_full loading refl)
has_log (Fetch task) (inr full) = full.0.0
has_log Replay cause = absurd cause

-- a store's task ends as its command says
pub store_ended : (is_info : Bool) (usage : FileUse) (dir : List ℕ) (log : Option (Bor (List ℕ))) (r : Result ℕ Fault)
    → IfErr r (λ fault. IsStoreFault is_info usage log fault ⊎ IsLogFull log fault)
    → IfErr r (λ fault. fault ≡ log_full → HasFilledLog is_info usage dir log) → IfErr r (IsStoreEnd is_info usage dir log)
store_ended is_info usage dir log (Ok status) ends filled = tt
store_ended is_info usage dir log (Err fault) (inl unopened) filled = inl unopened
store_ended is_info usage dir log (Err fault) (inr full) filled = inr (full, filled full.1)

-- what a command with a log says of a refusal is that only by a full log something may have been written
pub task_ended : {T : Type 0} (r : Result T Fault) (task : Task) (old new : Option (List ℕ)) → IfErr r (IsTaskFault task)
    → IfErr r (λ fault. status_of fault ≡ 2 → fault ≢ log_full → Keeps old new) → IfErr r (IsTaskEnd task old new)
task_ended (Ok x) task old new cause refused = tt
task_ended (Err fault) task old new cause refused = record {
  cause = cause;
  refused = λ two other. refused two (λ full. other (has_log task (subst (IsTaskFault task) full cause), full));
}
