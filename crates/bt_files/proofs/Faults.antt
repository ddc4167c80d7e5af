-- What is said of a fault that is passed on.
use Rattle.std.proofs.Common.{◌≡◌, ◌≢◌, ◌⊎◌, inl, inr, ℕ, Bool, List, Option, Some, None, Result, Ok, Err, IfOk, IfErr, sym, subst, ap, ◌∙◌}
use Rattle.std.specs.Borrow.{Bor}
use Rattle.std.specs.Prelude.{IsErrAnd, OnOk}
use Rattle.bt_meta.specs.Torrent.{Metainfo}
use Rattle.bt_resume.specs.ResumeLog.{LogView}
use Rattle.bt_resume.specs.declared.error.LogError.{LogError}
use Rattle.bt_resume.specs.declared.error.LogError.TheVariants.{OtherTorrent, TooLong, Device as NoDevice, OutOfMemory as NoMemory}
use Rattle.bt_check.specs.Fault.{device, log_full, out_of_memory, status_of}
use Rattle.bt_check.specs.TorrentFile.{HasText}
use Rattle.bt_log_file.specs.Attaching.{log_fault}
use Rattle.bt_folder.specs.declared.known_files.KnownFiles.{KnownFiles}
use Rattle.bt_files.specs.Ending.{IsEndFault}
use Rattle.bt_files.specs.Loading.{IsStoreFault}
use Rattle.bt_files.specs.OpenFolder.{IsOpeningFault}
use Rattle.bt_files.specs.Store.{IsOpenFault}
use Rattle.bt_files.specs.StoreLog.{IsLogFaultAt}
use Rattle.bt_files.specs.declared.file_use.FileUse.{FileUse}
use Rattle.bt_check.specs.declared.fault.Fault.{Fault}

pub some_path : (path : Bor (List ℕ)) → Some path ≢ None
some_path path none = cc

-- what follows from all that is known of a result that is passed on
pub ok_weaker : {T E : Type 0} (r : Result T E) (P Q : T → Type 0) → ((x : T) → P x → Q x) → IfOk r P → IfOk r Q
ok_weaker (Ok x) P Q follows holds = follows x holds
ok_weaker (Err e) P Q follows holds = tt

pub on_ok_weaker : {T E : Type 0} (r : Result T E) (P Q : Type 0) → (P → Q) → OnOk r P → OnOk r Q
on_ok_weaker (Ok x) P Q follows holds = follows holds
on_ok_weaker (Err e) P Q follows holds = tt

pub err_weaker : {T E : Type 0} (r : Result T E) (P Q : E → Type 0) → ((e : E) → P e → Q e) → IfErr r P → IfErr r Q
err_weaker (Ok x) P Q follows holds = tt
err_weaker (Err e) P Q follows holds = follows e holds

-- what holds of a fault holds where it is passed on
pub passed_on : {T : Type 0} (r : Result T Fault) (fault : Fault) (P : Fault → Type 0) → IsErrAnd r (λ told. told ≡ fault) → P fault → IfErr r P
passed_on (Ok x) fault P told holds = tt
passed_on (Err it) fault P told holds = subst P (sym told) holds

-- a device's fault, and want of memory, are no refusal
pub not_refused : (fault : Fault) → (fault ≡ device) ⊎ (fault ≡ out_of_memory) → status_of fault ≡ 2 → ⊥
not_refused fault (inl at_device) two = let bad : 3 ≡ 2 = ap status_of (sym at_device) ∙ two in cc
not_refused fault (inr short) two = let bad : 4 ≡ 2 = ap status_of (sym short) ∙ two in cc

-- nor is what ends a flush or a report, but for a full log
pub end_not_refused : {D : Type 0} (log : Option (LogView D)) (fault : Fault) → IsEndFault log fault → status_of fault ≡ 2 → fault ≢ log_full → ⊥
end_not_refused log fault (inl (inl failed)) two other = not_refused fault (inl failed) two
end_not_refused log fault (inl (inr full)) two other = other full.0
end_not_refused log fault (inr short) two other = not_refused fault (inr short) two

-- both may end it
pub call_ends : {D : Type 0} (log : Option (LogView D)) (fault : Fault) → (fault ≡ device) ⊎ (fault ≡ out_of_memory) → IsEndFault log fault
call_ends log fault (inl failed) = inl (inl failed)
call_ends log fault (inr short) = inr short

-- and each may come as a torrent is loaded
pub while_loading : (is_info : Bool) (usage : FileUse) (log : Option (Bor (List ℕ))) (fault : Fault) → (fault ≡ device) ⊎ (fault ≡ out_of_memory)
    → IsStoreFault is_info usage log fault
while_loading is_info usage log fault (inl at_device) = inl (inl at_device)
while_loading is_info usage log fault (inr short) = inl (inr (inl short))

-- as its files are opened, and before
while_files : (is_info : Bool) (usage : FileUse) (torrent : Metainfo) (log : Option (Bor (List ℕ))) (fault : Fault) → HasText is_info torrent
    → IsOpeningFault usage torrent.files fault → IsStoreFault is_info usage log fault
while_files is_info usage torrent log fault read (inl call) = while_loading is_info usage log fault call
while_files is_info usage torrent log fault read (inr same) =
    inr (inl (same.0, same.1.0, inl (record { torrent = torrent; read = read; same = same.1.1 })))

-- as its log is read
while_reading : (is_info : Bool) (usage : FileUse) (log : Option (Bor (List ℕ))) (cause : LogError) (fault : Fault) → log ≢ None → fault ≡ log_fault cause
    → IsStoreFault is_info usage log fault
while_reading is_info usage log OtherTorrent fault some told = inr (inr (some, inr (inl told)))
while_reading is_info usage log TooLong fault some told = inr (inr (some, inr (inr told)))
while_reading is_info usage log NoDevice fault some told = while_loading is_info usage log fault (inl told)
while_reading is_info usage log NoMemory fault some told = while_loading is_info usage log fault (inr told)

-- as it is opened
while_attaching : (is_info : Bool) (usage : FileUse) (known : KnownFiles) (torrent : Metainfo) (log : Option (Bor (List ℕ))) (fault : Fault)
    → IsLogFaultAt known torrent log fault → IsStoreFault is_info usage log fault
while_attaching is_info usage known torrent None fault at = absurd at
while_attaching is_info usage known torrent (Some path) fault (identity, inl call) = while_loading is_info usage (Some path) fault call
while_attaching is_info usage known torrent (Some path) fault (identity, inr (inl among)) = inr (inr (some_path path, inl among.0))
while_attaching is_info usage known torrent (Some path) fault (identity, inr (inr attach)) =
    while_reading is_info usage (Some path) attach.cause fault (some_path path) attach.told

pub while_opening : (is_info : Bool) (usage : FileUse) (torrent : Metainfo) (log : Option (Bor (List ℕ))) → HasText is_info torrent → (fault : Fault)
    → IsOpenFault usage torrent log fault → IsStoreFault is_info usage log fault
while_opening is_info usage torrent log read fault (inl (some, inl among)) = inr (inr (some, inl among))
while_opening is_info usage torrent log read fault (inl (some, inr short)) = while_loading is_info usage log fault (inr short)
while_opening is_info usage torrent log read fault (inr (inl files)) = while_files is_info usage torrent log fault read files
while_opening is_info usage torrent log read fault (inr (inr attach)) = while_attaching is_info usage attach.0 torrent log fault attach.2
