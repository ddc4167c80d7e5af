-- What ends a fetch or a seed behind its store's opening, as its caller is told it.
use Rattle.std.proofs.Common.{◌≡◌, ◌≢◌, ◌⊎◌, inl, inr, ℕ, Bool, List, Option, Result, Err, IfErr, sym, subst, ◌∙◌}
use Rattle.std.specs.Borrow.{Bor}
use Rattle.bt_meta.specs.declared.error.MetaError.{MetaError}
use Rattle.bt_meta.specs.declared.error.MetaError.TheVariants.{OutOfMemory as no_memory}
use Rattle.bt_check.specs.Fault.{log_full, torrent_fault}
use Rattle.bt_check.specs.TorrentFile.{IsLoadFault}
use Rattle.bt_check.specs.declared.fault.Fault.{Fault}
use Rattle.bt_check.specs.declared.fault.Fault.TheVariants.{Torrent, SameFile, LogAmongFiles, OtherTorrent, LogTooLong, LogFull, Device, OutOfMemory}
use Rattle.bt_machine.specs.State.{EngineView}
use Rattle.bt_files.specs.DataFiles.{DeviceView}
use Rattle.bt_files.specs.Ending.{IsEndFault}
use Rattle.bt_files.specs.Loading.{IsLoaded, IsLogFull, IsLogRefusal, IsStoreFault}
use Rattle.bt_files.specs.OpenFolder.{IsCallFault}
use Rattle.bt_files.specs.declared.file_use.FileUse.{FileUse}
use Rattle.bt_files.proofs.Faults.{while_loading}
use Rattle.bt_files.proofs.StoreLogs.{no_log_at}

-- what is known of a result is known of the fault that it has
pub of_fault : {T : Type 0} (r : Result T Fault) (fault : Fault) (P : Fault → Type 0) → r ≡ Err fault → IfErr r P → P fault
of_fault r fault P is holds = subst (λ x. IfErr x P) is holds

-- as the store is opened
pub at_opening : (is_info : Bool) (usage used : FileUse) (log : Option (Bor (List ℕ))) (fault : Fault) → used ≡ usage → IsStoreFault is_info used log fault
    → IsStoreFault is_info usage log fault ⊎ IsLogFull log fault
at_opening is_info usage used log fault is holds = inl (subst (λ u. IsStoreFault is_info u log fault) is holds)

-- where no path is given there is no log, so it is full only where one was asked for
pub told_at_end : (is_info : Bool) (usage : FileUse) (dir : List ℕ) (log : Option (Bor (List ℕ))) (store : EngineView DeviceView)
    → IsLoaded is_info usage dir log store → (fault : Fault) → IsEndFault store.log fault → IsStoreFault is_info usage log fault ⊎ IsLogFull log fault
told_at_end is_info usage dir log store loaded fault (inl (inl failed)) = inl (while_loading is_info usage log fault (inl failed))
told_at_end is_info usage dir log store loaded fault (inl (inr full)) = inr (
  λ none. full.1 (loaded.opened.begun.unlogged
      (no_log_at loaded.opened.known loaded.torrent log loaded.opened.after loaded.opened.attached loaded.opened.of_log none)),
  full.0,
)
told_at_end is_info usage dir log store loaded fault (inr short) = inl (while_loading is_info usage log fault (inr short))

-- ---- a full log is another fault

pub call_not_full : (fault : Fault) → IsCallFault fault → fault ≢ log_full
call_not_full fault (inl failed) full = let bad : Device ≡ LogFull = sym failed ∙ full in cc
call_not_full fault (inr short) full = let bad : OutOfMemory ≡ LogFull = sym short ∙ full in cc

torrent_not_full : (refusal : MetaError) → torrent_fault refusal ≢ log_full
torrent_not_full no_memory full = let bad : OutOfMemory ≡ LogFull = full in cc
torrent_not_full refusal full = let bad : Torrent refusal ≡ LogFull = full in cc

pub load_not_full : (is_info : Bool) (fault : Fault) → IsLoadFault is_info fault → fault ≢ log_full
load_not_full is_info fault (inl failed) full = call_not_full fault (inl failed) full
load_not_full is_info fault (inr (inl short)) full = call_not_full fault (inr short) full
load_not_full is_info fault (inr (inr text)) full = torrent_not_full text.refused.refusal (sym text.refused.told ∙ full)

refusal_not_full : (fault : Fault) → IsLogRefusal fault → fault ≢ log_full
refusal_not_full fault (inl among) full = let bad : LogAmongFiles ≡ LogFull = sym among ∙ full in cc
refusal_not_full fault (inr (inl other)) full = let bad : OtherTorrent ≡ LogFull = sym other ∙ full in cc
refusal_not_full fault (inr (inr long)) full = let bad : LogTooLong ≡ LogFull = sym long ∙ full in cc

pub store_not_full : (is_info : Bool) (usage : FileUse) (log : Option (Bor (List ℕ))) (fault : Fault) → IsStoreFault is_info usage log fault
    → fault ≢ log_full
store_not_full is_info usage log fault (inl load) full = load_not_full is_info fault load full
store_not_full is_info usage log fault (inr (inl same)) full = let bad : SameFile ≡ LogFull = sym same.0 ∙ full in cc
store_not_full is_info usage log fault (inr (inr refused)) full = refusal_not_full fault refused.1 full
