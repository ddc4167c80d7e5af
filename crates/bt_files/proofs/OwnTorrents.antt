-- That two paths are one file is told where it is so, or where one of them is that of the torrent itself.
use Rattle.std.proofs.Common.{◌≡◌, ◌≢◌, inl, inr, ℕ, Bool, List, Option, Some, None, sym, ◌∙◌}
use Rattle.std.specs.Borrow.{Bor}
use Rattle.bt_folder.specs.Lookup.{Tells}
use Rattle.bt_folder.specs.declared.known_files.KnownFiles.{KnownFiles}
use Rattle.bt_meta.specs.Torrent.{Metainfo}
use Rattle.bt_meta.specs.declared.error.MetaError.{MetaError}
use Rattle.bt_meta.specs.declared.error.MetaError.TheVariants.{OutOfMemory as no_memory}
use Rattle.bt_resume.specs.declared.error.LogError.{LogError}
use Rattle.bt_resume.specs.declared.error.LogError.TheVariants.{OtherTorrent as of_another, TooLong, Device as NoDevice, OutOfMemory as NoMemory}
use Rattle.bt_check.specs.Fault.{same_file, torrent_fault}
use Rattle.bt_check.specs.TorrentFile.{HasText, IsLoadFault}
use Rattle.bt_check.specs.declared.fault.Fault.{Fault}
use Rattle.bt_check.specs.declared.fault.Fault.TheVariants.{Torrent, SameFile, LogAmongFiles, OtherTorrent, LogTooLong, Device, OutOfMemory}
use Rattle.bt_log_file.specs.Attaching.{log_fault}
use Rattle.bt_files.specs.Loading.{IsStoreFault}
use Rattle.bt_files.specs.OpenFolder.{IsCallFault}
use Rattle.bt_files.specs.OwnTorrent.{HasOneFileTwice, IsSourceFault}
use Rattle.bt_files.specs.Store.{IsOpenFault}
use Rattle.bt_files.specs.StoreLog.{IsLogFaultAt}
use Rattle.bt_files.specs.declared.file_use.FileUse.{FileUse}
use Rattle.bt_files.proofs.Faults.{while_loading}

-- a fault as the torrent's own file is looked at is one of loading
pub while_looking : (tells : Tells) (is_info : Bool) (usage : FileUse) (torrent : Metainfo) (log : Option (Bor (List ℕ))) (dir path : List ℕ) (fault : Fault)
    → HasText is_info torrent → IsSourceFault tells usage dir torrent.files path fault → IsStoreFault is_info usage log fault
while_looking tells is_info usage torrent log dir path fault read (inl among) =
    inr (inl (among.0, among.1, inr (record { torrent = torrent; read = read })))
while_looking tells is_info usage torrent log dir path fault read (inr short) = while_loading is_info usage log fault (inr short)

-- ---- other faults

call_not_same : (fault : Fault) → IsCallFault fault → fault ≢ same_file
call_not_same fault (inl failed) same = let bad : Device ≡ SameFile = sym failed ∙ same in cc
call_not_same fault (inr short) same = let bad : OutOfMemory ≡ SameFile = sym short ∙ same in cc

torrent_not_same : (refusal : MetaError) → torrent_fault refusal ≢ same_file
torrent_not_same no_memory same = let bad : OutOfMemory ≡ SameFile = same in cc
torrent_not_same refusal same = let bad : Torrent refusal ≡ SameFile = same in cc

log_not_same : (cause : LogError) → log_fault cause ≢ same_file
log_not_same of_another same = let bad : OtherTorrent ≡ SameFile = same in cc
log_not_same TooLong same = let bad : LogTooLong ≡ SameFile = same in cc
log_not_same NoDevice same = let bad : Device ≡ SameFile = same in cc
log_not_same NoMemory same = let bad : OutOfMemory ≡ SameFile = same in cc

among_not_same : (fault : Fault) → fault ≡ LogAmongFiles → fault ≢ same_file
among_not_same fault among same = let bad : LogAmongFiles ≡ SameFile = sym among ∙ same in cc

attach_not_same : (known : KnownFiles) (torrent : Metainfo) (log : Option (Bor (List ℕ))) (fault : Fault) → IsLogFaultAt known torrent log fault
    → fault ≢ same_file
attach_not_same known torrent None fault at same = absurd at
attach_not_same known torrent (Some path) fault (identity, inl call) same = call_not_same fault call same
attach_not_same known torrent (Some path) fault (identity, inr (inl among)) same = among_not_same fault among.0 same
attach_not_same known torrent (Some path) fault (identity, inr (inr attach)) same = log_not_same attach.cause (sym attach.told ∙ same)

-- ---- where it is told

module _ (tells : Tells) (is_info : Bool) (dir path : List ℕ) (fault : Fault) where
  pub twice_read : IsLoadFault is_info fault → fault ≡ same_file → HasOneFileTwice tells dir path is_info
  twice_read (inl failed) same = absurd (call_not_same fault (inl failed) same)
  twice_read (inr (inl short)) same = absurd (call_not_same fault (inr short) same)
  twice_read (inr (inr text)) same = absurd (torrent_not_same text.refused.refusal (sym text.refused.told ∙ same))

  pub twice_looked : (usage : FileUse) (torrent : Metainfo) → HasText is_info torrent → IsSourceFault tells usage dir torrent.files path fault
      → fault ≡ same_file → HasOneFileTwice tells dir path is_info
  twice_looked usage torrent read (inl among) same = record { torrent = torrent; read = read; same = inr among.2 }
  twice_looked usage torrent read (inr short) same = absurd (call_not_same fault (inr short) same)

  pub twice_opened : (usage : FileUse) (torrent : Metainfo) (log : Option (Bor (List ℕ))) → HasText is_info torrent
      → IsOpenFault usage torrent log fault → fault ≡ same_file → HasOneFileTwice tells dir path is_info
  twice_opened usage torrent log read (inl (some, inl among)) same = absurd (among_not_same fault among same)
  twice_opened usage torrent log read (inl (some, inr short)) same = absurd (call_not_same fault (inr short) same)
  twice_opened usage torrent log read (inr (inl (inl call))) same = absurd (call_not_same fault call same)
  twice_opened usage torrent log read (inr (inl (inr two))) same = record { torrent = torrent; read = read; same = inl two.1.1 }
  twice_opened usage torrent log read (inr (inr attach)) same = absurd (attach_not_same attach.0 torrent log fault attach.2 same)
