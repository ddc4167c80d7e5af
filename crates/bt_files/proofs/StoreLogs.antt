-- Lemmas on the log that a store is opened with.
use Rattle.std.proofs.Common.{◌≡◌, ℕ, List, Option, Some, None, refl, ap}
use Rattle.std.specs.Borrow.{Bor}
use Rattle.std.specs.Prelude.{IfSome}
use Rattle.bt_folder.specs.Lookup.{Tells}
use Rattle.bt_folder.specs.declared.known_files.KnownFiles.{KnownFiles}
use Rattle.bt_meta.specs.Files.{File}
use Rattle.bt_meta.specs.Torrent.{Metainfo}
use Rattle.bt_resume.specs.ResumeLog.{LogView}
use Rattle.bt_check.specs.declared.fault.Fault.{Fault}
use Rattle.bt_log_file.specs.Device.{LogDiskView}
use Rattle.bt_log_file.proofs.LogFaults.{look_alone}
use Rattle.bt_files.specs.StoreLog.{IsLogAt, IsLookFault, IsLookFaultBy}
use Rattle.bt_files.proofs.Faults.{some_path}

-- it is one of the torrent
pub log_is_own : (before : KnownFiles) (torrent : Metainfo) (path : Option (Bor (List ℕ))) (after : KnownFiles)
    (log : Option (LogView LogDiskView)) → IsLogAt before torrent path after log → IfSome log (λ l. l.infohash ≡ torrent.infohash)
log_is_own before torrent None after None at = tt
log_is_own before torrent (Some path) after (Some log) at = ap (λ (l : LogView LogDiskView). l.infohash) at.is_log.log_is
log_is_own before torrent None after (Some log) at = absurd at
log_is_own before torrent (Some path) after None at = tt

-- where no path is given there is none
pub no_log_at : (before : KnownFiles) (torrent : Metainfo) (path : Option (Bor (List ℕ))) (after : KnownFiles)
    (log : Option (LogView LogDiskView)) → IsLogAt before torrent path after log → path ≡ None → log ≡ None
no_log_at before torrent None after None at none = refl
no_log_at before torrent None after (Some log) at none = absurd at
no_log_at before torrent (Some path) after log at none = absurd cc

-- what a look shows, where nothing is known of what was told
pub by_look : (tells : Tells) (dir : List ℕ) (files : List File) (log : Option (Bor (List ℕ))) (fault : Fault) → IsLookFaultBy tells dir files log fault
    → IsLookFault log fault
by_look tells dir files None fault is = absurd is
by_look tells dir files (Some path) fault is = (some_path path, look_alone tells dir files path.now fault is)
