-- Devices whose bytes begin with a log are opened as one.
use Rattle.std.proofs.Common.{◌≡◌, ℕ, List, [], length, ap, arith}
use Rattle.std.proofs.lemmas.List.{length-take}
use Rattle.bt_disk.specs.Conduct.{Conduct}
use Rattle.bt_resume.specs.LogText.{LogText, text_length}
use Rattle.bt_resume.specs.ResumeLog.{read, other_torrent, too_long, no_memory, no_length, no_header, unread, opened, unmeasured, made, unwritten, unsynced}
use Rattle.bt_resume.specs.Law.{KeepsText, KeptDevicesAreRead, KeptDevicesOpen}
use Rattle.bt_resume.proofs.Texts.{log_size}
use Rattle.bt_resume.proofs.Sequences.{kept_logs_open}

-- bytes that begin with a text are some
pub not_empty : (infohash bytes : List ℕ) (text : LogText) → length infohash ≡ 32 → KeepsText infohash text bytes → bytes ≡ [] → ⊥
not_empty infohash bytes text size keeps none =
    omega (arith, ap length keeps.begins, log_size infohash text size, length-take (text_length text) bytes, ap length none)

module _ {D : Type 0} (conduct : Conduct D) where
  pub kept_devices_are_read : KeptDevicesAreRead conduct
  kept_devices_are_read infohash old _ _ text size lawful h keeps (read all new calls is within of) = (kept_logs_open infohash _ text size lawful keeps).1 all (of h)
  kept_devices_are_read infohash old _ _ text size lawful h keeps (other_torrent new calls of) =
      let head = (kept_logs_open infohash _ text size lawful keeps).0 in of h head.0 head.1
  kept_devices_are_read infohash old _ _ text size lawful h keeps (too_long new calls of) = omega (arith, keeps.within, (of h).1)
  kept_devices_are_read infohash old _ _ text size lawful h keeps (no_memory new calls of) = tt
  kept_devices_are_read infohash old _ _ text size lawful h keeps (no_length new calls) = tt
  kept_devices_are_read infohash old _ _ text size lawful h keeps (no_header new calls) = tt
  kept_devices_are_read infohash old _ _ text size lawful h keeps (unread new at wanted calls of) = tt

  pub kept_devices_open : KeptDevicesOpen conduct
  kept_devices_open infohash old new result text size lawful h keeps (opened _ _ of reads) =
      kept_devices_are_read infohash old new result text size lawful h keeps reads
  kept_devices_open infohash old _ _ text size lawful h keeps (unmeasured new calls) = tt
  kept_devices_open infohash old _ _ text size lawful h keeps (made new none calls) = absurd (not_empty infohash _ text size keeps (none h))
  kept_devices_open infohash old _ _ text size lawful h keeps (unwritten new none calls) = tt
  kept_devices_open infohash old _ _ text size lawful h keeps (unsynced new none calls) = tt
