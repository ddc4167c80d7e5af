-- A complete file on an honest device is the published one.
use Rattle.bt_machine.proofs.Base.{◌≡◌, length, take, sym, ap, ◌∙◌, file_root, AdoptMarksByBytes, RootsTellFiles, LayersAreSound, RootsAreSound, KeepsRooted, File, Facts}
use Rattle.bt_machine.proofs.Machine.{Digest, Begins, bare, with_log, BeginsOn, bare_on, with_log_on, HasFile, IsPublished, CompleteFilesArePublished}
use Rattle.bt_machine.proofs.Lists.{same_some}
use Rattle.bt_machine.proofs.Rooted.{run_rooted}
use Rattle.bt_machine.proofs.Shape.{shape_kept}
use Rattle.bt_machine.proofs.Sound.{start_sound, run_sound, complete_stands}
use Rattle.bt_machine.proofs.View.{without_devices}
use Rattle.bt_disk.specs.Conduct.{Conduct}

module _ {D : Type 0} (conduct : Conduct D) (dig : Digest) where
  begins_of : {torrent given log first : _} → BeginsOn conduct dig torrent given log first → Begins dig torrent first.state
  begins_of (bare_on no_log starts disks none) = bare starts
  begins_of (with_log_on l calls is same starts have log_is) = with_log l.hints calls starts

  published : RootsTellFiles dig → {file : File} {k : Facts} {bytes : _} → k.file_length ≡ file.length → k.root ≡ file.root → HasFile dig k bytes
      → IsPublished dig file bytes
  published tell {file} {bytes} size root has =
      let all : length (take file.length bytes) ≡ file.length = cc in
      let own : file_root dig (take file.length bytes) ≡ file.root = cc in
      record {
        all = all;
        root = own;
        same = λ other other_size other_root. tell (take file.length bytes) other (cc) (cc);
      }

  pub files_published : AdoptMarksByBytes dig → KeepsRooted dig → LayersAreSound dig → RootsAreSound dig → RootsTellFiles dig → CompleteFilesArePublished conduct dig
  files_published marks keeps layers roots tell torrent given log first last events calls answers after number file d lawful starts run complete there honest_now =
      let begins = begins_of starts in
      let plain = without_devices conduct dig first.state last first.disks after events calls answers run in
      let rooted = run_rooted dig keeps layers roots last events calls answers lawful begins plain in
      let sound = run_sound conduct dig marks first.state last events calls answers first.disks after run (start_sound conduct dig torrent given log first starts) in
      let shaped = (shape_kept dig torrent first.state last events calls answers begins plain).0 in
      let own = (shaped.each number file complete.state complete.listed complete.here).has_tree complete.some in
      let is : own.0 ≡ complete.tree = same_some own.1 complete.has_tree in
      let root = ap (λ (k : Facts). k.root) (sym is) ∙ own.2 in
      let size = ap (λ (k : Facts). k.file_length) (sym is) ∙ own.3 in
      published tell size root
      (complete_stands conduct dig last after number complete.state complete.tree d rooted sound (record { here = complete.here; has_tree = complete.has_tree }) (rw size complete.some)
      (λ i lt. complete.marked i (rw (← size) lt)) there honest_now)
