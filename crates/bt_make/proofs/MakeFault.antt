-- Lemmas on what is made of a folder, and why no torrent is made of it.
use Rattle.std.proofs.Common.{◌≡◌, ℕ, inr, List, Result, Ok, Err, IfOk, IfErr, map, refl, subst}
use Rattle.std.specs.List.{All}
use Rattle.bt_meta.specs.GivenFiles.{given_of}
use Rattle.bt_meta.specs.Writer.{IsNotMade}
use Rattle.bt_meta.specs.declared.writer.Made.{Made}
use Rattle.bt_meta.specs.declared.writer.MakeError.{MakeError}
use Rattle.bt_make.specs.Command.{HasContent, IsFilesFault, IsMakeFault, IsMakeTorrent, IsTorrentOf, Paths, paths_of}
use Rattle.bt_check.specs.Fault.{make_fault}
use Rattle.bt_check.specs.declared.fault.Fault.{Fault}
use Rattle.bt_make.specs.declared.new_torrent.NewTorrent.{NewTorrent}

pub files_refused : (paths : Paths) (name : List ℕ) (piece_length layer : ℕ) (files given : List Made) (text : List ℕ) (e : MakeError)
    → paths_of files ≡ paths → All (HasContent layer) files → text ≡ name → given ≡ files → IsNotMade text piece_length (map given_of given) e
    → IsFilesFault paths name piece_length (make_fault e)
files_refused paths name piece_length layer files given text e each digested named are refused = inr (record {
  layer = layer;
  files = files;
  each = each;
  contents = digested;
  cause = e;
  refusal = subst (λ n. IsNotMade n piece_length (map given_of files) e) named
      (subst (λ l. IsNotMade text piece_length (map given_of l) e) are refused);
  is = refl;
})

-- the torrent of some files is the folder's
pub made_of_folder : (r : Result NewTorrent Fault) (paths : Paths) (name text : List ℕ) (size piece_length : ℕ) → text ≡ name → size ≡ piece_length
    → IfOk r (IsTorrentOf paths text size) → IfOk r (IsMakeTorrent name piece_length)
made_of_folder (Ok new) paths name text size piece_length named same made =
    (paths, subst (λ n. IsTorrentOf paths n piece_length new) named (subst (λ s. IsTorrentOf paths text s new) same made))
made_of_folder (Err fault) paths name text size piece_length named same made = made

-- and so is a fault of theirs
pub unmade_of_folder : (r : Result NewTorrent Fault) (paths : Paths) (name text : List ℕ) (size piece_length : ℕ) → text ≡ name → size ≡ piece_length
    → IfErr r (IsFilesFault paths text size) → IfErr r (IsMakeFault name piece_length)
unmade_of_folder (Ok new) paths name text size piece_length named same ended = ended
unmade_of_folder (Err fault) paths name text size piece_length named same ended =
    inr (inr (inr (paths, subst (λ n. IsFilesFault paths n piece_length fault) named (subst (λ s. IsFilesFault paths text s fault) same ended))))
