-- The data files of a part.
use Rattle.std.proofs.Common.{◌≡◌, ℕ, ◌+◌, ◌<◌, List, [], ◌∷◌, ◌++◌, length, map, take, get_or, refl, sym, ap, ◌∙◌, subst, arith}
use Rattle.std.specs.List.{All, AllZip, range_with_len}
use Rattle.std.proofs.lemmas.List.{map-append, map_more, take_more}
use Rattle.std.proofs.lemmas.List.Elements.{All-cons, All-head, All-nil, All-push, All-tail}
use Rattle.bt_check.proofs.RightBlocks.{ranges_joined}
use Rattle.bt_disk.specs.Pool.{PooledView}
use Rattle.bt_meta.specs.Files.{File, file_of}
use Rattle.bt_meta.specs.declared.torrent.FileEntry.{FileEntry}
use Rattle.bt_check.specs.EntryCheck.{IsCheckable}
use Rattle.bt_parts.specs.declared.cut.Part.{Part}
use Rattle.bt_parts.specs.declared.cut.Share.{Share}
use Rattle.bt_jobs.specs.Part.{IsPartAt}
use Rattle.bt_jobs.specs.Plan.{AreShares, IsCutOf, IsShareOf, total_of}
use Rattle.bt_jobs.specs.Trees.{IsReadyPart, file_in_part, part_at}
use Rattle.bt_jobs.specs.declared.trees.FilePart.{FilePart}
use Rattle.bt_jobs.specs.declared.trees.PartFile.{PartFile}
use Rattle.bt_jobs.proofs.Plans.{IsReadyShare, are_ready, zip_length}

-- one data file more
pub parts_pushed : {D X : Type 0} (f : FilePart → X) (files : List (PartFile D)) (one : PartFile D)
    → map f (map part_at (files ++ one ∷ [])) ≡ map f (map part_at files) ++ f (part_at one) ∷ []
parts_pushed f files one = ap (map f) (map-append part_at files (one ∷ [])) ∙ map-append f (map part_at files) (part_at one ∷ [])

-- The first data files are those of the first entries.
pub record AreOpened (dir : List ℕ) (entries : List FileEntry) (shares : List Share) (count : ℕ) (files : List (PartFile PooledView)) : Type 0 where
  pub are_files : map file_in_part (map part_at files) ≡ map file_of (take count entries)
  pub numbers : map (λ (p : FilePart). p.number) (map part_at files) ≡ range_with_len 0 count
  pub are_shares : map (λ (p : FilePart). p.share) (map part_at files) ≡ take count shares
  pub paths : All (IsPartAt dir) files

pub opened_begun : (dir : List ℕ) (entries : List FileEntry) (shares : List Share) (files : List (PartFile PooledView)) → files ≡ []
    → AreOpened dir entries shares 0 files
opened_begun dir entries shares files none =
    subst (AreOpened dir entries shares 0) (sym none) (record { are_files = refl; numbers = refl; are_shares = refl; paths = All-nil (IsPartAt dir) })

pub opened_more : (dir : List ℕ) (entries : List FileEntry) (shares : List Share) (count : ℕ) (files : List (PartFile PooledView)) (one : PartFile PooledView)
    (entry : FileEntry) (d : Share) → AreOpened dir entries shares count files → count < length entries → count < length shares
    → entry ≡ get_or entries count entry → file_in_part (part_at one) ≡ file_of entry → (part_at one).number ≡ count
    → (part_at one).share ≡ get_or shares count d → IsPartAt dir one → AreOpened dir entries shares (count + 1) (files ++ one ∷ [])
opened_more dir entries shares count files one entry d o inside also entry_is file number own there = record {
  are_files = parts_pushed file_in_part files one ∙ ap (λ l. l ++ file_in_part (part_at one) ∷ []) o.are_files
      ∙ ap (λ f. map file_of (take count entries) ++ f ∷ []) (file ∙ ap file_of entry_is) ∙ sym (map_more file_of entries count entry inside);
  numbers = parts_pushed (λ (p : FilePart). p.number) files one ∙ ap (λ l. l ++ (part_at one).number ∷ []) o.numbers
      ∙ ap (λ n. range_with_len 0 count ++ n ∷ []) number ∙ ranges_joined 0 count 1 count (omega arith);
  are_shares = parts_pushed (λ (p : FilePart). p.share) files one ∙ ap (λ l. l ++ (part_at one).share ∷ []) o.are_shares
      ∙ ap (λ s. take count shares ++ s ∷ []) own ∙ sym (take_more shares count d also);
  paths = All-push (IsPartAt dir) files one o.paths there;
}

-- files that can be checked, with shares that begin with a piece
parts_are_ready : (layer : ℕ) (parts : List FilePart) → AllZip (IsReadyShare layer) (map file_in_part parts) (map (λ (p : FilePart). p.share) parts)
    → All (IsCheckable layer) (map file_in_part parts) → All (IsReadyPart layer) parts
parts_are_ready layer [] ready checkable = All-nil (IsReadyPart layer)
parts_are_ready layer (part ∷ parts) ready checkable =
    All-cons (IsReadyPart layer) part parts
    (record {
      checkable = All-head (IsCheckable layer) (file_in_part part) (map file_in_part parts) checkable;
      forward = ready.0.forward;
      inside = ready.0.inside;
      edge = ready.0.edge;
    })
    (parts_are_ready layer parts ready.1 (All-tail (IsCheckable layer) (file_in_part part) (map file_in_part parts) checkable))

-- as those that were opened are
pub parts_ready : (layer : ℕ) (part : Part) (files : List File) (shares : List Share) (parts : List FilePart) → AreShares layer part files shares
    → map file_in_part parts ≡ files → map (λ (p : FilePart). p.share) parts ≡ shares → All (IsCheckable layer) files → All (IsReadyPart layer) parts
parts_ready layer part files shares parts are same own checkable =
    parts_are_ready layer parts
    (subst (λ l. AllZip (IsReadyShare layer) l (map (λ (p : FilePart). p.share) parts)) (sym same)
    (subst (AllZip (IsReadyShare layer) files) (sym own) (are_ready layer part files shares are)))
    (subst (All (IsCheckable layer)) (sym same) checkable)

-- there is a share for each file
pub shares_each : (layer : ℕ) (part : Part) (files : List File) (shares : List Share) → AreShares layer part files shares → length shares ≡ length files
shares_each layer part files shares are =
    sym (zip_length (IsCutOf layer files) files are.cuts are.are_cut ∙ zip_length (IsShareOf (total_of files) part) are.cuts shares are.each)
