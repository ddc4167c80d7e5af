-- Lemmas on the devices of a torrent's files, file by file.
use Rattle.std.proofs.Common.{◌≡◌, ◌≢◌, ℕ, suc, ◌+◌, ◌<◌, true, false, Bool, List, [], ◌∷◌, ◌++◌, length, map, take, get_or, nat_lt, Option, Some, None, refl, sym, ap, subst, ◌∙◌, add-zero, append-nil, length-append, arith}
use Rattle.std.specs.Borrow.{Bor}
use Rattle.std.specs.List.{AllZip, enumerate_from}
use Rattle.std.proofs.lemmas.Bool.{lt-ltb}
use Rattle.std.proofs.lemmas.List.{length-map, map-append, take_more}
use Rattle.std.proofs.lemmas.List.Elements.{filter-append}
use Rattle.std.proofs.lemmas.List.FromFn.{length-enumerate_from}
use Rattle.std.proofs.lemmas.List.Sums.{length-filter}
use Rattle.std.proofs.lemmas.Slice.Zip.{AllZip-long}
use Rattle.bt_meta.specs.Files.{File, file_of}
use Rattle.bt_meta.specs.declared.torrent.FileEntry.{FileEntry}
use Rattle.bt_machine.specs.Start.{device_count}
use Rattle.bt_check.specs.Paths.{path_below}
use Rattle.bt_files.specs.DataFiles.{AreFilled, AreNewDevices, DeviceView, IsNewDevice, device_paths, files_with_bytes}
use Rattle.bt_files.specs.DataFilesSteps.{IsOpenedFor, IsPushed}
use Rattle.bt_files.specs.FileUse.{is_read_only, use_with}
use Rattle.bt_files.specs.declared.file_use.FileUse.{FileUse}
use Rattle.bt_files.specs.declared.file_use.FileUse.TheVariants.{Fetch, Seed, SeedByLog, ReadOnly}

pub enumerate_from-append : {X : Type 0} (n : ℕ) (xs ys : List X)
    → enumerate_from n (xs ++ ys) ≡ enumerate_from n xs ++ enumerate_from (n + length xs) ys
enumerate_from-append n [] ys = ap (λ k. enumerate_from k ys) (sym (add-zero n))
enumerate_from-append n (x ∷ xs) ys =
    let on : (n + 1) + length xs ≡ n + suc (length xs) = omega arith in
    ap (λ l. (n, x) ∷ l) (enumerate_from-append (n + 1) xs ys ∙ ap (λ k. enumerate_from (n + 1) xs ++ enumerate_from k ys) on)

-- the paths of some files, and of one more
paths_more : (dir : List ℕ) (files : List File) (file : File)
    → device_paths dir (files ++ file ∷ []) ≡ device_paths dir files ++ device_paths dir (file ∷ [])
paths_more dir files file =
    ap (map (λ f. path_below dir f.path)) (filter-append (λ f. nat_lt 0 f.length) files (file ∷ []))
    ∙ map-append (λ f. path_below dir f.path) (files_with_bytes files) (files_with_bytes (file ∷ []))

-- ---- one item more on either side

pub all_zip_push : {A B : Type 0} (R : A → B → Type 0) (xs : List A) (ys : List B) (x : A) (y : B) → AllZip R xs ys → R x y
    → AllZip R (xs ++ x ∷ []) (ys ++ y ∷ [])
all_zip_push R [] [] x y all more = (more, tt)
all_zip_push R [] (y1 ∷ ys) x y all more = absurd all
all_zip_push R (x1 ∷ xs) [] x y all more = absurd all
all_zip_push R (x1 ∷ xs) (y1 ∷ ys) x y all more = (all.0, all_zip_push R xs ys x y all.1 more)

-- what is numbered, with its paths
abbrev numbered : List ℕ → List File → List (ℕ × List ℕ)
numbered dir files = enumerate_from 1 (device_paths dir files)

numbered_more : (dir : List ℕ) (files : List File) (file : File) (paths : List (List ℕ)) → device_paths dir (file ∷ []) ≡ paths
    → numbered dir (files ++ file ∷ []) ≡ numbered dir files ++ enumerate_from (1 + length (device_paths dir files)) paths
numbered_more dir files file paths are =
    ap (enumerate_from 1) (paths_more dir files file ∙ ap (λ ps. device_paths dir files ++ ps) are)
    ∙ enumerate_from-append 1 (device_paths dir files) paths

-- there are as many devices as paths
length-devices : (usage : FileUse) (dir : List ℕ) (files : List File) (disks : List DeviceView) → AreNewDevices usage dir files disks
    → length disks ≡ length (device_paths dir files)
length-devices usage dir files disks are =
    AllZip-long _ (numbered dir files) disks are ∙ length-enumerate_from 1 (device_paths dir files)

-- an empty file has no device
pub empty_has_none : (usage : FileUse) (dir : List ℕ) (files : List File) (file : File) (disks : List DeviceView) → file.length ≡ 0
    → AreNewDevices usage dir files disks → AreNewDevices usage dir (files ++ file ∷ []) disks
empty_has_none usage dir files file disks empty are =
    let none : device_paths dir (file ∷ []) ≡ [] = rw empty refl in
    subst (λ ps. AllZip (λ (p : ℕ × List ℕ) disk. IsNewDevice usage p.0 p.1 disk) ps disks)
    (sym (numbered_more dir files file [] none ∙ append-nil (numbered dir files))) are

-- another has the next
pub next_device : (usage : FileUse) (dir : List ℕ) (files : List File) (file : File) (disks : List DeviceView) (disk : DeviceView) (number : ℕ)
    → nat_lt 0 file.length ≡ true → number ≡ suc (length disks) → AreNewDevices usage dir files disks
    → IsNewDevice usage number (path_below dir file.path) disk
    → AreNewDevices usage dir (files ++ file ∷ []) (disks ++ disk ∷ [])
next_device usage dir files file disks disk number some next are new =
    let one : device_paths dir (file ∷ []) ≡ path_below dir file.path ∷ [] = rw some refl in
    let same : number ≡ 1 + length (device_paths dir files) = (let l = length-devices usage dir files disks are in omega (arith, l, next)) in
    let place : ℕ × List ℕ = (1 + length (device_paths dir files), path_below dir file.path) in
    subst (λ ps. AllZip (λ (p : ℕ × List ℕ) disk. IsNewDevice usage p.0 p.1 disk) ps (disks ++ disk ∷ []))
    (sym (numbered_more dir files file (path_below dir file.path ∷ []) one))
    (all_zip_push (λ (p : ℕ × List ℕ) disk. IsNewDevice usage p.0 p.1 disk) (numbered dir files) disks place disk are
    (subst (λ n. IsNewDevice usage n (path_below dir file.path) disk) same new))

-- there is a device for each file that has a byte
pub device_count_is : (usage : FileUse) (dir : List ℕ) (files : List File) (disks : List DeviceView) → AreNewDevices usage dir files disks
    → length disks ≡ device_count files
device_count_is usage dir files disks are =
    length-devices usage dir files disks are ∙ length-map (files_with_bytes files) (λ f. path_below dir f.path)
    ∙ length-filter (λ f. nat_lt 0 f.length) files

-- ---- entries in turn

files_more : (entries : List FileEntry) (i : ℕ) (entry : FileEntry) → i < length entries → entry ≡ get_or entries i entry
    → map file_of (take (i + 1) entries) ≡ map file_of (take i entries) ++ file_of entry ∷ []
files_more entries i entry lt at =
    ap (map file_of) (take_more entries i entry lt) ∙ map-append file_of (take i entries) (get_or entries i entry ∷ [])
    ∙ ap (λ e. map file_of (take i entries) ++ file_of e ∷ []) (sym at)

zero_below : (n : ℕ) → n ≢ 0 → nat_lt 0 n ≡ true
zero_below n some = lt-ltb 0 n (omega (arith, some))

-- what is known of the entries so far, the devices that they have and how many a pool made
pub record AreOpened (usage : FileUse) (dir : List ℕ) (entries : List FileEntry) (count : ℕ) (disks : List DeviceView) (filled : List Bool) (total : ℕ)
    : Type 0 where
  pub devices : AreNewDevices usage dir (map file_of (take count entries)) disks
  pub made : total ≡ length disks
  pub each : length filled ≡ count
  pub are_filled : AreFilled (map file_of (take count entries)) filled

-- An entry was passed: an empty one has no device, and that of another was put after those before.
devices_more : (usage : FileUse) (dir : List ℕ) (files : List File) (file : File) (disks after : List DeviceView) (made now : ℕ) (found : Option DeviceView)
    → AreNewDevices usage dir files disks → made ≡ length disks → IsOpenedFor usage dir file made found now → IsPushed disks found after
    → AreNewDevices usage dir (files ++ file ∷ []) after × (now ≡ length after)
devices_more usage dir files file disks after made now None are all opened same = (
  subst (AreNewDevices usage dir (files ++ file ∷ [])) (sym same) (empty_has_none usage dir files file disks opened.0 are),
  opened.1 ∙ all ∙ ap length (sym same),
)
devices_more usage dir files file disks after made now (Some disk) are all opened pushed =
    let next : now ≡ made + 1 = opened.1 in
    let last : now ≡ suc (length disks) = omega (arith, next, all) in
    let longer : length (disks ++ disk ∷ []) ≡ length disks + 1 = length-append disks (disk ∷ []) in (
      subst (AreNewDevices usage dir (files ++ file ∷ [])) (sym pushed)
          (next_device usage dir files file disks disk now (zero_below file.length opened.0) last are opened.2),
      next ∙ ap (λ n. n + 1) all ∙ sym longer ∙ ap length (sym pushed),
    )

pub opened_more : (usage : FileUse) (dir : List ℕ) (entries : List FileEntry) (i : ℕ) (entry : FileEntry) (disks after : List DeviceView)
    (filled more : List Bool) (is_filled : Bool) (made now : ℕ) (found : Option DeviceView)
    → i < length entries → entry ≡ get_or entries i entry
    → AreOpened usage dir entries i disks filled made → IsOpenedFor usage dir (file_of entry) made found now → IsPushed disks found after
    → more ≡ filled ++ is_filled ∷ [] → (entry.length ≡ 0 → is_filled ≡ false) → AreOpened usage dir entries (i + 1) after more now
opened_more usage dir entries i entry disks after filled more is_filled made now found lt at before opened pushed flagged empty =
    let known = devices_more usage dir (map file_of (take i entries)) (file_of entry) disks after made now found before.devices before.made opened pushed in
    record {
      devices = subst (λ files. AreNewDevices usage dir files after) (sym (files_more entries i entry lt at)) known.0;
      made = known.1;
      each = ap length flagged ∙ length-append filled (is_filled ∷ []) ∙ ap (λ n. n + 1) before.each;
      are_filled = subst (λ files. AreFilled files more) (sym (files_more entries i entry lt at))
          (subst (AreFilled (map file_of (take i entries) ++ file_of entry ∷ [])) (sym flagged)
          (all_zip_push (λ (file : File) (is : Bool). file.length ≡ 0 → is ≡ false) (map file_of (take i entries)) filled (file_of entry) is_filled
          before.are_filled empty));
    }

-- a log changes nothing of whether files are only read
pub same_reading : (usage : FileUse) (log : Option (Bor (List ℕ))) → is_read_only (use_with usage log) ≡ is_read_only usage
same_reading Fetch log = refl
same_reading Seed None = refl
same_reading Seed (Some path) = refl
same_reading SeedByLog log = refl
same_reading ReadOnly log = refl
