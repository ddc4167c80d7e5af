-- A part tells of its files, one after the other.
use Rattle.std.proofs.Common.{◌≡◌, ℕ, ◌*◌, ◌^◌, List, [], ◌∷◌, ◌++◌, Option, length, map, refl, sym, ap, ◌∙◌, subst, append-nil, append_assoc}
use Rattle.std.specs.List.{All, range_with_len}
use Rattle.std.specs.Io.KnownBytes.{Appends}
use Rattle.std.proofs.KnownBytes.{Appends-nil, Appends-trans}
use Rattle.std.proofs.lemmas.Grind.{flat_map-append}
use Rattle.std.proofs.lemmas.List.Elements.{All-cons, All-head, All-nil, All-tail}
use Rattle.bt_tree.specs.Blocks.{block_count}
use Rattle.bt_tree.specs.Limits.{full_block_length}
use Rattle.bt_disk.specs.Conduct.{Conduct}
use Rattle.bt_disk.specs.Pool.{PooledView}
use Rattle.bt_meta.specs.Files.{File}
use Rattle.bt_meta.specs.Torrent.{Metainfo}
use Rattle.bt_check.specs.Check.{CheckedFile}
use Rattle.bt_check.specs.declared.trees.SharedTrees.{SharedTrees}
use Rattle.bt_parts.specs.Line.{run_line}
use Rattle.bt_parts.specs.declared.cut.Part.{Part}
use Rattle.bt_parts.specs.declared.run.Run.{Run}
use Rattle.bt_jobs.specs.Part.{IsPartAt, IsPartReport}
use Rattle.bt_disk.specs.Pool.{pooled_conduct}
use Rattle.bt_jobs.specs.Plan.{AreShares}
use Rattle.bt_jobs.specs.Share.{runs_text}
use Rattle.bt_jobs.specs.Trees.{AreRunsOf, ArePartFindings, none, more, GoByRoots, IsPartFinding, IsReadyPart, file_in_part, part_at}
use Rattle.bt_jobs.specs.TreesSteps.{ChecksNext, IsNextPart, KeepsParts}
use Rattle.bt_jobs.specs.declared.trees.FilePart.{FilePart}
use Rattle.bt_jobs.specs.declared.trees.PartFile.{PartFile}

-- the files of a torrent that some data files are for
abbrev pub files_in : {D : Type 0} → List (PartFile D) → List File
files_in opened = map file_in_part (map part_at opened)

module _ {D : Type 0} (conduct : Conduct D) (layer : ℕ) (layer_at : ℕ → List ℕ → List ℕ) where
  -- Some files are told, and these are left.
  pub record IsPartTelling (all left : List (PartFile D)) (trees : SharedTrees) (old new : Option (List ℕ)) : Type 0 where
    pub done : List (PartFile D)
    pub runs : List Run
    pub checked : List CheckedFile
    pub parted : all ≡ done ++ left
    pub ready : All (IsReadyPart layer) (map part_at left)
    pub roots : GoByRoots layer_at (files_in left)
    pub found : ArePartFindings conduct layer [] done runs checked
    pub keeps : KeepsParts layer layer_at checked (files_in left) trees
    pub lines : Appends old new (runs_text runs)

  pub telling_begun : (all : List (PartFile D)) (trees : SharedTrees) (old : Option (List ℕ)) → All (IsReadyPart layer) (map part_at all)
      → GoByRoots layer_at (files_in all) → KeepsParts layer layer_at [] (files_in all) trees → IsPartTelling all all trees old old
  telling_begun all trees old ready roots keeps = record {
    done = [];
    runs = [];
    checked = [];
    parted = refl;
    ready = ready;
    roots = roots;
    found = none [];
    keeps = keeps;
    lines = Appends-nil old;
  }

  -- the first of the files that are left
  module _ (one : PartFile D) (left : List (PartFile D)) where
    pub first_ready : All (IsReadyPart layer) (map part_at (one ∷ left)) → IsReadyPart layer one.part
    first_ready all = All-head (IsReadyPart layer) one.part (map part_at left) all

    first_root : GoByRoots layer_at (files_in (one ∷ left)) → GoByRoots layer_at (file_in_part one.part ∷ [])
    first_root all =
        All-cons (λ (f : File). f.layer ≡ layer_at f.length f.root) (file_in_part one.part) []
        (All-head (λ (f : File). f.layer ≡ layer_at f.length f.root) (file_in_part one.part) (files_in left) all)
        (All-nil (λ (f : File). f.layer ≡ layer_at f.length f.root))

  pub first_next : (all before left : List (PartFile D)) (one : PartFile D) (trees : SharedTrees) (old new : Option (List ℕ))
      → IsPartTelling all before trees old new → before ≡ one ∷ left → IsNextPart layer one.part trees
  first_next all before left one trees old new t taken = (
    layer_at,
    t.checked,
    files_in left,
    subst (λ l. KeepsParts layer layer_at t.checked (files_in l) trees) taken t.keeps,
    first_root one left (subst (λ l. GoByRoots layer_at (files_in l)) taken t.roots),
  )

  -- one more
  found_more : (before mid after : List CheckedFile) (done : List (PartFile D)) (one : PartFile D) (runs others : List Run)
      → ArePartFindings conduct layer before done runs mid
      → AreRunsOf one.part.number (block_count (file_in_part one.part).length) one.part.share others
      → IsPartFinding conduct layer mid (file_in_part one.part) one.part.share others one.disk after
      → ArePartFindings conduct layer before (done ++ one ∷ []) (runs ++ others) after
  found_more _ _ after _ one _ others (none before) of is =
      subst (λ l. ArePartFindings conduct layer before (one ∷ []) l after) (append-nil others) (more before after after one [] others [] of is (none after))
  found_more _ _ after _ one _ others (more before next mid first rest runs later own finding are) of is =
      subst (λ l. ArePartFindings conduct layer before (first ∷ rest ++ one ∷ []) l after) (sym (append_assoc runs later others))
      (more before next after first (rest ++ one ∷ []) runs (later ++ others) own finding (found_more next mid after rest one later others are of is))

  pub telling_more : (all before left : List (PartFile D)) (one : PartFile D) (trees grown : SharedTrees) (old mid new : Option (List ℕ))
      → IsPartTelling all before trees old mid → before ≡ one ∷ left → ChecksNext conduct layer one trees grown mid new
      → IsPartTelling all left grown old new
  telling_more all before left one trees grown old mid new t taken checks =
      let roots_left : GoByRoots layer_at (files_in (one ∷ left)) = subst (λ l. GoByRoots layer_at (files_in l)) taken t.roots in
      let made = checks layer_at t.checked (files_in left) (subst (λ l. KeepsParts layer layer_at t.checked (files_in l) trees) taken t.keeps)
      (first_root one left roots_left) in
      let ready : All (IsReadyPart layer) (map part_at (one ∷ left)) = subst (λ l. All (IsReadyPart layer) (map part_at l)) taken t.ready in
      record {
        done = t.done ++ one ∷ [];
        runs = t.runs ++ made.0;
        checked = made.1;
        parted = t.parted ∙ ap (λ l. t.done ++ l) taken ∙ sym (append_assoc t.done (one ∷ []) left);
        ready = All-tail (IsReadyPart layer) one.part (map part_at left) ready;
        roots = All-tail (λ (f : File). f.layer ≡ layer_at f.length f.root) (file_in_part one.part) (files_in left) roots_left;
        found = found_more [] t.checked made.1 t.done one t.runs made.0 t.found made.2 made.3;
        keeps = made.4;
        lines = subst (Appends old new) (sym (flat_map-append run_line t.runs made.0)) (Appends-trans old mid new _ _ t.lines made.5);
      }

  pub all_told : (all : List (PartFile D)) (trees : SharedTrees) (old new : Option (List ℕ)) → IsPartTelling all [] trees old new
      → (runs : List Run) × (checked : List CheckedFile) × ArePartFindings conduct layer [] all runs checked × Appends old new (runs_text runs)
  all_told all trees old new t = (
    t.runs,
    t.checked,
    subst (λ l. ArePartFindings conduct layer [] l t.runs t.checked) (sym (t.parted ∙ append-nil t.done)) t.found,
    t.lines,
  )

-- the report of a part
pub part_report : (dir : List ℕ) (torrent : Metainfo) (part : Part) (layer bytes : ℕ) (files : List File) (opened : List (PartFile PooledView))
    (old new : Option (List ℕ)) → torrent.piece_length ≡ bytes → bytes ≡ full_block_length * 2 ^ layer → files ≡ torrent.files → files_in opened ≡ files
    → map (λ (p : FilePart). p.number) (map part_at opened) ≡ range_with_len 0 (length files)
    → AreShares layer part files (map (λ (p : FilePart). p.share) (map part_at opened)) → All (IsPartAt dir) opened
    → (runs : List Run) × (checked : List CheckedFile) × ArePartFindings pooled_conduct layer [] opened runs checked
    × Appends old new (runs_text runs)
    → (runs : List Run) × IsPartReport dir torrent part runs × Appends old new (runs_text runs)
part_report dir torrent part layer bytes files opened old new length_is size same are numbers shares paths told = (
  told.0,
  record {
    layer = layer;
    pieces = length_is ∙ size;
    opened = opened;
    files = are ∙ same;
    numbers = numbers ∙ ap (λ (l : List File). range_with_len 0 (length l)) same;
    shares = subst (λ l. AreShares layer part l (map (λ (p : FilePart). p.share) (map part_at opened))) same shares;
    paths = paths;
    checked = told.1;
    found = told.2;
  },
  told.3,
)
