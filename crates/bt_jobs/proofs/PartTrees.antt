-- Trees that are kept for later files of the same root and length in a part, and what is told of a file.
use Rattle.std.proofs.Common.{◌≡◌, ℕ, ◌-◌, ◌<◌, ◌≤◌, ◌↔◌, ◌⊎◌, ◌||◌, ◌==◌, Bool, true, false, true≢false, cond, List, [], ◌∷◌, ◌++◌, length, map, inl, inr, Option, None, Some, refl, sym, ap, ◌∙◌, subst, arith, IsTrue, append-nil, if◌then◌else◌}
use Rattle.std.specs.Io.KnownBytes.{Appends, Keeps}
use Rattle.std.specs.List.{All, count_by, filter, list_any, range_with_len}
use Rattle.std.proofs.KnownBytes.{Appends-kept, Appends-nil, Appends-trans}
use Rattle.std.proofs.lemmas.Grind.{flat_map-append}
use Rattle.std.proofs.lemmas.List.Elements.{All-cons, All-head, All-nil, All-push, All-tail}
use Rattle.bt_tree.specs.Blocks.{block_count}
use Rattle.bt_tree.specs.TreeShape.{height_of}
use Rattle.bt_disk.specs.Conduct.{Conduct}
use Rattle.bt_disk.specs.Calls.{HasCalls}
use Rattle.bt_disk.proofs.CallLists.{has_none, has_then}
use Rattle.bt_meta.specs.Files.{File}
use Rattle.bt_sparse.specs.SparseTree.{Facts}
use Rattle.bt_sparse.proofs.Values.{none_some}
use Rattle.bt_store.specs.BlockReads.{BlockRead, call_of, fault_count}
use Rattle.bt_check.specs.Check.{CheckedFile, is_twin, twins_layer, layer_before, leaves_before}
use Rattle.bt_check.specs.CheckSteps.{HoldsLeaves, leaves_after}
use Rattle.bt_check.specs.EntryCheck.{is_node_read, len_call_of}
use Rattle.bt_check.specs.Finding.{KnownLayer, digests_in, is_right_block, known_layer}
use Rattle.bt_check.specs.TreeSteps.{Kept, HasTree, KeepsTrees, LetsGo}
use Rattle.bt_check.specs.declared.trees.SharedTrees.{SharedTrees}
use Rattle.bt_check.proofs.KeptTrees.{first_has, next_trees, one_length, one_root}
use Rattle.bt_check.proofs.RightBlocks.{cases_bool}
use Rattle.bt_parts.specs.Join.{IsChain, none, more, IsCountOf}
use Rattle.bt_parts.specs.Line.{run_line}
use Rattle.bt_parts.specs.Run.{is_fault, is_longer}
use Rattle.bt_parts.specs.declared.cut.Share.{Share}
use Rattle.bt_parts.specs.declared.run.Met.{Met}
use Rattle.bt_parts.specs.declared.run.Met.TheVariants.{Absent, Longer, Unmeasured}
use Rattle.bt_parts.specs.declared.run.Run.{Run}
use Rattle.bt_jobs.specs.Share.{ChecksShare, IsPieceEdge, IsReadyAt, IsShareCheck, runs_text, share_reads}
use Rattle.bt_jobs.specs.Trees.{AreRunsOf, GoByRoots, IsPartFinding, absent, blockless, read, IsShareFinding, answers_of, file_in_part, length_calls, share_calls}
use Rattle.bt_jobs.specs.TreesSteps.{AreLengthRuns, asked, unasked, ChecksBlocks, ChecksPart, IsMeasured, KeepsOthers, KeepsParts, KnowsOwn, TellsAbsent, TellsFirst, TellsLength, TellsMissing, missing_run, no_blocks}
use Rattle.bt_jobs.specs.declared.trees.FilePart.{FilePart}

-- ---- twins

-- what a length, a root and a layer tell of a tree
abbrev known_by : ℕ → ℕ → List ℕ → List ℕ → KnownLayer
known_by layer n root own =
    if length own == 0 then record { layer = height_of (block_count n); digests = root ∷ [] } else record { layer = layer; digests = digests_in own }

-- twins of one layer know the same of their tree
known_same : (layer : ℕ) (file other : File) → file.length ≡ other.length → file.root ≡ other.root → file.layer ≡ other.layer
    → known_layer layer file ≡ known_layer layer other
known_same layer file other long root own =
    ap (λ l. known_by layer file.length file.root l) own ∙ ap (λ m. known_by layer m file.root other.layer) long
    ∙ ap (λ r. known_by layer other.length r other.layer) root

pub knows_own : (layer : ℕ) (layer_at : ℕ → List ℕ → List ℕ) (file : File) (before : List CheckedFile)
    → All (λ c. c.file.layer ≡ layer_at c.file.length c.file.root) before → file.layer ≡ layer_at file.length file.root → KnowsOwn layer before file
knows_own layer layer_at file [] by_root own = refl
knows_own layer layer_at file (c ∷ before) by_root own = elim (cases_bool (is_twin file c)) [
  | inl same ↦
      let long = one_length c.file file same in
      let root = one_root c.file file same in
      let told : c.file.layer ≡ layer_at c.file.length c.file.root =
      All-head (λ (c : CheckedFile). c.file.layer ≡ layer_at c.file.length c.file.root) c before by_root in
      let here : c.file.layer ≡ file.layer = told ∙ ap (λ m. layer_at m c.file.root) long ∙ ap (layer_at file.length) root ∙ sym own in
      ap (λ b. twins_layer layer file (cond b (c ∷ filter (is_twin file) before) (filter (is_twin file) before))) same ∙ known_same layer c.file file long root here
  | inr apart ↦
      ap (λ b. twins_layer layer file (cond b (c ∷ filter (is_twin file) before) (filter (is_twin file) before))) apart
      ∙ knows_own layer layer_at file before (All-tail (λ (c : CheckedFile). c.file.layer ≡ layer_at c.file.length c.file.root) c before by_root) own
]

-- ---- a share

-- a share of a file whose length is told by its tree
pub share_at : {D : Type 0} {conduct : Conduct D} {n : ℕ} {known : KnownLayer} {leaves : ℕ → Option (List ℕ)}
    {tree grown : Facts} {file : ℕ} (share : Share) {disk after : D} (old new : Option (List ℕ))
    → ChecksShare conduct tree file share disk after grown old new → HoldsLeaves n known leaves tree → IsPieceEdge known n share.from
    → (reads : List BlockRead) × (runs : List Run) × IsShareCheck n known leaves file share.from share.to reads runs
    × HasCalls conduct disk (map (call_of n) reads) after
    × HoldsLeaves n known (leaves_after leaves (share_reads (block_count n) share.from share.to reads) n known) grown × Appends old new (runs_text runs)
share_at {D} {conduct} {n} {known} {leaves} {tree} {grown} {file} share {disk} {after} old new checks holds edge =
    subst (λ m. HoldsLeaves m known leaves tree → IsPieceEdge known m share.from
    → (reads : List BlockRead) × (runs : List Run) × IsShareCheck m known leaves file share.from share.to reads runs
    × HasCalls conduct disk (map (call_of m) reads) after
    × HoldsLeaves m known (leaves_after leaves (share_reads (block_count m) share.from share.to reads) m known) grown × Appends old new (runs_text runs))
    holds.length_is (checks known leaves) holds edge

-- a share of no block
pub nothing_checked : {D : Type 0} (conduct : Conduct D) (layer : ℕ) (part : FilePart) (disk : D) (kept : Kept)
    (old : Option (List ℕ)) → part.share.from ≤ part.share.to → part.share.to ≤ part.share.from → ChecksBlocks conduct layer part disk kept kept old old
nothing_checked conduct layer part disk kept old forward none_left before has own =
    let share = part.share in
    let file = file_in_part part in
    let same : share.from ≡ share.to = omega (arith, forward, none_left) in
    let no_blocks_left : share.to - share.from ≡ 0 = omega (arith, none_left) in (
      [],
      [],
      disk,
      record {
        each = ap (range_with_len share.from) (sym no_blocks_left);
        own = All-nil (λ (r : Run). r.file ≡ part.number);
        chain = subst (IsChain (block_count file.length) share.from []) same (none share.from);
        counts = All-nil (IsCountOf (is_right_block (is_node_read (share_reads (block_count file.length) share.from share.to []) file.length)
            (layer_before layer before file) (leaves_before layer before file)));
        faults = (λ t. absurd (true≢false (sym t)), λ some. absurd (omega (arith, some)));
        no_length = refl;
      },
      has_none conduct disk,
      λ len. inl (none_left, refl),
      Appends-nil old,
    )

or_false : (b : Bool) → (b || false) ≡ b
or_false true = refl
or_false false = refl

either : (a b : Bool) (P Q : Type 0) → (IsTrue a ↔ P) → (IsTrue b ↔ Q) → IsTrue (a || b) ↔ (P ⊎ Q)
either true b P Q p q = (λ _. inl (p.0 refl), λ _. refl)
either false b P Q p q = (λ t. inr (q.0 t), λ h. elim h [ inl x ↦ absurd (true≢false (sym (p.1 x))) | inr y ↦ q.1 y ])

-- the length was told, and then the blocks
module _ (layer : ℕ) (part : FilePart) (before : List CheckedFile) (len : Option ℕ) (reads : List BlockRead)
    (fits : part.share.from ≤ block_count (file_in_part part).length) where
  abbrev share : Share
  share = part.share

  abbrev file : File
  file = file_in_part part

  abbrev is_right : ℕ → Bool
  is_right =
      is_right_block (is_node_read (share_reads (block_count file.length) share.from share.to reads) file.length) (layer_before layer before file)
      (leaves_before layer before file)

  abbrev IsChecked : List Run → Type 0
  IsChecked runs =
      IsShareCheck file.length (layer_before layer before file) (leaves_before layer before file) part.number share.from share.to reads runs

  runs_joined : (first runs : List Run) → AreLengthRuns part len first → IsChecked runs → AreRunsOf part.number (block_count file.length) share (first ++ runs)
  runs_joined _ runs (asked met is_first measured) is = record {
    own = All-cons (λ (r : Run). r.file ≡ part.number) (no_blocks part met) runs refl is.own;
    chain = more share.from (no_blocks part met) runs share.to refl
        (record { forward = omega arith; inside = fits; few = omega arith }) is.chain;
    told = λ _ none_told. cc;
  }
  runs_joined _ runs (unasked behind) is = record { own = is.own; chain = is.chain; told = λ is_first. absurd (behind is_first) }

  found_joined : (first runs : List Run) → AreLengthRuns part len first → IsChecked runs → IsShareFinding layer before file share len reads (first ++ runs)
  found_joined _ runs (asked met is_first measured) is =
      let none_left : share.from - share.from ≡ 0 = omega arith in
      record {
        each = is.each;
        counts = All-cons (IsCountOf is_right) (no_blocks part met) runs (ap (λ m. count_by is_right (range_with_len share.from m)) (sym none_left)) is.counts;
        longer =
            let all : (is_longer met || list_any (λ (r : Run). is_longer r.met) runs) ≡ is_longer met =
            ap (λ b. is_longer met || b) is.no_length ∙ or_false (is_longer met) in (
              λ t. (is_first, measured.longer.0 (sym all ∙ t)),
              λ h. all ∙ measured.longer.1 h.1,
            );
        faults =
            let both = either (is_fault met) (list_any (λ (r : Run). is_fault r.met) runs) (len ≡ None) (0 < fault_count reads) measured.faulty is.faults in (
              λ t. elim (both.0 t) [ inl unknown ↦ inl (is_first, unknown) | inr some ↦ inr some ],
              λ h. both.1 (elim h [ inl unknown ↦ inl unknown.1 | inr some ↦ inr some ]),
            );
      }
  found_joined _ runs (unasked behind) is = record {
    each = is.each;
    counts = is.counts;
    longer = (λ t. absurd (true≢false (sym t ∙ is.no_length)), λ h. absurd (behind h.0));
    faults = (λ t. inr (is.faults.0 t), λ h. elim h [ inl first ↦ absurd (behind first.0) | inr some ↦ is.faults.1 some ]);
  }

  module _ {D : Type 0} (conduct : Conduct D) (disk last : D)
      (calls : HasCalls conduct disk (share_calls file.length share len reads) last) where
    part_found : (kept grown : Kept) (first runs : List Run) → AreLengthRuns part len first → IsChecked runs
        → KeepsOthers layer before file share (answers_of file.length share len reads) kept grown
        → (after : List CheckedFile) × IsPartFinding conduct layer before file share (first ++ runs) (Some disk) after
        × ((other : File) → HasTree layer before other kept → HasTree layer after other grown)
    part_found kept grown first runs asks is (inl nothing) = (
      before,
      blockless disk last len reads nothing.0 calls (found_joined first runs asks is),
      λ other had. subst (HasTree layer before other) (sym nothing.1) had,
    )
    part_found kept grown first runs asks is (inr keeps) = (
      before ++ record { file = file; answers = answers_of file.length share len reads } ∷ [],
      read disk last len reads calls (found_joined first runs asks is),
      keeps,
    )

pub part_checked : {D : Type 0} (conduct : Conduct D) (layer : ℕ) (part : FilePart) (disk mid : D) (kept grown : Kept)
    (old told new : Option (List ℕ)) → part.share.from ≤ block_count (file_in_part part).length → TellsLength conduct part disk mid old told
    → ChecksBlocks conduct layer part mid kept grown told new → ChecksPart conduct layer part (Some disk) kept grown old new
part_checked conduct layer part disk mid kept grown old told new fits length_told checks before has own =
    let blocks = checks before has own in
    let len = length_told.0 in
    let first = length_told.1 in
    let reads = blocks.0 in
    let runs = blocks.1 in
    let last = blocks.2 in
    let calls = has_then conduct disk mid last (length_calls part.share len) (map (call_of (file_in_part part).length) reads) length_told.3 blocks.4 in
    let found = part_found layer part before len reads fits conduct disk last calls kept grown first runs length_told.2 blocks.3 (blocks.5 len) in (
      first ++ runs,
      found.0,
      runs_joined layer part before len reads fits first runs length_told.2 blocks.3,
      found.1,
      found.2,
      subst (Appends old new) (sym (flat_map-append run_line first runs))
          (Appends-trans old told new (runs_text first) (runs_text runs) length_told.4 blocks.6),
    )

-- a file that is not there was told
pub absent_checked : {D : Type 0} (conduct : Conduct D) (layer : ℕ) (part : FilePart) (kept : Kept)
    (old new : Option (List ℕ)) → TellsAbsent part old new → ChecksPart conduct layer part None kept kept old new
absent_checked conduct layer part kept old new told before has own = (told.0, before, told.1, absent told.2, λ other had. had, told.3)

-- whether there is a device is known
pub part_with : {D : Type 0} (conduct : Conduct D) (layer : ℕ) (part : FilePart) (disk there : Option D) (kept grown : Kept)
    (old new : Option (List ℕ)) → disk ≡ there → ChecksPart conduct layer part there kept grown old new
    → ChecksPart conduct layer part disk kept grown old new
part_with conduct layer part disk there kept grown old new same checks =
    subst (λ o. ChecksPart conduct layer part o kept grown old new) (sym same) checks

-- the tree of a file, of which a share begins with a piece
pub ready_at : {n block : ℕ} {known : KnownLayer} {leaves : ℕ → Option (List ℕ)} {k : Facts} → HoldsLeaves n known leaves k → IsPieceEdge known n block
    → IsReadyAt block k
ready_at {n} {block} {known} {leaves} {k} holds edge = (
  known,
  leaves,
  subst (λ m. HoldsLeaves m known leaves k) (sym holds.length_is) holds,
  subst (λ m. IsPieceEdge known m block) (sym holds.length_is) edge,
)

-- ---- all files

-- of some files none is checked yet
pub parts_begun : (layer : ℕ) (layer_at : ℕ → List ℕ → List ℕ) (files : List File) (trees : SharedTrees) → KeepsTrees layer [] files trees
    → KeepsParts layer layer_at [] files trees
parts_begun layer layer_at files trees keeps = record {
  kept = keeps;
  by_root = All-nil (λ (c : CheckedFile). c.file.layer ≡ layer_at c.file.length c.file.root);
}

-- the layers of the files that were checked go by their lengths and roots
module _ {D : Type 0} (conduct : Conduct D) where
  roots_after : (layer : ℕ) (layer_at : ℕ → List ℕ → List ℕ) (before after : List CheckedFile) (file : File) (share : Share) (runs : List Run) (disk : Option D)
      → IsPartFinding conduct layer before file share runs disk after → file.layer ≡ layer_at file.length file.root
      → All (λ c. c.file.layer ≡ layer_at c.file.length c.file.root) before → All (λ c. c.file.layer ≡ layer_at c.file.length c.file.root) after
  roots_after layer layer_at before _ file share runs _ (absent all) own by_root = by_root
  roots_after layer layer_at before _ file share runs _ (blockless disk last len reads nothing calls found) own by_root = by_root
  roots_after layer layer_at before _ file share runs _ (read disk last len reads calls found) own by_root =
      All-push (λ (c : CheckedFile). c.file.layer ≡ layer_at c.file.length c.file.root) before
      (record { file = file; answers = answers_of file.length share len reads }) by_root own

-- the first of the files that are left
pub first_part : {layer : ℕ} {layer_at : ℕ → List ℕ → List ℕ} {before : List CheckedFile} {file : File} {rest : List File} {trees : SharedTrees}
    → KeepsParts layer layer_at before (file ∷ rest) trees → GoByRoots layer_at (file ∷ []) → HasTree layer before file trees.kept × KnowsOwn layer before file
first_part {layer} {layer_at} {before} {file} {rest} {trees} keeps roots =
    (first_has keeps.kept, knows_own layer layer_at file before keeps.by_root (All-head (λ (f : File). f.layer ≡ layer_at f.length f.root) file [] roots))

-- it was checked
pub next_part : {D : Type 0} (conduct : Conduct D) (layer : ℕ) (layer_at : ℕ → List ℕ → List ℕ)
    (before after : List CheckedFile) (file : File) (share : Share) (runs : List Run) (disk : Option D) (rest : List File) (old mid new : SharedTrees)
    → KeepsParts layer layer_at before (file ∷ rest) old → GoByRoots layer_at (file ∷ []) → mid.last ≡ old.last → mid.left ≡ length rest
    → IsPartFinding conduct layer before file share runs disk after
    → ((other : File) → HasTree layer before other old.kept → HasTree layer after other mid.kept) → LetsGo file mid new
    → KeepsParts layer layer_at after rest new
next_part conduct layer layer_at before after file share runs disk rest old mid new keeps roots last_is left_is found others goes = record {
  kept = next_trees layer before after file rest old mid new keeps.kept last_is left_is others goes;
  by_root = roots_after conduct layer layer_at before after file share runs disk found
      (All-head (λ (f : File). f.layer ≡ layer_at f.length f.root) file [] roots) keeps.by_root;
}

-- ---- what is told of a length, and of no file

pub unmeasured : (n : ℕ) → IsMeasured n None Unmeasured
unmeasured n = record { longer = (λ t. absurd (true≢false (sym t)), λ none. absurd none); faulty = (λ _. refl, λ _. refl) }

pub too_long : (n len : ℕ) → n < len → IsMeasured n (Some len) Longer
too_long n len beyond = record { longer = (λ _. beyond, λ _. refl); faulty = (λ t. absurd (true≢false (sym t)), λ none. absurd (none_some len (sym none))) }

-- the length was not asked for, or it was
module _ {D : Type 0} (conduct : Conduct D) (part : FilePart) where
  pub length_unasked : (disk : D) (old : Option (List ℕ)) → part.share.is_first ≡ false → TellsLength conduct part disk disk old old
  length_unasked disk old behind = (
    None,
    [],
    unasked (λ t. absurd (true≢false (sym t ∙ behind))),
    subst (λ calls. HasCalls conduct disk calls disk) (sym (ap (λ b. if b then len_call_of None ∷ [] else []) behind)) (has_none conduct disk),
    Appends-nil old,
  )

  pub length_asked : (disk after : D) (len : Option ℕ) (met : Met) (old new : Option (List ℕ)) → part.share.is_first ≡ true
      → IsMeasured (file_in_part part).length len met → HasCalls conduct disk (len_call_of len ∷ []) after
      → Appends old new (run_line (no_blocks part met)) → TellsLength conduct part disk after old new
  length_asked disk after len met old new is_first measured calls put = (
    len,
    no_blocks part met ∷ [],
    asked met is_first measured,
    subst (λ calls. HasCalls conduct disk calls after) (sym (ap (λ b. if b then len_call_of len ∷ [] else []) is_first)) calls,
    subst (Appends old new) (sym (append-nil (run_line (no_blocks part met)))) put,
  )

-- what is kept grows by nothing
Keeps-appends : (old new : Option (List ℕ)) → Keeps old new → Appends old new []
Keeps-appends None new keeps = tt
Keeps-appends (Some x) None keeps = absurd keeps
Keeps-appends (Some x) (Some y) keeps = keeps ∙ sym (append-nil x)

pub absent_told : (part : FilePart) (old mid new : Option (List ℕ)) → part.share.from ≤ part.share.to → part.share.to ≤ block_count (file_in_part part).length
    → TellsFirst part old mid → TellsMissing part mid new → TellsAbsent part old new
absent_told part old mid new forward inside (inl first) (inl nothing) =
    let run = no_blocks part Absent in (
      run ∷ [],
      record {
        own = All-cons (λ (r : Run). r.file ≡ part.number) run [] refl (All-nil (λ (r : Run). r.file ≡ part.number));
        chain = subst (IsChain (block_count (file_in_part part).length) part.share.from (run ∷ [])) nothing.0
            (more part.share.from run [] part.share.from refl (record { forward = omega arith; inside = omega (arith, forward, inside); few = omega arith })
            (none part.share.from));
        told = λ _ e. cc;
      },
      All-cons (λ (r : Run). (r.marked ≡ 0) × (r.met ≡ Absent)) run [] (refl, refl) (All-nil (λ (r : Run). (r.marked ≡ 0) × (r.met ≡ Absent))),
      Appends-kept old mid new (runs_text (run ∷ [])) (subst (Appends old mid) (sym (append-nil (run_line run))) first.1) nothing.1,
    )
absent_told part old mid new forward inside (inl first) (inr missing) =
    let run = no_blocks part Absent in
    let rest = missing_run part in
    let few : 0 ≤ part.share.to - part.share.from = omega arith in (
      run ∷ rest ∷ [],
      record {
        own = All-cons (λ (r : Run). r.file ≡ part.number) run (rest ∷ []) refl
            (All-cons (λ (r : Run). r.file ≡ part.number) rest [] refl (All-nil (λ (r : Run). r.file ≡ part.number)));
        chain = more part.share.from run (rest ∷ []) part.share.to refl
            (record { forward = omega arith; inside = omega (arith, forward, inside); few = omega arith })
            (more part.share.from rest [] part.share.to refl (record { forward = forward; inside = inside; few = few }) (none part.share.to));
        told = λ _ e. cc;
      },
      All-cons (λ (r : Run). (r.marked ≡ 0) × (r.met ≡ Absent)) run (rest ∷ []) (refl, refl)
          (All-cons (λ (r : Run). (r.marked ≡ 0) × (r.met ≡ Absent)) rest [] (refl, refl) (All-nil (λ (r : Run). (r.marked ≡ 0) × (r.met ≡ Absent)))),
      Appends-trans old mid new (run_line run) (runs_text (rest ∷ [])) first.1 (subst (Appends mid new) (sym (append-nil (run_line rest))) missing),
    )
absent_told part old mid new forward inside (inr behind) (inl nothing) = (
  [],
  record {
    own = All-nil (λ (r : Run). r.file ≡ part.number);
    chain = subst (IsChain (block_count (file_in_part part).length) part.share.from []) nothing.0 (none part.share.from);
    told = λ is_first. absurd (behind.0 is_first);
  },
  All-nil (λ (r : Run). (r.marked ≡ 0) × (r.met ≡ Absent)),
  Appends-kept old mid new [] (Keeps-appends old mid behind.1) nothing.1,
)
absent_told part old mid new forward inside (inr behind) (inr missing) =
    let rest = missing_run part in
    let few : 0 ≤ part.share.to - part.share.from = omega arith in (
      rest ∷ [],
      record {
        own = All-cons (λ (r : Run). r.file ≡ part.number) rest [] refl (All-nil (λ (r : Run). r.file ≡ part.number));
        chain = more part.share.from rest [] part.share.to refl (record { forward = forward; inside = inside; few = few }) (none part.share.to);
        told = λ is_first. absurd (behind.0 is_first);
      },
      All-cons (λ (r : Run). (r.marked ≡ 0) × (r.met ≡ Absent)) rest [] (refl, refl) (All-nil (λ (r : Run). (r.marked ≡ 0) × (r.met ≡ Absent))),
      Appends-trans old mid new [] (runs_text (rest ∷ [])) (Keeps-appends old mid behind.1) (subst (Appends mid new) (sym (append-nil (run_line rest))) missing),
    )
