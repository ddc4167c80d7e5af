-- What the parts of a check tell together.
use Rattle.std.proofs.Common.{◌≡◌, ◌≢◌, ℕ, zero, suc, ◌+◌, ◌*◌, ◌^◌, ◌<◌, ◌≤◌, ◌==◌, true, false, cond, List, [], ◌∷◌, ◌++◌, length, map, inl, inr, Option, Some, IsTrue, refl, sym, ap, ◌∙◌, subst, arith}
use Rattle.std.specs.Prelude.{slice_get}
use Rattle.std.specs.List.{All, AllZip, flat_map, range_with_len}
use Rattle.std.proofs.lemmas.Bool.{cases_lt}
use Rattle.std.proofs.lemmas.Bool.Decides.{eqb_tells}
use Rattle.std.proofs.lemmas.List.Elements.{All-append, All-head, All-nil, All-tail, filter-append}
use Rattle.std.proofs.lemmas.Nat.{pow_below}
use Rattle.bt_tree.specs.Blocks.{block_count}
use Rattle.bt_tree.specs.Limits.{full_block_length}
use Rattle.bt_disk.specs.Conduct.{Conduct}
use Rattle.bt_meta.specs.Files.{File}
use Rattle.bt_meta.specs.Torrent.{Metainfo}
use Rattle.bt_sparse.proofs.Values.{none_some}
use Rattle.bt_check.specs.Check.{CheckedFile}
use Rattle.bt_parts.specs.Division.{IsFirstIn, cut_at, edge_of}
use Rattle.bt_parts.specs.Join.{IsChain, none as no_run, more as more_runs}
use Rattle.bt_parts.specs.Unit.{unit_of}
use Rattle.bt_parts.specs.declared.cut.Cut.{Cut}
use Rattle.bt_parts.specs.declared.cut.Part.{Part}
use Rattle.bt_parts.specs.declared.cut.Share.{Share}
use Rattle.bt_parts.specs.declared.run.Run.{Run}
use Rattle.bt_parts.proofs.Cuts.{shares_whole}
use Rattle.bt_jobs.specs.Law.{AreReports, none as no_report, more as more_reports, PartsAreWhole, runs_of}
use Rattle.bt_jobs.specs.Part.{IsPartReport}
use Rattle.bt_disk.specs.Pool.{pooled_conduct}
use Rattle.bt_jobs.specs.Plan.{IsCutOf, IsShareOf, total_of}
use Rattle.bt_jobs.specs.Trees.{AreRunsOf, ArePartFindings, none, more, file_in_part, part_at}
use Rattle.bt_jobs.specs.declared.trees.FilePart.{FilePart}
use Rattle.bt_jobs.specs.declared.trees.PartFile.{PartFile}
use Rattle.bt_jobs.proofs.Plans.{IsInsideCut, all_inside, last_begins}

some_same : {X : Type 0} {x y : X} (o : Option X) → o ≡ Some x → o ≡ Some y → x ≡ y
some_same o p q = cc

-- ---- the runs of one file

equals_not : (a b : ℕ) → a ≢ b → (a == b) ≡ false
equals_not a b ne = elim (eqb_tells a b) [ inl is ↦ absurd (ne is.1) | inr is ↦ is.0 ]

equals_is : (a b : ℕ) → a ≡ b → (a == b) ≡ true
equals_is a b e = elim (eqb_tells a b) [ inl is ↦ is.0 | inr is ↦ absurd (is.1 e) ]

others_dropped : (number : ℕ) (runs : List Run) → All (λ (r : Run). r.file ≢ number) runs → runs_of number runs ≡ []
others_dropped number [] all = refl
others_dropped number (run ∷ runs) all =
    ap (λ b. cond b (run ∷ runs_of number runs) (runs_of number runs)) (equals_not run.file number (All-head (λ (r : Run). r.file ≢ number) run runs all))
    ∙ others_dropped number runs (All-tail (λ (r : Run). r.file ≢ number) run runs all)

own_kept : (number : ℕ) (runs : List Run) → All (λ (r : Run). r.file ≡ number) runs → runs_of number runs ≡ runs
own_kept number [] all = refl
own_kept number (run ∷ runs) all =
    ap (λ b. cond b (run ∷ runs_of number runs) (runs_of number runs)) (equals_is run.file number (All-head (λ (r : Run). r.file ≡ number) run runs all))
    ∙ ap (λ l. run ∷ l) (own_kept number runs (All-tail (λ (r : Run). r.file ≡ number) run runs all))

-- a file's runs, and those of others
all_other : (number other : ℕ) (runs : List Run) → other ≢ number → All (λ (r : Run). r.file ≡ other) runs → All (λ (r : Run). r.file ≢ number) runs
all_other number other runs ne all = λ k d lt e. ne (sym (all k d lt) ∙ e)

all_behind : (number from : ℕ) (runs : List Run) → number < from → All (λ (r : Run). from ≤ r.file) runs → All (λ (r : Run). r.file ≢ number) runs
all_behind number from runs lt all = λ k d inside e. absurd (omega (arith, lt, all k d inside, e))

module _ {D : Type 0} (conduct : Conduct D) (layer : ℕ) where
  -- data files with numbers from one on
  abbrev AreNumbered : ℕ → List (PartFile D) → Type 0
  AreNumbered a opened = map (λ (p : FilePart). p.number) (map part_at opened) ≡ range_with_len a (length opened)

  first_number : (a : ℕ) (one : PartFile D) (rest : List (PartFile D)) → AreNumbered a (one ∷ rest) → one.part.number ≡ a
  first_number a one rest e = cc

  next_numbers : (a : ℕ) (one : PartFile D) (rest : List (PartFile D)) → AreNumbered a (one ∷ rest) → AreNumbered (a + 1) rest
  next_numbers a one rest e = cc

  -- what they tell is of none of the files before
  told_from : (a : ℕ) (before after : List CheckedFile) (opened : List (PartFile D)) (runs : List Run)
      → ArePartFindings conduct layer before opened runs after → AreNumbered a opened → All (λ (r : Run). a ≤ r.file) runs
  told_from a _ _ _ _ (none before) numbers = All-nil (λ (r : Run). a ≤ r.file)
  told_from a _ _ _ _ (more before mid after one rest own others is found are) numbers =
      let later = told_from (a + 1) mid after rest others are (next_numbers a one rest numbers) in
      let first = first_number a one rest numbers in
      All-append (λ (r : Run). a ≤ r.file) own others (λ k d lt. omega (arith, is.own k d lt, first)) (λ k d lt. omega (arith, later k d lt))

  -- the runs of one of them
  told_of : (a j : ℕ) (before after : List CheckedFile) (opened : List (PartFile D)) (runs : List Run) (one : PartFile D)
      → ArePartFindings conduct layer before opened runs after → AreNumbered a opened → slice_get opened j ≡ Some one
      → AreRunsOf one.part.number (block_count (file_in_part one.part).length) one.part.share (runs_of (a + j) runs)
  told_of a j _ _ _ _ one (none before) numbers at = absurd (none_some one at)
  told_of a zero _ _ _ _ one (more before mid after first rest own others is found are) numbers at =
      let same : first ≡ one = some_same (Some first) refl at in
      let number : first.part.number ≡ a + 0 = omega (arith, first_number a first rest numbers) in
      let later = told_from (a + 1) mid after rest others are (next_numbers a first rest numbers) in
      let kept : runs_of (a + 0) own ≡ own = own_kept (a + 0) own (λ k d lt. is.own k d lt ∙ number) in
      let dropped : runs_of (a + 0) others ≡ [] = others_dropped (a + 0) others (all_behind (a + 0) (a + 1) others (omega arith) later) in
      let all : runs_of (a + 0) (own ++ others) ≡ own =
      filter-append (λ (r : Run). r.file == a + 0) own others ∙ ap (λ l. l ++ runs_of (a + 0) others) kept ∙ ap (λ l. own ++ l) dropped ∙ nothing own in
      subst (λ (o : PartFile D). AreRunsOf o.part.number (block_count (file_in_part o.part).length) o.part.share (runs_of (a + 0) (own ++ others))) same
      (subst (AreRunsOf first.part.number (block_count (file_in_part first.part).length) first.part.share) (sym all) is)
    where
      nothing : (l : List Run) → l ++ [] ≡ l
      nothing [] = refl
      nothing (x ∷ xs) = ap (λ l. x ∷ l) (nothing xs)
  told_of a (suc j) _ _ _ _ one (more before mid after first rest own others is found are) numbers at =
      let number : first.part.number ≡ a = first_number a first rest numbers in
      let place : (a + 1) + j ≡ a + suc j = omega arith in
      let dropped : runs_of (a + suc j) own ≡ [] =
      others_dropped (a + suc j) own (all_other (a + suc j) a own (λ e. absurd (omega (arith, e))) (λ k d lt. is.own k d lt ∙ number)) in
      let all : runs_of (a + suc j) (own ++ others) ≡ runs_of (a + suc j) others =
      filter-append (λ (r : Run). r.file == a + suc j) own others ∙ ap (λ l. l ++ runs_of (a + suc j) others) dropped in
      let told = told_of (a + 1) j mid after rest others one are (next_numbers a first rest numbers) at in
      subst (AreRunsOf one.part.number (block_count (file_in_part one.part).length) one.part.share) (sym all)
      (subst (λ m. AreRunsOf one.part.number (block_count (file_in_part one.part).length) one.part.share (runs_of m others)) place told)

-- ---- lists, place by place

got_mapped : {X Y : Type 0} (f : X → Y) (xs : List X) (i : ℕ) (y : Y) → slice_get (map f xs) i ≡ Some y → (x : X) × (slice_get xs i ≡ Some x) × (f x ≡ y)
got_mapped f [] i y at = absurd (none_some y at)
got_mapped f (x ∷ xs) zero y at = (x, refl, some_same (Some (f x)) refl at)
got_mapped f (x ∷ xs) (suc i) y at = got_mapped f xs i y at

got_zipped : {X Y : Type 0} (R : X → Y → Type 0) (xs : List X) (ys : List Y) (i : ℕ) (x : X) → AllZip R xs ys → slice_get xs i ≡ Some x
    → (y : Y) × (slice_get ys i ≡ Some y) × R x y
got_zipped R [] ys i x all at = absurd (none_some x at)
got_zipped R (a ∷ xs) [] i x all at = absurd all
got_zipped R (a ∷ xs) (b ∷ ys) zero x all at = (b, refl, subst (λ z. R z b) (some_same (Some a) refl at) all.0)
got_zipped R (a ∷ xs) (b ∷ ys) (suc i) x all at = got_zipped R xs ys i x all.1 at

-- ---- one part

-- pieces of one length are of one layer
one_layer : (bytes l m : ℕ) → bytes ≡ full_block_length * 2 ^ l → bytes ≡ full_block_length * 2 ^ m → l ≡ m
one_layer bytes l m p q = elim (cases_lt l m) [
  | inl lt ↦ absurd (omega (arith, p, q, pow_below l m lt))
  | inr le ↦ elim (cases_lt m l) [
    | inl lt ↦ absurd (omega (arith, p, q, pow_below m l lt))
    | inr also ↦ omega (arith, le, also)
  ]
]

-- a file is cut alike
cut_same : (c d : Cut) (edge : ℕ) → c.place ≡ d.place → c.blocks ≡ d.blocks → c.unit ≡ d.unit → cut_at c edge ≡ cut_at d edge
cut_same c d edge place blocks unit = rw (place, blocks, unit) refl

-- the runs are what a part of `count` tells of a file
record IsOfPart (blocks total count : ℕ) (cut : Cut) (index : ℕ) (own : List Run) : Type 0 where
  pub chain : IsChain blocks (cut_at cut (edge_of total count index)) own (cut_at cut (edge_of total count (index + 1)))
  pub told : IsFirstIn total count index cut → own ≢ []

module _ (dir : List ℕ) (torrent : Metainfo) (count number : ℕ) (file : File) (at : slice_get torrent.files number ≡ Some file) (layer : ℕ)
    (pieces : torrent.piece_length ≡ full_block_length * 2 ^ layer) (cut : Cut) (is : IsCutOf layer torrent.files file cut) where
  abbrev total : ℕ
  total = total_of torrent.files

  part_of : (part : Part) (runs : List Run) → part.count ≡ count → IsPartReport dir torrent part runs
      → IsOfPart (block_count file.length) total count cut part.index (runs_of number runs)
  part_of part runs parts r =
      let opened = got_mapped file_in_part (map part_at r.opened) number file (ap (λ l. slice_get l number) r.files ∙ at) in
      let one = got_mapped part_at r.opened number opened.0 opened.1 in
      let same_file : file_in_part one.0.part ≡ file = ap file_in_part one.2 ∙ opened.2 in
      let here = got_zipped (IsCutOf r.layer torrent.files) torrent.files r.shares.cuts number file r.shares.are_cut at in
      let has = got_zipped (IsShareOf total part) r.shares.cuts (map (λ (p : FilePart). p.share) (map part_at r.opened)) number here.0 r.shares.each here.1 in
      let own_share = got_mapped (λ (p : FilePart). p.share) (map part_at r.opened) number has.0 has.1 in
      let same_part : own_share.0 ≡ opened.0 = some_same (slice_get (map part_at r.opened) number) own_share.1 opened.1 in
      let share_is : one.0.part.share ≡ has.0 =
      ap (λ (p : FilePart). p.share) (one.2 ∙ sym same_part) ∙ own_share.2 in
      let numbered : map (λ (p : FilePart). p.number) (map part_at r.opened) ≡ range_with_len 0 (length r.opened) =
      r.numbers ∙ ap (range_with_len 0) (sym (ap length r.files) ∙ lengths r.opened) in
      let told = told_of pooled_conduct r.layer 0 number [] r.checked r.opened runs one.0 r.found numbered one.1 in
      let place : 0 + number ≡ number = omega arith in
      let alike : (edge : ℕ) → cut_at here.0 edge ≡ cut_at cut edge = λ edge.
      cut_same here.0 cut edge (here.2.place ∙ sym is.place) (here.2.blocks ∙ sym is.blocks)
      (here.2.unit ∙ ap unit_at (one_layer torrent.piece_length r.layer layer r.pieces pieces) ∙ sym is.unit) in
      let from : one.0.part.share.from ≡ cut_at cut (edge_of total count part.index) =
      ap (λ (s : Share). s.from) share_is ∙ has.2.from ∙ ap (λ m. cut_at here.0 (edge_of total m part.index)) parts ∙ alike (edge_of total count part.index) in
      let to : one.0.part.share.to ≡ cut_at cut (edge_of total count (part.index + 1)) =
      ap (λ (s : Share). s.to) share_is ∙ has.2.to ∙ ap (λ m. cut_at here.0 (edge_of total m (part.index + 1))) parts
      ∙ alike (edge_of total count (part.index + 1)) in
      let own : AreRunsOf one.0.part.number (block_count file.length) one.0.part.share (runs_of number runs) =
      subst (λ m. AreRunsOf one.0.part.number (block_count file.length) one.0.part.share (runs_of m runs)) place
      (subst (λ (f : File). AreRunsOf one.0.part.number (block_count f.length) one.0.part.share (runs_of (0 + number) runs)) same_file told) in
      record {
        chain = subst (λ a. IsChain (block_count file.length) a (runs_of number runs) (cut_at cut (edge_of total count (part.index + 1)))) from
            (subst (IsChain (block_count file.length) one.0.part.share.from (runs_of number runs)) to own.chain);
        told = λ first. own.told (subst IsTrue (sym (ap (λ (s : Share). s.is_first) share_is)) (has.2.first.1 (record {
          begun = subst (λ m. edge_of total m part.index ≤ here.0.place) (sym parts) (omega (arith, first.begun, here.2.place, is.place));
          before = subst (λ m. here.0.place < edge_of total m (part.index + 1)) (sym parts) (omega (arith, first.before, here.2.place, is.place));
        })));
      }
    where
      unit_at : ℕ → ℕ
      unit_at l = unit_of l file

      lengths : {D : Type 0} (opened : List (PartFile D)) → length (map file_in_part (map part_at opened)) ≡ length opened
      lengths [] = refl
      lengths (one ∷ rest) = omega (arith, lengths rest)

  -- ---- all parts

  chains_joined : (blocks a mid end : ℕ) (xs ys : List Run) → IsChain blocks a xs mid → IsChain blocks mid ys end → IsChain blocks a (xs ++ ys) end
  chains_joined blocks _ _ end _ ys (no_run a) second = second
  chains_joined blocks _ mid end _ ys (more_runs a run rest reached begins within chain) second =
      more_runs a run (rest ++ ys) end begins within (chains_joined blocks run.to mid end rest ys chain second)

  all_told : (index : ℕ) (reports : List (List Run)) → AreReports dir torrent count index reports
      → IsChain (block_count file.length) (cut_at cut (edge_of total count index)) (flat_map (runs_of number) reports) (cut_at cut (edge_of total count count))
  all_told _ _ no_report = no_run (cut_at cut (edge_of total count count))
  all_told _ _ (more_reports index part runs rest which parts report others) =
      let own = part_of part runs parts report in
      chains_joined (block_count file.length) (cut_at cut (edge_of total count index)) (cut_at cut (edge_of total count (index + 1)))
      (cut_at cut (edge_of total count count)) (runs_of number runs) (flat_map (runs_of number) rest)
      (subst (λ k. IsChain (block_count file.length) (cut_at cut (edge_of total count k)) (runs_of number runs) (cut_at cut (edge_of total count (k + 1)))) which own.chain)
      (all_told (index + 1) rest others)

  some_first : (xs ys : List Run) → xs ≢ [] → xs ++ ys ≢ []
  some_first [] ys some e = some refl
  some_first (x ∷ xs) ys some e = cc

  some_behind : (xs ys : List Run) → ys ≢ [] → xs ++ ys ≢ []
  some_behind [] ys some e = some e
  some_behind (x ∷ xs) ys some e = cc

  first_told : (first index : ℕ) (reports : List (List Run)) → index ≤ first → first < count → IsFirstIn total count first cut
      → AreReports dir torrent count index reports → flat_map (runs_of number) reports ≢ []
  first_told first _ _ le lt begins no_report = absurd (omega (arith, le, lt))
  first_told first _ _ le lt begins (more_reports index part runs rest which parts report others) = elim (cases_lt index first) [
    | inl later ↦ some_behind (runs_of number runs) (flat_map (runs_of number) rest) (first_told first (index + 1) rest (omega (arith, later)) lt begins others)
    | inr here ↦
        let same : first ≡ part.index = omega (arith, here, le, which) in
        some_first (runs_of number runs) (flat_map (runs_of number) rest)
        ((part_of part runs parts report).told (subst (λ k. IsFirstIn total count k cut) same begins))
  ]

-- a report of some part
some_report : (dir : List ℕ) (torrent : Metainfo) (count index : ℕ) (reports : List (List Run)) → AreReports dir torrent count index reports → index < count
    → (part : Part) × (runs : List Run) × IsPartReport dir torrent part runs
some_report dir torrent count _ _ no_report lt = absurd (omega (arith, lt))
some_report dir torrent count _ _ (more_reports index part runs rest which parts report others) lt = (part, runs, report)

pub parts_whole : PartsAreWhole
parts_whole dir torrent count reports pos are number file at =
    let r = (some_report dir torrent count 0 reports are pos).2 in
    let inside = got_zipped (IsInsideCut r.layer torrent.files) torrent.files r.shares.cuts number file
    (all_inside r.layer torrent.files r.shares.cuts r.shares.are_cut) at in
    let cut : Cut = inside.0 in
    let total : ℕ = total_of torrent.files in
    let blocks : cut.blocks ≡ block_count file.length = inside.2.is.blocks in
    let divided = shares_whole cut total count pos (omega (arith, inside.2.inside, blocks, last_begins file.length)) in
    let chain = all_told dir torrent count number file at r.layer r.pieces cut inside.2.is 0 reports are in (
      subst (λ a. IsChain (block_count file.length) a (flat_map (runs_of number) reports) (block_count file.length)) divided.begin
          (subst (IsChain (block_count file.length) (cut_at cut (edge_of total count 0)) (flat_map (runs_of number) reports)) (divided.finish ∙ blocks) chain),
      first_told dir torrent count number file at r.layer r.pieces cut inside.2.is divided.told.0 0 reports (omega arith) divided.told.1 divided.told.2 are,
    )
