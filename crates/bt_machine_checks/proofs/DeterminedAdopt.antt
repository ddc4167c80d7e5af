-- What is left to an engine where a file is taken in.
use Rattle.bt_machine_checks.proofs.Base.{[], ◌≡◌, ◌≢◌, ℕ, ◌+◌, ◌-◌, ◌/◌, ◌^◌, ◌<◌, ◌≤◌, inl, inr, min, Bool, true, false, cond, List, ◌∷◌, ◌++◌, length, map, Option, Some, None, refl, sym, ap, ◌∙◌, subst, arith, append_assoc, flat_map, IsSome, Err, AllZip, count_by, range_with_len, cases_lt, length-map, length-range_with_len, sum_by-cons, CoversBlock, real_width, block_count, Facts, blocks_of, held_at, value_at, value_covers, value_inside, given, failed, block_of, is_fault, right_count, fault_count, IsKnownGroup, IsUnknownGroup, claim_of_reads, marked_group, Adopts, none, known, accepted, not_accepted as refused, short, unread, BlockState, Adopted}
use Rattle.bt_machine_checks.proofs.Machine.{Digest, FileState, EngineState, Hint, reads_at, with_file, with_tree, IsFile, SettlesIn, with_pending, IsProof, AdoptsGroup, adopted_together, AdoptsGroups, is_other, AdoptsFile, StepAdopt, no_file, busy, empty, adopts, not_adopted as no_memory, AdoptedAnswer}
use Rattle.bt_store.specs.Adoption.{is_whole, AreWhole}
use Rattle.bt_machine.specs.declared.error.AdoptError.TheVariants.{OutOfMemory}
use Rattle.bt_machine.proofs.Lists.{some_not_none, some_below}
use Rattle.bt_machine.proofs.Adopting.{group_extends, group_file}
use Rattle.bt_machine_checks.proofs.DeterminedParts.{anchor_one, accepts_one, answer_one, accepts_refused}
use Rattle.bt_machine_checks.proofs.DeterminedAsks.{AreOne, are_equal}
use Rattle.bt_machine_checks.proofs.DeterminedEvents.{split_one, reads_one, file_one, settles_one}

-- ---- groups

some_value : (o : Option (List ℕ)) → IsSome o → (d : List ℕ) × (o ≡ Some d)
some_value (Some d) e = (d, refl)
some_value None e = absurd cc

known_or_unknown : {dig k from count anchor first other : _} → from < blocks_of k → IsKnownGroup dig k from count → IsUnknownGroup k from anchor first other → ⊥
known_or_unknown {dig} {k} {from} left x y =
    let n = blocks_of k in
    let real : real_width (blocks_of k) 0 ≡ blocks_of k = omega arith in
    let place : from / 2 ^ 0 ≡ from = omega arith in
    let first_block : from + 0 ≡ from = omega arith in
    let value = some_value (value_at dig k 0 (from + 0)) (x.known 0 x.some) in
    let covers : CoversBlock (blocks_of k) 0 from = record { inside = value_inside dig k 0 from value.0 (ap (value_at dig k 0) (sym first_block) ∙ value.1); real = omega arith } in
    let unheld : held_at k 0 from ≡ None = rw (← place) (y.nearest.nearest 0 y.above) in
    some_not_none (subst (λ i. IsSome (value_at dig k 0 i)) first_block (x.known 0 x.some)) (value_covers dig k 0 from covers ∙ unheld)

not_longer : {dig k from c d : _} → IsKnownGroup dig k from c → IsKnownGroup dig k from d → c < d → ⊥
not_longer {c} x y lt = elim x.longest [
  | inl eight ↦ absurd (omega arith)
  | inr rest ↦ elim rest [
    | inl end ↦ absurd (omega arith)
    | inr unknown ↦ some_not_none (y.known c lt) unknown
  ]
]

known_one : {dig k from c d : _} → IsKnownGroup dig k from c → IsKnownGroup dig k from d → c ≡ d
known_one {c} {d} x y = elim (cases_lt c d) [
  | inl lt ↦ absurd (not_longer x y lt)
  | inr le ↦ elim (cases_lt d c) [ inl lt ↦ absurd (not_longer y x lt) | inr ge ↦ omega arith ]
]

unknown_one : {k from a f c b g d : _} → IsUnknownGroup k from a f c → IsUnknownGroup k from b g d → (a ≡ b) × (f ≡ g) × (c ≡ d)
unknown_one {k} {from} {f} {b} {g} x y =
    let anchor = anchor_one x.nearest y.nearest in
    let first : f ≡ g = cc in
    (anchor, first, x.counts ∙ ap (λ n. min (2 ^ n) (blocks_of k - f)) anchor ∙ ap (λ n. min (2 ^ b) (blocks_of k - n)) first ∙ sym y.counts)

-- how many blocks a group has
data IsSize (dig : Digest) (k : Facts) (from n : ℕ) : Type 0 where
  of_known : (count : ℕ) → IsKnownGroup dig k from count → n ≡ count → IsSize dig k from n
  of_unknown : (anchor first count : ℕ) → IsUnknownGroup k from anchor first count → n ≡ count → IsSize dig k from n

reads_size : (reads first : _) {count : ℕ} → map block_of reads ≡ range_with_len first count → length reads ≡ count
reads_size reads first {count} e = sym (length-map reads block_of) ∙ ap length e ∙ length-range_with_len first count

adopts_size : {dig k from states reads adopted grown after : _} → from < blocks_of k
    → Adopts dig k from states reads adopted grown after → IsSize dig k from (length reads)
adopts_size left (none end) = absurd (omega arith)
adopts_size {from} left (known c rs g w) = of_known c g (reads_size rs from w)
adopts_size left (accepted a f c rs h g w p) = of_unknown a f c g (reads_size rs f w.blocks)
adopts_size left (refused a f c rs e g w p o) = of_unknown a f c g (reads_size rs f w.blocks)
adopts_size left (short a f c rs g w z l) = of_unknown a f c g (reads_size rs f w)
adopts_size left (unread a f c rs g w z) = of_unknown a f c g (reads_size rs f w)

size_one : {dig k from n m : _} → from < blocks_of k → IsSize dig k from n → IsSize dig k from m → n ≡ m
size_one left (of_known c x e) (of_known d y f) = e ∙ known_one x y ∙ sym f
size_one left (of_known c x e) (of_unknown a i d y f) = absurd (known_or_unknown left x y)
size_one left (of_unknown a i d y f) (of_known c x e) = absurd (known_or_unknown left x y)
size_one left (of_unknown a i c x e) (of_unknown b j d y f) = e ∙ (unknown_one x y).2 ∙ sym f

one_if_le : (b : Bool) → cond b 1 0 ≤ 1
one_if_le true = omega arith
one_if_le false = omega arith

-- a read that failed gave no whole block
counts_le : (n reads : _) → count_by (is_whole n) reads + fault_count reads ≤ length reads
counts_le n [] = omega arith
counts_le n (given i bytes ∷ reads) =
    let more = counts_le n reads in
    let few = one_if_le (is_whole n (given i bytes)) in
    omega (arith, sum_by-cons (λ x. cond (is_whole n x) 1 0) (given i bytes) reads, sum_by-cons (λ x. cond (is_fault x) 1 0) (given i bytes) reads)
counts_le n (failed i ∷ reads) =
    let more = counts_le n reads in
    omega (arith, sum_by-cons (λ x. cond (is_whole n x) 1 0) (failed i) reads, sum_by-cons (λ x. cond (is_fault x) 1 0) (failed i) reads)

whole_or_failed : {n first count reads : _} → AreWhole n first count reads → 0 < fault_count reads → ⊥
whole_or_failed {n} {first} {reads} whole some = absurd (omega (arith, counts_le n reads, reads_size reads first whole.blocks))

same_claim : (dig : Digest) (k : Facts) {a b f g : ℕ} (reads : _) → a ≡ b → f ≡ g
    → claim_of_reads dig k.file_length a f reads ≡ claim_of_reads dig k.file_length b g reads
same_claim dig k {b} {f} reads anchor first = cc

abbrev adopted_as : (next anchor marked faults : ℕ) → Adopted
adopted_as next anchor marked faults = record { next = next; anchor = anchor; marked = marked; faults = faults }

together : {f g c d a b m n x y : ℕ} → f ≡ g → c ≡ d → a ≡ b → m ≡ n → x ≡ y
    → adopted_as (f + c) a m x ≡ adopted_as (g + d) b n y
together {g} {c} {d} {a} {b} {m} {n} {x} e1 e2 e3 e4 e5 =
    cc

-- the same reads come to the same
result_one : {dig k from states : _} → from < blocks_of k → {reads d1 d2 k1 k2 s1 s2 : _}
    → Adopts dig k from states reads d1 k1 s1 → Adopts dig k from states reads d2 k2 s2 → (d1 ≡ d2) × (k1 ≡ k2) × (s1 ≡ s2)
result_one {dig} {k} {from} left (known c1 rs1 g1 w1) (known c2 rs2 g2 w2) = (ap (λ c. record { next = from + c; anchor = 0; marked = right_count dig k rs1; faults = fault_count rs1 }) (known_one g1 g2), refl, refl)
result_one left (known c1 rs1 g1 w1) (accepted a2 f2 c2 rs2 h2 g2 w2 p2) = absurd (known_or_unknown left g1 g2)
result_one left (known c1 rs1 g1 w1) (refused a2 f2 c2 rs2 e2 g2 w2 p2 o2) = absurd (known_or_unknown left g1 g2)
result_one left (known c1 rs1 g1 w1) (short a2 f2 c2 rs2 g2 w2 z2 l2) = absurd (known_or_unknown left g1 g2)
result_one left (known c1 rs1 g1 w1) (unread a2 f2 c2 rs2 g2 w2 z2) = absurd (known_or_unknown left g1 g2)
result_one left (accepted a1 f1 c1 rs1 h1 g1 w1 p1) (known c2 rs2 g2 w2) = absurd (known_or_unknown left g2 g1)
result_one {dig} {k} {states} left (accepted a1 f1 c1 rs1 h1 g1 w1 p1) (accepted a2 f2 c2 rs2 h2 g2 w2 p2) = (let same = (unknown_one g1 g2) in
    let claim : claim_of_reads dig k.file_length a1 f1 rs1 ≡ claim_of_reads dig k.file_length a2 f2 rs1 = cc in (
      together same.1 same.2 same.0 same.2 refl,
      accepts_one dig (rw (← claim) p1) p2,
      ap (λ n. marked_group n c1 states) same.1 ∙ ap (λ n. marked_group f2 n states) same.2,
    ))
result_one {dig} {k} left (accepted a1 f1 c1 rs1 h1 g1 w1 p1) (refused a2 f2 c2 rs2 e2 g2 w2 p2 o2) = (let same = (unknown_one g1 g2) in absurd (accepts_refused dig p1 (rw (same_claim dig k rs1 same.0 same.1) p2) o2))
result_one left (accepted a1 f1 c1 rs1 h1 g1 w1 p1) (short a2 f2 c2 rs2 g2 w2 z2 l2) = (let same = (unknown_one g1 g2) in absurd (omega (arith, w1.whole)))
result_one left (accepted a1 f1 c1 rs1 h1 g1 w1 p1) (unread a2 f2 c2 rs2 g2 w2 z2) = absurd (whole_or_failed w1 z2)
result_one left (refused a1 f1 c1 rs1 e1 g1 w1 p1 o1) (known c2 rs2 g2 w2) = absurd (known_or_unknown left g2 g1)
result_one {dig} {k} left (refused a1 f1 c1 rs1 e1 g1 w1 p1 o1) (accepted a2 f2 c2 rs2 h2 g2 w2 p2) = (let same = (unknown_one g1 g2) in absurd (accepts_refused dig p2 (rw (← (same_claim dig k rs1 same.0 same.1)) p1) o1))
result_one left (refused a1 f1 c1 rs1 e1 g1 w1 p1 o1) (refused a2 f2 c2 rs2 e2 g2 w2 p2 o2) = (let same = (unknown_one g1 g2) in (together same.1 same.2 same.0 refl refl, refl, refl))
result_one left (refused a1 f1 c1 rs1 e1 g1 w1 p1 o1) (short a2 f2 c2 rs2 g2 w2 z2 l2) = (let same = (unknown_one g1 g2) in absurd (omega (arith, w1.whole)))
result_one left (refused a1 f1 c1 rs1 e1 g1 w1 p1 o1) (unread a2 f2 c2 rs2 g2 w2 z2) = absurd (whole_or_failed w1 z2)
result_one left (short a1 f1 c1 rs1 g1 w1 z1 l1) (known c2 rs2 g2 w2) = absurd (known_or_unknown left g2 g1)
result_one left (short a1 f1 c1 rs1 g1 w1 z1 l1) (accepted a2 f2 c2 rs2 h2 g2 w2 p2) = (let same = (unknown_one g1 g2) in absurd (omega (arith, w2.whole)))
result_one left (short a1 f1 c1 rs1 g1 w1 z1 l1) (refused a2 f2 c2 rs2 e2 g2 w2 p2 o2) = (let same = (unknown_one g1 g2) in absurd (omega (arith, w2.whole)))
result_one left (short a1 f1 c1 rs1 g1 w1 z1 l1) (short a2 f2 c2 rs2 g2 w2 z2 l2) = (let same = (unknown_one g1 g2) in (together same.1 same.2 same.0 refl refl, refl, refl))
result_one left (short a1 f1 c1 rs1 g1 w1 z1 l1) (unread a2 f2 c2 rs2 g2 w2 z2) = absurd (omega arith)
result_one left (unread a1 f1 c1 rs1 g1 w1 z1) (known c2 rs2 g2 w2) = absurd (known_or_unknown left g2 g1)
result_one left (unread a1 f1 c1 rs1 g1 w1 z1) (accepted a2 f2 c2 rs2 h2 g2 w2 p2) = absurd (whole_or_failed w2 z1)
result_one left (unread a1 f1 c1 rs1 g1 w1 z1) (refused a2 f2 c2 rs2 e2 g2 w2 p2 o2) = absurd (whole_or_failed w2 z1)
result_one left (unread a1 f1 c1 rs1 g1 w1 z1) (short a2 f2 c2 rs2 g2 w2 z2 l2) = absurd (omega arith)
result_one left (unread a1 f1 c1 rs1 g1 w1 z1) (unread a2 f2 c2 rs2 g2 w2 z2) = (let same = (unknown_one g1 g2) in (together same.1 same.2 refl refl refl, refl, refl))
result_one left (none end) y = absurd (omega arith)
result_one left (known c1 rs1 g1 w1) (none end) = absurd (omega arith)
result_one left (accepted a1 f1 c1 rs1 h1 g1 w1 p1) (none end) = absurd (omega arith)
result_one left (refused a1 f1 c1 rs1 e1 g1 w1 p1 o1) (none end) = absurd (omega arith)
result_one left (short a1 f1 c1 rs1 g1 w1 z1 l1) (none end) = absurd (omega arith)
result_one left (unread a1 f1 c1 rs1 g1 w1 z1) (none end) = absurd (omega arith)

-- ---- what a log keeps

pub proofs_one : (dig : Digest) (k keys xs ys : _) → AllZip (IsProof dig k) keys xs → AllZip (IsProof dig k) keys ys → xs ≡ ys
proofs_one dig k [] [] [] x y = refl
proofs_one dig k [] (h ∷ xs) ys x y = absurd x
proofs_one dig k (key ∷ keys) [] ys x y = absurd x
proofs_one dig k (key ∷ keys) (h ∷ xs) (i ∷ ys) x y =
    let same = answer_one dig x.0.1 y.0.1 in
    ap (λ z. z ∷ xs) (cc) ∙ ap (λ zs. i ∷ zs) (proofs_one dig k keys xs ys x.1 y.1)
proofs_one dig k _ _ _ x y = absurd y

module _ (dig : Digest) where
  group_one : {s file from c d more rest x y m n : _} → AdoptsGroup dig s file from c x m → AdoptsGroup dig s file from d y n → c ++ more ≡ d ++ rest
      → (more ≡ rest) × (x ≡ y) × (m ≡ n)
  group_one {s} {file} {from} {c} {d} {more} {rest} {x} {y} {m} {n} g h e = (parts.1, result.0, after)
    where
      same : (g.state ≡ h.state) × (g.tree ≡ h.tree)
      same = file_one g.is_file h.is_file

      adopts_there : Adopts dig g.tree from g.state.states h.reads y h.grown h.states
      adopts_there = rw same.1 (rw same.0 h.adopts)

      sizes : length g.reads ≡ length h.reads
      sizes = size_one g.left (adopts_size g.left g.adopts)
          (adopts_size g.left adopts_there)

      parts : (c ≡ d) × (more ≡ rest)
      parts = split_one c d (ap length g.made ∙ length-map g.reads _ ∙ sizes ∙ sym (length-map h.reads _) ∙ sym (ap length h.made)) e

      reads : g.reads ≡ h.reads
      reads = reads_one file _ _ _ (sym g.made ∙ parts.0 ∙ h.made ∙ ap (λ k. reads_at file k.file_length h.reads) (sym same.1))

      result : (x ≡ y) × (g.grown ≡ h.grown) × (g.states ≡ h.states)
      result = result_one g.left g.adopts (rw reads adopts_there)

      proofs : g.proofs ≡ h.proofs
      proofs = proofs_one dig _ _ _ _ (rw (← result.1) (rw (← result.0) g.proves)) h.proves

      placed : FileState → List BlockState → Facts → List Hint → EngineState
      placed f states k ps = with_pending s (with_tree (with_file s file (record f { states = states })) f.tree k) ps

      after : m ≡ n
      after = g.after ∙ ap (λ f. with_pending s (with_tree (with_file s file (record f { states = g.states })) f.tree g.grown) g.proofs) same.0
          ∙ ap (λ states. with_pending s (with_tree (with_file s file (record h.state { states = states })) h.state.tree g.grown) g.proofs) result.2
          ∙ ap (λ k. with_pending s (with_tree (with_file s file (record h.state { states = h.states })) h.state.tree k) g.proofs) result.1
          ∙ ap (λ ps. with_pending s (with_tree (with_file s file (record h.state { states = h.states })) h.state.tree h.grown) ps) proofs ∙ sym h.after

  -- the file's tree has n blocks
  abbrev HasBlocks : EngineState → ℕ → ℕ → Type 0
  HasBlocks s file n = (f : FileState) (k : Facts) → IsFile s file f k → blocks_of k ≡ n

  blocks_stay : {s m file from : _} (n : ℕ) {c x : _} → AdoptsGroup dig s file from c x m → HasBlocks s file n → HasBlocks m file n
  blocks_stay n g sized f k is =
      let own = group_file dig g in
      let tree : g.grown ≡ k = cc in
      ap blocks_of (sym tree) ∙ ap block_count (group_extends dig g).file_length ∙ sized g.state g.tree g.is_file

  groups_one : (s file from : _) {n : ℕ} (xs ys : _) {more rest t u a b : _} → HasBlocks s file n → AdoptsGroups dig s file from xs t a
      → AdoptsGroups dig s file from ys u b → t.next ≡ n → u.next ≡ n → flat_map (λ c. c) xs ++ more ≡ flat_map (λ c. c) ys ++ rest
      → (more ≡ rest) × (t ≡ u) × (a ≡ b)
  groups_one s file from [] [] sized x y p q e = (e, x.0 ∙ sym y.0, x.1 ∙ sym y.1)
  groups_one s file from [] (d ∷ ys) sized x y p q e =
      let g = y.3 in absurd (omega (arith, sized g.state g.tree g.is_file, ap (λ z. z.next) x.0))
  groups_one s file from (c ∷ xs) [] sized x y p q e =
      let g = x.3 in absurd (omega (arith, sized g.state g.tree g.is_file, ap (λ z. z.next) y.0))
  groups_one s file from {n} (c ∷ xs) (d ∷ ys) {more} {rest} {b} sized x y p q e =
      let first = group_one x.3 y.3
      (sym (append_assoc c (flat_map (λ c. c) xs) more) ∙ e ∙ append_assoc d (flat_map (λ c. c) ys) rest) in
      let there : AdoptsGroups dig x.1 file x.0.next ys y.2 b = rw first.2 (rw first.1 y.4) in
      let tail = groups_one x.1 file _ xs ys (blocks_stay n x.3 sized) x.4 there
      (cc) (cc) first.0 in
      (tail.0, x.5 ∙ ap (λ z. adopted_together z x.2) first.1 ∙ ap (adopted_together y.0) tail.1 ∙ sym y.5, tail.2)

  adopts_one : {s m n file calls t u : _} → ((f : FileState) (k : Facts) → IsFile s file f k → f.states ≢ [] → blocks_of k ≡ length f.states)
      → AdoptsFile dig s file calls t m → AdoptsFile dig s file calls u n → (t ≡ u) × (m ≡ n)
  adopts_one {s} {file} sized x y =
      let state : x.state ≡ y.state = cc in
      let blocks : HasBlocks s file (length x.state.states) = λ f k is. (
      let own : x.state ≡ f = cc in
      sized f k is (λ gone. x.some (cc)) ∙ ap (λ g. length g.states) (sym own)
      ) in
      let groups = groups_one s file 0 _ _ blocks x.adopts y.adopts x.all (cc) (sym x.made ∙ y.made) in
      let settles : SettlesIn dig (is_other file) x.state.tree 0 (length x.state.states) x.taken_in x.settling y.notes y.settled
      = rw state (rw groups.2 (rw groups.0 y.settles)) in
      let settled = settles_one x.settles settles in
      (groups.1, x.after ∙ ap (λ z. with_pending z x.settled []) groups.2 ∙ ap (λ z. with_pending y.taken_in z []) settled.1 ∙ sym y.after)

  pub adopt_one : {s m n file calls a b : _} → ((f : FileState) (k : Facts) → IsFile s file f k → f.states ≢ [] → blocks_of k ≡ length f.states)
      → StepAdopt dig s file calls a m → StepAdopt dig s file calls b n → a ≢ Err OutOfMemory → b ≢ Err OutOfMemory → AreOne (AdoptedAnswer a) m (AdoptedAnswer b) n
  adopt_one sized (no_memory x y z) q r t = absurd (r z)
  adopt_one sized q (no_memory x y z) r t = absurd (t z)
  adopt_one sized (no_file x y z w) (no_file u v o q) r t = are_equal (ap AdoptedAnswer (cc)) (cc)
  adopt_one sized (no_file x y z w) (busy u v o q i) r t = absurd (omega arith)
  adopt_one {s} {file} sized (no_file x y z w) (empty f u v o q i j) r t = absurd (omega (arith, some_below _ file v))
  adopt_one {s} {file} sized (no_file x y z w) (adopts u v o q) r t = absurd (omega (arith, some_below _ file o.here))
  adopt_one sized (busy u v o q i) (no_file x y z w) r t = absurd (omega arith)
  adopt_one sized (busy x y z w l) (busy u v o q i) r t = are_equal (ap AdoptedAnswer (cc)) (cc)
  adopt_one sized (busy x y z w l) (empty f u v o q i j) r t = absurd (y u)
  adopt_one sized (busy x y z w l) (adopts u v o q) r t = absurd (y v)
  adopt_one {s} {file} sized (empty f u v o q i j) (no_file x y z w) r t = absurd (omega (arith, some_below _ file v))
  adopt_one sized (empty f u v o q i j) (busy x y z w l) r t = absurd (y u)
  adopt_one sized (empty f u v o q i j) (empty g x y z w l k) r t = are_equal (ap AdoptedAnswer (cc)) (cc)
  adopt_one sized (empty f u v o q i j) (adopts x y z w) r t =
      absurd (z.some (cc))
  adopt_one {s} {file} sized (adopts u v o q) (no_file x y z w) r t = absurd (omega (arith, some_below _ file o.here))
  adopt_one sized (adopts u v o q) (busy x y z w l) r t = absurd (y v)
  adopt_one sized (adopts x y z w) (empty f u v o q i j) r t =
      absurd (z.some (cc))
  adopt_one sized (adopts u v o q) (adopts x y z w) r t =
      let same = adopts_one sized o z in
      are_equal (ap AdoptedAnswer (cc)) same.1
