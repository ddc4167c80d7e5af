-- How blocks become marked.
use Rattle.bt_machine.proofs.Base.{[], ◌≡◌, ℕ, ◌⊎◌, inl, inr, Bool, true, false, List, ◌∷◌, length, Option, Some, None, refl, sym, ap, ◌∙◌, slice_get, slice_set, Contains, ◌&&◌, ◌==◌, is_some, if◌then◌else◌, option_map_or, range_with_len, nat_eq, pointwise, bytes_eq-Decides, eqb-true, block_length, Facts, value_at, is_waiting, BlockRead, given, failed, block_of, call_of, is_leaf, is_right, IsRight, judged, waiting_blocks, is_waiting_at, BlockState, Missing, Waiting, Marked, BlockId, eq-eqb}
use Rattle.bt_machine.proofs.Machine.{Digest, FileState, EngineState, DeviceCalls, reads_at, state_at, tree_of, with_file, file_numbers, judged_file, due_blocks, SettlesIn}
use Rattle.bt_machine.proofs.Lists.{set_cases, and_then_some, map_some, and_true, here, later, contains_none, contains_filter, map_contains, flat_map_contains, some_below, range_contains}

pub state_is : (s : EngineState) (c : BlockId) {f x : _} → slice_get s.files c.file ≡ Some f → slice_get f.states c.block ≡ Some x → state_at s c ≡ Some x
state_is s c e g = cc

-- a block that is marked after a file was replaced: it stands in the new file, or it was marked
pub file_marked : (s : _) {file : ℕ} (new b : _) → state_at (with_file s file new) b ≡ Some Marked
    → ((b.file ≡ file) × (slice_get new.states b.block ≡ Some Marked)) ⊎ (state_at s b ≡ Some Marked)
file_marked s {file} new b e =
    let m = and_then_some (λ q. slice_get q.states b.block) (slice_get (slice_set s.files file new) b.file) e in
    elim (set_cases s.files file b.file m.1) [
      | inl same ↦ inl (same.0, rw (← same.1) m.2)
      | inr old ↦ inr (state_is s b old m.2)
    ]

-- bytes by which a leaf is told are those of the digest
leaf_then : (o : Option (List ℕ)) {d : _} → is_leaf o d ≡ true → o ≡ Some d
leaf_then None e = absurd cc
leaf_then (Some x) {d} e = ap (λ y. Some y) ((bytes_eq-Decides x d).0 e)

pub right_then : {dig k i bytes : _} → is_right dig k i bytes ≡ true → IsRight dig k i bytes
right_then {dig} {k} {i} {bytes} e =
    let both = and_true _ e in
    record { whole = eqb-true (length bytes) (block_length k.file_length i) both.0; leaf = leaf_then _ both.1 }

verdict_true : (b : Bool) → Marked ≡ (if b then Marked else Missing) → b ≡ true
verdict_true true e = refl
verdict_true false e = absurd cc

-- right bytes of the block were read
pub record GaveRight (dig : Digest) (k : Facts) (reads : List BlockRead) (i : ℕ) : Type 0 where
  pub bytes : List ℕ
  pub gives : Contains reads (given i bytes)
  pub right : IsRight dig k i bytes

more_given : {dig k read reads i : _} → GaveRight dig k reads i → GaveRight dig k (read ∷ reads) i
more_given {read} {reads} g = record { bytes = g.bytes; gives = later read reads g.gives; right = g.right }

pub missing_marks : (states b i : _) → slice_get (slice_set states b Missing) i ≡ Some Marked → slice_get states i ≡ Some Marked
missing_marks states b i e = elim (set_cases _ b i e) [ inl wrong ↦ absurd cc | inr old ↦ old ]

pub judged_marks : {dig k : _} (reads states : _) {i : ℕ}
    → slice_get (judged dig k false reads states) i ≡ Some Marked → (slice_get states i ≡ Some Marked) ⊎ GaveRight dig k reads i
judged_marks [] states e = inl e
judged_marks {dig} {k} (given b bytes ∷ reads) states {i} e = elim (judged_marks reads _ e) [
  | inl now ↦ elim (set_cases _ b i now) [
    | inl one ↦
        let right = verdict_true _ one.1 in
        let same = sym one.0 in
        inr (record { bytes = bytes; gives = here reads (cc); right = right_then (cc) })
    | inr old ↦ inl old
  ]
  | inr later_on ↦ inr (more_given later_on)
]
judged_marks (failed b ∷ reads) states {i} e = elim (judged_marks reads _ e) [
  | inl now ↦ inl (missing_marks _ b i now)
  | inr later_on ↦ inr (more_given later_on)
]

waits_then : (o : Option BlockState) → option_map_or is_waiting o false ≡ true → o ≡ Some Waiting
waits_then (Some Waiting) e = refl
waits_then _ e = absurd cc

-- a block that was due waited, in a file of the tree, and is one of the run
pub record IsDue (tree from count : ℕ) (f : FileState) (i : ℕ) : Type 0 where
  pub of_tree : f.tree ≡ tree
  pub in_run : Contains (range_with_len from count) i
  pub waited : slice_get f.states i ≡ Some Waiting

due_then : (dig : Digest) (k : _) {tree from count f i : _} → Contains (due_blocks dig k tree from count f) i
    → IsDue tree from count f i
due_then dig k {tree} {from} {count} {f} {i} c = by _ refl c
  where
    by : (b : Bool) → (f.tree == tree) ≡ b → Contains (if b then waiting_blocks dig k f.states from count else []) i → IsDue tree from count f i
    by true e c =
        let d = contains_filter (λ j. is_waiting_at f.states j && is_some (value_at dig k 0 j)) _ c in
        record {
          of_tree = eqb-true f.tree tree e;
          in_run = d.0;
          waited = waits_then _ (and_true _ d.1).0;
        }
    by false e c = absurd (contains_none c)

-- with a test that a file is meant
pub meant_then : (dig : Digest) (k : _) (b : Bool) {tree from count f i : _} → Contains (if b then due_blocks dig k tree from count f else []) i
    → (b ≡ true) × IsDue tree from count f i
meant_then dig k true c = (refl, due_then dig k c)
meant_then dig k false c = absurd (contains_none c)

-- a block that waited was read, with the digest of its leaf, as one of the run in a file of the tree that was meant
pub record IsSettled (dig : Digest) (is_meant : ℕ → Bool) (tree from count : ℕ) (old : EngineState) (calls : DeviceCalls) (new : EngineState)
    (b : BlockId) : Type 0 where
  pub facts : Facts
  pub file : FileState
  pub bytes : List ℕ
  pub meant : is_meant b.file ≡ true
  pub here : slice_get old.files b.file ≡ Some file
  pub of_tree : file.tree ≡ tree
  pub known : slice_get old.trees tree ≡ Some facts
  pub in_run : Contains (range_with_len from count) b.block
  pub waited : state_at old b ≡ Some Waiting
  pub has_tree : tree_of new b.file ≡ Some facts
  pub read : Contains calls (b.file, call_of facts.file_length (given b.block bytes))
  pub right : IsRight dig facts b.block bytes

-- a block that is marked after its run was settled was marked, or was read back
pub settle_marks : {dig is_meant tree from count old new calls notes : _} → SettlesIn dig is_meant tree from count old calls notes new
    → {b : _} → state_at new b ≡ Some Marked → (state_at old b ≡ Some Marked) ⊎ IsSettled dig is_meant tree from count old calls new b
settle_marks {dig} {is_meant} {old} {new} s {b} e =
    let m = and_then_some (λ q. slice_get q.states b.block) (slice_get new.files b.file) e in
    let p = map_some (judged_file dig s.facts (s.reads b.file)) (slice_get old.files b.file) (sym (s.files b.file) ∙ m.1) in
    let there : slice_get (judged dig s.facts false (s.reads b.file) p.0.states) b.block ≡ Some Marked = cc in
    elim (judged_marks (s.reads b.file) p.0.states there) [
      | inl before ↦ inl (state_is old b p.1 before)
      | inr g ↦
          let read = map_contains block_of (s.reads b.file) g.gives in
          let due = meant_then dig s.facts (is_meant b.file) (rw (← (s.due b.file p.0 p.1)) read) in
          let trees : new.trees ≡ old.trees = cc in
          let has_tree = ap (λ ts. slice_get ts p.0.tree) trees ∙ ap (slice_get old.trees) due.1.of_tree ∙ s.here in
          let file : slice_get new.files b.file ≡ Some (judged_file dig s.facts (s.reads b.file) p.0) = cc in
          let one =
          map_contains (λ read. (b.file, call_of s.facts.file_length read)) (s.reads b.file) g.gives in
          inr (record {
            facts = s.facts;
            file = p.0;
            bytes = g.bytes;
            meant = due.0;
            here = p.1;
            of_tree = due.1.of_tree;
            known = s.here;
            in_run = due.1.in_run;
            waited = state_is old b p.1 due.1.waited;
            has_tree = cc;
            read = rw s.made (flat_map_contains (λ file. reads_at file s.facts.file_length (s.reads file)) (file_numbers old) (range_contains (length old.files) (some_below old.files b.file p.1)) one);
            right = g.right;
          })
    ]

same_leaf : (d : _) → pointwise nat_eq d d ≡ true
same_leaf [] = refl
same_leaf (x ∷ d) = rw (eq-eqb x x refl) (same_leaf d)

-- right bytes are told to be right
pub right_true : {dig k i bytes : _} → IsRight dig k i bytes → is_right dig k i bytes ≡ true
right_true {dig} {k} {i} {bytes} r =
    rw (eq-eqb (length bytes) (block_length k.file_length i) r.whole) (ap (λ o. is_leaf o (dig bytes)) r.leaf ∙ same_leaf (dig bytes))
