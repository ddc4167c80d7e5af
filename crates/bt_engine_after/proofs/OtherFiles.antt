-- The files of a tree but one are settled, one after the other.
use Rattle.bt_machine.proofs.Base.{[], ◌≡◌, ◌≢◌, ℕ, ◌+◌, ◌<◌, ◌≤◌, inl, inr, Bool, true, false, not, ◌&&◌, if◌then◌else◌, List, ◌++◌, length, get_or, Some, refl, slice_get, sym, ap, ◌∙◌, subst, arith, ◌==◌, eq-eqb, lt-ltb, le-ltb, cases_lt, length-map}
use Rattle.std.proofs.lemmas.Bool.{cases_eq, ne_eqb}
use Rattle.bt_machine.proofs.Lists.{get_some, get_map}
use Rattle.bt_machine.specs.State.{FileState}
use Rattle.bt_machine.specs.Settling.{SettlesIn, due_blocks}
use Rattle.bt_machine.specs.Adopting.{is_other}
use Rattle.bt_engine_state.specs.Parts.{state_of, file_of, disks_of}
use Rattle.bt_engine_state.specs.Ties.{root_and_length}
use Rattle.bt_engine_state.specs.declared.parts.Parts.{Parts}
use Rattle.bt_engine_state.proofs.Chains.{NoneOfTree}
use Rattle.bt_engine_state.proofs.DeviceCalls.{have_none, have_then}
use Rattle.bt_engine_state.proofs.Leaves.{leaves_alike, leaves_then}
use Rattle.bt_engine_after.specs.PartsSteps.{AreInLine, KeepsRest, block_count_of_tree}
use Rattle.bt_engine_after.specs.SettlingSteps.{SettlesFiles}
use Rattle.bt_engine_after.proofs.Settlements.{before, alike_meant, same_meant, none_due, settles_none, settles_then}
use Rattle.bt_disk.specs.Conduct.{Conduct}

-- ---- what stays

module _ {D H : Type 0} where
  pub rest_none : (old : Parts D H) → KeepsRest old old
  rest_none old = record { others = refl; log = refl; count = refl; trees = refl; blocks = λ tree. refl; leaves = leaves_alike (state_of old) (state_of old) refl refl; peers = refl }

  pub as_many_trees : {old new : Parts D H} → KeepsRest old new → length new.trees.items ≡ length old.trees.items
  as_many_trees {old} {new} rest =
      sym (length-map new.trees.items root_and_length) ∙ ap (λ xs. length xs) rest.trees ∙ length-map old.trees.items root_and_length

  pub rest_then : {old mid new : Parts D H} → KeepsRest old mid → KeepsRest mid new → KeepsRest old new
  rest_then {old} {mid} {new} one two = record {
    others = two.others ∙ ap (λ (p : Parts D H). record p { slots = new.slots; trees = new.trees; book = new.book; counts = new.counts; log = new.log }) one.others;
    log = two.log ∙ one.log;
    count = two.count ∙ one.count;
    trees = two.trees ∙ one.trees;
    blocks = λ tree. two.blocks tree ∙ one.blocks tree;
    leaves = leaves_then (state_of old) (state_of mid) (state_of new) one.leaves two.leaves;
    peers = two.peers ∙ one.peers;
  }

-- the next file that is read there is the one that was
pub next_read : {D H : Type 0} {old new : Parts D H} → KeepsRest old new → (file next : ℕ) → next ≡ get_or new.roots.next_files.items file next
    → next ≡ get_or old.roots.next_files.items file next
next_read {D} {H} rest file next read = read ∙ ap (λ (p : Parts D H). get_or p.roots.next_files.items file next) rest.others

-- ---- which files are meant

module _ (file i : ℕ) where
  none_from : (f : ℕ) → i ≤ f → before file i f ≡ false
  none_from f le = ap (λ b. b && is_other file f) (le-ltb f i le)

  not_it : (f : ℕ) → f < i → (f == i) ≡ false
  not_it f lt = ne_eqb f i (λ e. absurd (omega arith))

  same_before : (f : ℕ) → f < i → before file (i + 1) f ≡ before file i f
  same_before f lt = ap (λ b. b && is_other file f) (lt-ltb f (i + 1) (omega arith) ∙ sym (lt-ltb f i lt))

  it_alone : i ≢ file → (f : ℕ) → i ≤ f → before file (i + 1) f ≡ (f == i)
  it_alone apart f le = elim (cases_eq f i) [
    | inl same ↦ ap (λ b. b && is_other file f) (lt-ltb f (i + 1) (omega arith)) ∙ ap not (ap (λ n. n == file) same ∙ ne_eqb i file apart) ∙ sym (eq-eqb f i same)
    | inr other ↦ ap (λ b. b && is_other file f) (le-ltb f (i + 1) (omega arith)) ∙ sym (ne_eqb f i other)
  ]

  skipped : i ≡ file → (f : ℕ) → before file i f ≡ before file (i + 1) f
  skipped own f = elim (cases_eq f i) [
    | inl same ↦ none_from f (omega arith) ∙ sym (ap (λ b. b && is_other file f) (lt-ltb f (i + 1) (omega arith)) ∙ ap not (eq-eqb f file (same ∙ own)))
    | inr other ↦ elim (cases_lt f i) [
      | inl lt ↦ sym (same_before f lt)
      | inr le ↦ none_from f le ∙ sym (ap (λ b. b && is_other file f) (le-ltb f (i + 1) (omega arith)))
    ]
  ]

  all_before : (f : ℕ) → f < i → before file i f ≡ is_other file f
  all_before f lt = ap (λ b. b && is_other file f) (lt-ltb f i lt)

-- ---- the loop over the files

-- those before one are settled
pub record AreSettled {D H : Type 0} (conduct : Conduct D) (dig : List ℕ → List ℕ) (file tree : ℕ) (old : Parts D H)
    (i : ℕ) (parts : Parts D H) : Type 0 where
  pub settles : SettlesFiles conduct dig (before file i) tree old parts
  pub log : parts.log ≡ old.log
  pub rest : KeepsRest old parts
  pub in_line : AreInLine parts

module _ {D H : Type 0} {conduct : Conduct D} {dig : List ℕ → List ℕ} {file tree : ℕ} {old : Parts D H} where
  pub settled_begun : tree < old.trees.len → AreInLine old → AreSettled conduct dig file tree old 0 old
  settled_begun lt in_line = record {
    settles = (
      [],
      _,
      have_none conduct (disks_of old),
      settles_none dig tree (block_count_of_tree (state_of old) tree) (before file 0) (state_of old)
          (get_some old.trees.items tree (omega (arith, lt, old.trees.ok.0))).1 (λ f. none_from file 0 f (omega arith)),
    );
    log = refl;
    rest = rest_none old;
    in_line = in_line;
  }

  pub settled_more : {i : ℕ} {parts new : Parts D H} → AreSettled conduct dig file tree old i parts → i ≢ file
      → SettlesFiles conduct dig (λ other. other == i) tree parts new → new.log ≡ parts.log → KeepsRest parts new → AreInLine new → AreSettled conduct dig file tree old (i + 1) new
  settled_more {i} {parts} {new} a apart (calls, notes, have, two) log rest in_line =
      let size : length (state_of parts).files ≡ length (state_of old).files =
      length-map parts.slots.items file_of ∙ a.rest.count ∙ sym (length-map old.slots.items file_of) in
      let both = settles_then dig tree (block_count_of_tree (state_of old) tree) i a.settles.3
      (subst (λ n. SettlesIn dig (λ other. other == i) tree 0 n (state_of parts) calls notes (state_of new)) (a.rest.blocks tree) two)
      size (none_from file i) (not_it file i) (same_before file i) (it_alone file i apart) in
      record {
        settles = (
          a.settles.0 ++ calls,
          both.0,
          have_then conduct (disks_of old) (disks_of parts) (disks_of new) a.settles.0 calls a.settles.2 have,
          both.1,
        );
        log = log ∙ a.log;
        rest = rest_then a.rest rest;
        in_line = in_line;
      }

  pub settled_skipped : {i : ℕ} {parts : Parts D H} → AreSettled conduct dig file tree old i parts → i ≡ file → AreSettled conduct dig file tree old (i + 1) parts
  settled_skipped {i} a own = record {
    settles = (a.settles.0, a.settles.1, a.settles.2, same_meant dig tree (block_count_of_tree (state_of old) tree) (λ f lt. skipped file i own f) a.settles.3);
    log = a.log;
    rest = a.rest;
    in_line = a.in_line;
  }

  -- files that are not of the tree are passed
  pub settled_past : {i : ℕ} (j : ℕ) {parts : Parts D H} → AreSettled conduct dig file tree old i parts → i ≤ j → NoneOfTree old.slots.items tree i j
      → AreSettled conduct dig file tree old j parts
  settled_past {i} j a low none = record {
    settles = (a.settles.0, a.settles.1, a.settles.2, alike_meant dig tree (block_count_of_tree (state_of old) tree) a.settles.3 same);
    log = a.log;
    rest = a.rest;
    in_line = a.in_line;
  }
    where
      nothing : (b : Bool) (state : FileState) → due_blocks dig a.settles.3.facts tree 0 (block_count_of_tree (state_of old) tree) state ≡ []
          → [] ≡ (if b then due_blocks dig a.settles.3.facts tree 0 (block_count_of_tree (state_of old) tree) state else [])
      nothing true state none = sym none
      nothing false state none = refl

      same : (f : ℕ) (state : FileState) → slice_get (state_of old).files f ≡ Some state
          → (if before file i f then due_blocks dig a.settles.3.facts tree 0 (block_count_of_tree (state_of old) tree) state else [])
          ≡ (if before file j f then due_blocks dig a.settles.3.facts tree 0 (block_count_of_tree (state_of old) tree) state else [])
      same f state at =
          let due = due_blocks dig a.settles.3.facts tree 0 (block_count_of_tree (state_of old) tree) state in
          elim (cases_lt f i) [
            | inl lt ↦ ap (λ b. if b then due else []) (all_before file i f lt ∙ sym (all_before file j f (omega arith)))
            | inr le ↦ ap (λ b. if b then due else []) (none_from file i f le) ∙ elim (cases_lt f j) [
              | inl lt ↦ (
                  let slot = get_map file_of old.slots.items f at in
                  nothing (before file j f) state
                  (ap (due_blocks dig a.settles.3.facts tree 0 (block_count_of_tree (state_of old) tree)) (sym slot.2)
                  ∙ none_due dig old f tree slot.1 a.settles.3.here (λ is. absurd (let off = none f slot.0 le lt slot.1 is.of_tree in let has = is.has in cc)))
                  )
              | inr far ↦ sym (ap (λ b. if b then due else []) (none_from file j f far))
            ]
          ]

  pub settled_done : {i : ℕ} {parts : Parts D H} → AreSettled conduct dig file tree old i parts → length old.slots.items ≡ i
      → SettlesFiles conduct dig (is_other file) tree old parts
  settled_done {i} a all = (
    a.settles.0,
    a.settles.1,
    a.settles.2,
    same_meant dig tree (block_count_of_tree (state_of old) tree)
        (λ f lt. all_before file i f (omega (arith, lt, all, length-map old.slots.items file_of))) a.settles.3,
  )
