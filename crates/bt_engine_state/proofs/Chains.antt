-- The trees and the files of roots: what the torrent's files lead through are the slots of a tree.
use Rattle.bt_machine.proofs.Base.{[], ◌≡◌, ℕ, ◌+◌, ◌<◌, ◌≤◌, List, length, map, get_or, Option, Some, None, is_some, refl, sym, ap, ◌∙◌, subst, arith, slice_get, Facts, File}
use Rattle.std.specs.Prelude.{IsSome}
use Rattle.std.specs.Option.{option_map_or}
use Rattle.std.proofs.lemmas.Simd.{map-map}
use Rattle.bt_store.specs.FileStore.{StoreView}
use Rattle.bt_machine.proofs.Lists.{some_is, some_below, get_some, get_map}
use Rattle.bt_machine.specs.Shape.{IsShaped}
use Rattle.bt_engine_state.specs.Parts.{state_of, file_of}
use Rattle.bt_engine_state.specs.Roots.{Numbers, AreNumbered, number_of, IsFirstFrom, IsOfRoot, IsOfTree, LeadThrough}
use Rattle.bt_engine_state.specs.Ties.{IsTied, root_and_length, root_and_length_of}
use Rattle.bt_engine_state.specs.declared.slot.Slot.{Slot}
use Rattle.bt_engine_state.specs.declared.parts.Parts.{Parts}
use Rattle.bt_engine_state.specs.declared.roots.Roots.{Roots}
use Rattle.bt_engine_state.proofs.Lists.{get_mapped, get_read}

-- what is so of the same numbers
first_alike : {P Q : ℕ → Type 0} {count from first : ℕ} (more : ℕ) → ((j : ℕ) → P j → Q j) → ((j : ℕ) → Q j → P j) → count ≡ more
    → IsFirstFrom P count from first → IsFirstFrom Q more from first
first_alike more there back same is = record {
  inside = is.inside;
  limit = omega (arith, same, is.limit);
  has = λ lt. there _ (is.has (omega (arith, same, lt)));
  is_first = λ j low q. is.is_first j low (back j q);
}

-- ---- a walk through the slots of a tree

-- no slot from one on and below another is of the tree
abbrev pub NoneOfTree : {D H : Type 0} → List (Slot D H) → (tree from to : ℕ) → Type 0
NoneOfTree {D} {H} slots tree from to =
    (j : ℕ) (slot : Slot D H) → from ≤ j → j < to → slice_get slots j ≡ Some slot → slot.tree ≡ tree → slot.store ≡ None

-- where the walk stands: at a slot of the tree, or after the last of all
pub record StandsAt {D H : Type 0} (slots : List (Slot D H)) (tree file : ℕ) : Type 0 where
  pub limit : file ≤ length slots
  pub of_tree : file < length slots → IsOfTree slots tree file

module _ {D H : Type 0} {slots : List (Slot D H)} {tree : ℕ} where
  pub stands_there : {from first : ℕ} → IsFirstFrom (IsOfTree slots tree) (length slots) from first → StandsAt slots tree first
  stands_there is = record { limit = is.limit; of_tree = is.has }

  pub none_passed : {from first : ℕ} → IsFirstFrom (IsOfTree slots tree) (length slots) from first → NoneOfTree slots tree from first
  none_passed {from} {first} is j slot low lt at same = by slot.store refl
    where
      by : (store : Option (StoreView D)) → slot.store ≡ store → store ≡ None
      by None e = refl
      by (Some store) e =
          absurd (let far = is.is_first j low (record { slot = slot; here = at; of_tree = same; some = ap (λ o. is_some o) e }) in omega (arith, far, lt))

  module _ {roots : Roots} (lead : LeadThrough slots roots tree) where
    -- the walk begins
    pub walk_begins : (first : ℕ) → first ≡ get_or roots.first_files.items tree first → IsFirstFrom (IsOfTree slots tree) (length slots) 0 first
    walk_begins first read = lead.first first (get_read roots.first_files.items tree first lead.begins read)

    -- and goes on
    pub walk_goes_on : {file : ℕ} (next : ℕ) → StandsAt slots tree file → file < length slots → next ≡ get_or roots.next_files.items file next
        → IsFirstFrom (IsOfTree slots tree) (length slots) (file + 1) next
    walk_goes_on {file} next at lt read = lead.next file next (at.of_tree lt) (get_read roots.next_files.items file next (omega (arith, lt, lead.size)) read)

-- ---- the number of a root

module _ (trees : List Facts) (numbers : Numbers) (root : List ℕ) (are : AreNumbered (map (λ k. k.root) trees) numbers) where
  pub numbered_tree : (t : ℕ) → number_of numbers root ≡ Some t → (k : Facts) × (slice_get trees t ≡ Some k) × (k.root ≡ root)
  numbered_tree t is = get_map (λ (k : Facts). k.root) trees t ((are t root).0 is)

  pub number_below : (t : ℕ) → number_of numbers root ≡ Some t → t < length trees
  number_below t is = some_below trees t (numbered_tree t is).1

  -- each tree of the root has its number
  pub number_is : (t : ℕ) {k : Facts} → slice_get trees t ≡ Some k → k.root ≡ root → number_of numbers root ≡ Some t
  number_is t {k} here same = sym (ap (number_of numbers) same) ∙ (are t k.root).1 (get_mapped (λ (k : Facts). k.root) trees t here)

-- ---- what ties an engine's parts

module _ {D H : Type 0} {parts : Parts D H} (tied : IsTied parts) where
  -- the trees' roots, each at the number of its tree
  pub roots_numbered : AreNumbered (map (λ k. k.root) parts.trees.items) parts.roots.trees
  roots_numbered =
      subst (λ (roots : List (List ℕ)). AreNumbered roots parts.roots.trees) (map-map (λ p. p.0) root_and_length parts.trees.items) tied.roots.numbered

  module _ (shaped : IsShaped parts.torrent (state_of parts)) (t : ℕ) {k : Facts} (stands : slice_get parts.trees.items t ≡ Some k) where
    -- the first file of the tree
    first_number : (n : ℕ) × (slice_get parts.roots.first_files.items t ≡ Some n) × (root_and_length_of parts.torrent.files n ≡ root_and_length k)
    first_number =
        get_map (root_and_length_of parts.torrent.files) parts.roots.first_files.items t
        (ap (λ ps. slice_get ps t) (sym tied.roots.firsts.same) ∙ get_mapped root_and_length parts.trees.items t stands)

    first_said : (n : ℕ) (file : File) → slice_get parts.torrent.files n ≡ Some file → root_and_length_of parts.torrent.files n ≡ root_and_length k → (file.root ≡ k.root) × (file.length ≡ k.file_length)
    first_said n file listed is =
        let said : root_and_length_of parts.torrent.files n ≡ (file.root, file.length) = ap (λ o. option_map_or (λ (f : File). (f.root, f.length)) o ([], 0)) listed in
        (ap (λ p. p.0) (sym said ∙ is), ap (λ p. p.1) (sym said ∙ is))

    has_byte : 0 < k.file_length
    has_byte =
        let n = first_number in
        let first = tied.roots.firsts.each t n.0 n.1 in
        omega (arith, first.some, (first_said n.0 first.file first.listed n.2).1)

    pub first_of_root : (n : ℕ) → slice_get parts.roots.first_files.items t ≡ Some n → IsFirstFrom (IsOfRoot parts.torrent.files k.root) (length parts.torrent.files) 0 n
    first_of_root n at =
        let m = first_number in
        let first = tied.roots.firsts.each t n at in
        let is : root_and_length_of parts.torrent.files n ≡ root_and_length k = ap (root_and_length_of parts.torrent.files) (some_is (sym at ∙ m.1)) ∙ m.2 in
        let root = (first_said n first.file first.listed is).0 in
        let below = some_below parts.torrent.files n first.listed in
        record {
          inside = omega arith;
          limit = omega (arith, below);
          has = λ lt. record { file = first.file; listed = first.listed; some = first.some; same_root = root };
          is_first = λ j low of. first.is_first j of.file of.listed of.some (of.same_root ∙ sym root);
        }

    -- no other tree has its root
    own_tree : (u : ℕ) {j : Facts} → slice_get parts.trees.items u ≡ Some j → j.root ≡ k.root → u ≡ t
    own_tree u {j} there same =
        some_is (sym (number_is parts.trees.items parts.roots.trees k.root roots_numbered u there same)
        ∙ number_is parts.trees.items parts.roots.trees k.root roots_numbered t stands refl)

    has_store : (store : Option (StoreView D)) {n : ℕ} → (store ≡ None → n ≡ 0) → 0 < n → IsSome store
    has_store None empty some = absurd (omega (arith, empty refl, some))
    has_store (Some store) empty some = refl

    -- a file of the root has a slot of the tree
    of_tree : (j : ℕ) → IsOfRoot parts.torrent.files k.root j → IsOfTree parts.slots.items t j
    of_tree j of =
        let below = some_below parts.torrent.files j of.listed in
        let slot = get_some parts.slots.items j (omega (arith, below, tied.count)) in
        let fits = tied.each j slot.0 slot.1 in
        let long : fits.file.length ≡ of.file.length = ap (λ (f : File). f.length) (some_is (sym fits.listed ∙ of.listed)) in
        let shape = shaped.each j of.file (file_of slot.0) of.listed (get_mapped file_of parts.slots.items j slot.1) in
        let has = shape.has_tree of.some in
        record {
          slot = slot.0;
          here = slot.1;
          of_tree = own_tree slot.0.tree has.1 (has.2 ∙ of.same_root);
          some = has_store slot.0.store fits.empty (omega (arith, long, of.some));
        }

    some_store : (store : Option (StoreView D)) → IsSome store → (s : StoreView D) × (store ≡ Some s)
    some_store None some = absurd cc
    some_store (Some s) some = (s, refl)

    -- and such a slot is of a file of the root
    of_root : (j : ℕ) → IsOfTree parts.slots.items t j → IsOfRoot parts.torrent.files k.root j
    of_root j of =
        let fits = tied.each j of.slot of.here in
        let store = some_store of.slot.store of.some in
        let tree = fits.some store.0 store.1 in
        let there : slice_get parts.trees.items of.slot.tree ≡ Some k = ap (slice_get parts.trees.items) of.of_tree ∙ stands in
        let long : k.file_length ≡ fits.file.length = ap (λ (f : Facts). f.file_length) (some_is (sym there ∙ tree.stands)) ∙ tree.same ∙ tree.long in
        let some : 0 < fits.file.length = omega (arith, long, has_byte) in
        let shape = shaped.each j fits.file (file_of of.slot) fits.listed (get_mapped file_of parts.slots.items j of.here) in
        let has = shape.has_tree some in
        record {
          file = fits.file;
          listed = fits.listed;
          some = some;
          same_root = sym has.2 ∙ ap (λ (f : Facts). f.root) (some_is (sym has.1 ∙ there));
        }

    pub tree_leads : LeadThrough parts.slots.items parts.roots t
    tree_leads =
        let n = first_number in
        record {
          begins = some_below parts.roots.first_files.items t n.1;
          size = tied.roots.nexts.size ∙ sym tied.count;
          first = λ first at. first_alike (length parts.slots.items) of_tree of_root (sym tied.count) (first_of_root first at);
          next = λ i next of at.
              let o = of_root i of in
              first_alike (length parts.slots.items) of_tree of_root (sym tied.count)
              (subst (λ (root : List ℕ). IsFirstFrom (IsOfRoot parts.torrent.files root) (length parts.torrent.files) (i + 1) next) o.same_root
              (tied.roots.nexts.each i next o.file o.listed o.some at));
        }
