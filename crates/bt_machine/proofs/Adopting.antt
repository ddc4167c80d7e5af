-- How what a file's device has already is taken in: what it marks, and what becomes of trees.
use Rattle.bt_machine.proofs.Base.{[], ◌≡◌, ◌≢◌, ℕ, ◌⊎◌, inl, inr, Bool, true, false, not, List, ◌∷◌, Some, refl, sym, ap, ◌∙◌, subst, slice_get, option_map, Contains, flat_map, option_and_then, eq-eqb, Contains-append_left, Contains-append_right, Call, Facts, given, call_of, IsRight, Marked, Adopted, Adopts, accepted, AdoptMarksByBytes, value_at, held_at, blocks_of, value_inside, value_covers, value_padding, cases_node, BlockId}
use Rattle.bt_machine.proofs.Machine.{Digest, Adopt, FileState, EngineState, reads_at, state_at, IsFile, judged_file, SettlesIn, AdoptsGroup, AdoptsGroups, is_other, AdoptsFile, StopsAdopting, StepAdopt, no_file, busy, empty, adopts, not_adopted as no_memory, IsFound, IsMarkedBy, read_back, found}
use Rattle.bt_machine.proofs.Lists.{set_same, set_other, map_contains, and_then_some}
use Rattle.bt_machine.proofs.Marks.{state_is, file_marked, settle_marks}

-- a tree of the same length and root that has every value that the other has
pub record Extends (dig : Digest) (k grown : Facts) : Type 0 where
  pub file_length : grown.file_length ≡ k.file_length
  pub root : grown.root ≡ k.root
  pub values : (layer i : ℕ) (d : List ℕ) → value_at dig k layer i ≡ Some d → value_at dig grown layer i ≡ Some d

-- so is one that has each digest that the other holds
pub value_kept : (dig : Digest) (old new : Facts) → new.file_length ≡ old.file_length
    → ((l i : ℕ) (d : List ℕ) → held_at old l i ≡ Some d → held_at new l i ≡ Some d) → (l i d : _) → value_at dig old l i ≡ Some d
    → value_at dig new l i ≡ Some d
value_kept dig old new size kept l i d e =
    let blocks : blocks_of new ≡ blocks_of old = cc in
    elim (cases_node (blocks_of old) l i (value_inside dig old l i d e)) [
      | inl covers ↦ value_covers dig new l i (rw blocks covers) ∙ kept l i d (sym (value_covers dig old l i covers) ∙ e)
      | inr past ↦ value_padding dig new l i (rw blocks past) ∙ sym (value_padding dig old l i past) ∙ e
    ]

module _ (dig : Digest) where
  -- the file has a tree that extends this one
  pub record HasExtended (s : EngineState) (file : ℕ) (k : Facts) : Type 0 where
    pub state : FileState
    pub tree : Facts
    pub is_file : IsFile s file state tree
    pub extends : Extends dig k tree

  -- bytes that are right stay right
  pub right_in : {k grown i bytes : _} → Extends dig k grown → IsRight dig k i bytes → IsRight dig grown i bytes
  right_in {i} extends right = record { whole = cc; leaf = extends.values 0 i _ right.leaf }

  extends_then : {k mid grown : _} → Extends dig k mid → Extends dig mid grown → Extends dig k grown
  extends_then e f = record {
    file_length = cc;
    root = cc;
    values = λ layer i d v. f.values layer i d (e.values layer i d v);
  }

  same_tree : {k : _} → Extends dig k k
  same_tree = record { file_length = refl; root = refl; values = λ layer i d v. v }

  adopt_extends : {k grown from old new reads adopted : _} → Adopts dig k from old reads adopted grown new → Extends dig k grown
  adopt_extends {k} (accepted anchor first count rs g group whole accepts) = record {
    file_length = accepts.joins.file_length;
    root = accepts.joins.root;
    values = value_kept dig k g accepts.joins.file_length accepts.joins.kept;
  }
  adopt_extends _ = same_tree

  -- a group's own tree
  pub group_extends : {s new file from calls adopted : _} (g : AdoptsGroup dig s file from calls adopted new) → Extends dig g.tree g.grown
  group_extends g = adopt_extends g.adopts

  pub group_file : {s new file from calls adopted : _} (g : AdoptsGroup dig s file from calls adopted new)
      → IsFile new file (record g.state { states = g.states }) g.grown
  group_file {s} {file} g = record {
    here = ap (λ x. slice_get x.files file) g.after ∙ set_same s.files file g.is_file.here;
    has_tree = ap (λ x. slice_get x.trees g.state.tree) g.after ∙ set_same s.trees g.state.tree g.is_file.has_tree;
  }

  pub group_forward : {s new file from calls adopted : _} → AdoptsGroup dig s file from calls adopted new
      → {f k : _} → IsFile s file f k → HasExtended new file k
  group_forward {s} g {f} {k} is =
      let state : g.state ≡ f = cc in
      let tree : g.tree ≡ k = cc in
      record {
        state = record g.state { states = g.states };
        tree = g.grown;
        is_file = group_file g;
        extends = rw (← tree) (group_extends g);
      }

  file_in : {m new file f k : _} → new ≡ m → IsFile m file f k → IsFile new file f k
  file_in {file} {f} {k} e is = rw e is

  groups_forward : (s : _) {new file : _} (from groups : _) (total : Adopted) → AdoptsGroups dig s file from groups total new
      → {f k : _} → IsFile s file f k → HasExtended new file k
  groups_forward s from [] total g {f} {k} is = record { state = f; tree = k; is_file = file_in g.1 is; extends = same_tree }
  groups_forward s from (calls ∷ groups) total g is =
      let one = group_forward g.3 is in
      let more = groups_forward g.1 g.0.next groups g.2 g.4 one.is_file in
      record { state = more.state; tree = more.tree; is_file = more.is_file; extends = extends_then one.extends more.extends }

  -- settling leaves trees as they are
  settle_forward : {is_meant t from count old new calls notes : _} → SettlesIn dig is_meant t from count old calls notes new
      → {file f k : _} → IsFile old file f k → HasExtended new file k
  settle_forward s {file} {f} {k} is = record {
    state = judged_file dig s.facts (s.reads file) f;
    tree = k;
    is_file = record {
      here = s.files file ∙ ap (option_map (judged_file dig s.facts (s.reads file))) is.here;
      has_tree = cc;
    };
    extends = same_tree;
  }

  -- ---- marks

  module _ (marks : AdoptMarksByBytes dig) (b : BlockId) where
    -- a block that was found in some calls is found in more of them, and in a later engine
    found_later : {file calls more mid new : _} → ((c : ℕ × Call) → Contains calls c → Contains more c)
        → ((f : FileState) (k : Facts) → IsFile mid b.file f k → HasExtended new b.file k) → IsFound dig (Adopt file) calls mid b
        → IsFound dig (Adopt file) more new b
    found_later {more} {mid} {new} among forward x =
        let f = and_then_some (λ q. slice_get mid.trees q.tree) _ x.has_tree in
        let h = forward f.0 x.tree (record { here = f.1; has_tree = f.2 }) in
        let one : call_of x.tree.file_length (given b.block x.bytes) ≡ call_of h.tree.file_length (given b.block x.bytes) = cc in
        record {
          tree = h.tree;
          bytes = x.bytes;
          is_adopt = x.is_adopt;
          has_tree = cc;
          read = rw (← one) (among _ x.read);
          right = right_in h.extends x.right;
        }

    group_marks : {s new file from calls adopted : _} → AdoptsGroup dig s file from calls adopted new
        → state_at new b ≡ Some Marked → (state_at s b ≡ Some Marked) ⊎ IsFound dig (Adopt file) calls new b
    group_marks {s} {new} {file} {from} {calls} {adopted} g m = elim (file_marked s _ b (subst (λ x. state_at x b ≡ Some Marked) g.after m)) [
      | inl now ↦ elim (marks g.tree g.grown from g.state.states g.states g.reads adopted g.adopts b.block now.1) [
        | inl before ↦ inl (state_is s b (ap (slice_get s.files) now.0 ∙ g.is_file.here) before)
        | inr r ↦
            let is = group_file g in
            let read =
            subst (λ cs. Contains cs (file, call_of g.tree.file_length (given b.block r.bytes))) (sym g.made) (map_contains (λ read. (file, call_of g.tree.file_length read)) _ r.gives) in
            inr (record {
              tree = g.grown;
              bytes = r.bytes;
              is_adopt = ap (λ n. Adopt n) (sym now.0);
              has_tree = ap (option_and_then (λ q. slice_get new.trees q.tree)) (ap (slice_get new.files) now.0 ∙ is.here) ∙ is.has_tree;
              read = subst (λ n. Contains calls (n, call_of g.grown.file_length (given b.block r.bytes))) (sym now.0)
                  (subst (λ n. Contains calls (file, call_of n (given b.block r.bytes))) (sym (group_extends g).file_length) read);
              right = r.right;
            })
      ]
      | inr old ↦ inl old
    ]

    pub groups_marks : (s : _) {new file : _} (from groups : _) (total : Adopted) → AdoptsGroups dig s file from groups total new
        → state_at new b ≡ Some Marked → (state_at s b ≡ Some Marked) ⊎ IsFound dig (Adopt file) (flat_map (λ c. c) groups) new b
    groups_marks s from [] total g m = inl (rw (← g.1) m)
    groups_marks s {new} {file} from (calls ∷ groups) total g m =
        elim (groups_marks g.1 g.0.next groups g.2 g.4 m) [
          | inl mid ↦ elim (group_marks g.3 mid) [
            | inl old ↦ inl old
            | inr x ↦
                let same : b.file ≡ file = cc in
                inr (found_later (λ c among. Contains-append_left calls (flat_map (λ c. c) groups) c among)
                (λ f k is. rw same (groups_forward g.1 g.0.next groups g.2 g.4 (subst (λ n. IsFile g.1 n f k) same is))) x)
          ]
          | inr x ↦ inr (found_later (λ c among. Contains-append_right calls (flat_map (λ c. c) groups) c among)
              (λ f k is. record { state = f; tree = k; is_file = is; extends = same_tree }) x)
        ]

    -- other files stay as they are
    groups_others : (s new file from groups : _) (total : Adopted) → AdoptsGroups dig s file from groups total new
        → b.file ≢ file → slice_get new.files b.file ≡ slice_get s.files b.file
    groups_others s new file from [] total g apart = cc
    groups_others s new file from (calls ∷ groups) total g apart =
        let one = g.3 in
        groups_others g.1 new file g.0.next groups g.2 g.4 apart ∙ ap (λ x. slice_get x.files b.file) one.after
        ∙ set_other s.files file b.file (record one.state { states = one.states }) apart

    other_file : (file other : ℕ) → is_other file other ≡ true → other ≢ file
    other_file file other e same = by _ (eq-eqb other file same) e
      where
        by : (t : Bool) → t ≡ true → not t ≡ true → ⊥
        by true x y = absurd cc
        by false x y = absurd cc

    file_marks : {s new file calls total : _} → AdoptsFile dig s file calls total new → state_at new b ≡ Some Marked
        → (state_at s b ≡ Some Marked) ⊎ IsMarkedBy dig s (Adopt file) calls new b
    file_marks {s} {new} {file} {total} a m =
        let own = flat_map (λ c. c) a.groups in
        elim (settle_marks a.settles (subst (λ x. state_at x b ≡ Some Marked) a.after m)) [
          | inl mid ↦ elim (groups_marks s 0 _ total a.adopts mid) [
            | inl old ↦ inl old
            | inr x ↦ inr (found (found_later (λ c among. rw a.made (Contains-append_left own a.settling c among))
                (λ f k is. in_new (settle_forward a.settles is)) x))
          ]
          | inr r ↦
              let apart = other_file file _ r.meant in
              let same = groups_others s a.taken_in file 0 _ total a.adopts apart in
              inr (read_back (record {
                tree = r.facts;
                bytes = r.bytes;
                waited = cc;
                due = inr (record {
                  other = file;
                  twin = a.state;
                  own = r.file;
                  is_adopt = refl;
                  apart = λ e. apart (sym e);
                  twin_here = a.here;
                  own_here = cc;
                  one_tree = r.of_tree;
                });
                has_tree = cc;
                read = rw a.made (Contains-append_right own a.settling _ r.read);
                right = r.right;
              }))
        ]
      where
        in_new : {other k : _} → HasExtended a.settled other k → HasExtended new other k
        in_new {other} h = record {
          state = h.state;
          tree = h.tree;
          is_file = record { here = cc; has_tree = cc };
          extends = h.extends;
        }

    stop_marks : {s new file calls : _} → StopsAdopting dig s file calls new → state_at new b ≡ Some Marked
        → (state_at s b ≡ Some Marked) ⊎ IsMarkedBy dig s (Adopt file) calls new b
    stop_marks {s} {file} a m =
        let own = flat_map (λ c. c) a.groups in
        let last = reads_at file a.tree.file_length a.reads in
        elim (groups_marks s 0 _ _ a.adopts m) [
          | inl old ↦ inl old
          | inr x ↦ inr (found (found_later (λ c among. rw a.made (Contains-append_left own last c among))
              (λ f k is. record { state = f; tree = k; is_file = is; extends = same_tree }) x))
        ]

    pub adopt_marks : {s new file calls answer : _} → StepAdopt dig s file calls answer new → state_at new b ≡ Some Marked
        → (state_at s b ≡ Some Marked) ⊎ IsMarkedBy dig s (Adopt file) calls new b
    adopt_marks (no_file x y z e) m = inl (rw (← e) m)
    adopt_marks (busy x y z w e) m = inl (rw (← e) m)
    adopt_marks (empty f x y z w v e) m = inl (rw (← e) m)
    adopt_marks (adopts total x a y) m = file_marks a m
    adopt_marks (no_memory x a y) m = stop_marks a m
