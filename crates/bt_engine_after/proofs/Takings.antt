-- Groups of a file that are taken in one after the other.
use Rattle.bt_machine.proofs.Base.{[], ◌≡◌, ℕ, ◌<◌, ◌≤◌, Bool, true, List, ◌∷◌, ◌++◌, length, map, Result, Ok, Err, refl, sym, ap, ◌∙◌, subst, arith, append-nil, if◌then◌else◌, slice_set, inl, inr, Facts, blocks_of, IsRooted, block_count, BlockRead, call_of, Adopts, known, accepted, Adopted, BlockState}
use Rattle.std.specs.Prelude.{IfErr}
use Rattle.std.specs.List.{AllZip}
use Rattle.std.proofs.lemmas.List.{map-append}
use Rattle.std.proofs.lemmas.Grind.{flat_map-append}
use Rattle.std.proofs.Common.{set-set}
use Rattle.bt_disk.specs.Calls.{HasCalls}
use Rattle.bt_disk.specs.Law.{NoCallsLead, CallsCompose}
use Rattle.bt_store.specs.FileStore.{StoreView}
use Rattle.bt_machine.proofs.Lists.{set_same, set_id}
use Rattle.bt_machine.specs.Hints.{add_hints}
use Rattle.bt_machine.specs.State.{EngineState, Hint, mark_of}
use Rattle.bt_machine.specs.Devices.{DeviceCalls, reads_at}
use Rattle.bt_machine.specs.Blocks.{with_file, with_tree, new_marked_blocks}
use Rattle.bt_machine.specs.Request.{IsFile}
use Rattle.bt_machine.specs.Adopting.{IsProof, proof_keys, AdoptsGroup, AdoptsGroups, nothing_adopted, adopted_together, unread, read}
use Rattle.bt_engine_state.specs.Ties.{StillKnows}
use Rattle.bt_engine_state.proofs.Leaves.{still, still_then, still_joined}
use Rattle.bt_engine_after.specs.GroupSteps.{FileView, TakesGroup, StopsGroup, not_read, not_taken}
use Rattle.bt_engine_after.specs.GroupsSteps.{all_reads, file_with, AreTaken, TakesGroups, StopsTaking}
use Rattle.bt_engine_after.specs.MarksSteps.{newly_marked, marks_in}
use Rattle.bt_engine_after.proofs.Borders.{IsBorder, at_start, behind_group_of}
use Rattle.bt_engine_after.proofs.NewMarks.{length_judged, length_marked}
use Rattle.bt_engine_after.proofs.News.{group_news}
use Rattle.bt_disk.specs.Conduct.{Conduct}

-- ---- a group leaves as many states as there were

pub length_adopted : {dig : List ℕ → List ℕ} {k grown : Facts} {from : ℕ} {old new : List BlockState} {reads : List BlockRead} {adopted : Adopted}
    → Adopts dig k from old reads adopted grown new → length new ≡ length old
length_adopted {dig} {k} {grown} {from} {old} (known count rs group order) = length_judged dig k true rs old
length_adopted {dig} {k} {grown} {from} {old} (accepted anchor first count rs g group whole accepts) = length_marked first count old
length_adopted _ = refl

-- nor does a tree lose a leaf
still_adopted : {dig : List ℕ → List ℕ} {k grown : Facts} {from : ℕ} {old new : List BlockState} {reads : List BlockRead} {adopted : Adopted}
    → Adopts dig k from old reads adopted grown new → StillKnows k grown
still_adopted (accepted anchor first count rs g group whole accepts) = still_joined accepts.joins
still_adopted {k = k} _ = still k

-- ---- one group more

abbrev summed : (next marked faults : ℕ) → Adopted
summed next marked faults = record { next = next; anchor = 0; marked = marked; faults = faults }

same_sums : (next : ℕ) {m n e f : ℕ} → m ≡ n → e ≡ f → summed next m e ≡ summed next n f
same_sums next {m} {n} {e} {f} marks faults = ap (λ x. summed next x e) marks ∙ ap (summed next n) faults

-- the engine in which a file has these states and its tree is this, and these hints are pending
abbrev pub taken_state : EngineState → (file tree : ℕ) → List BlockState → Facts → List Hint → EngineState
taken_state s file tree states grown left = record (with_tree (with_file s file (file_with tree states)) tree grown) { pending = left }

module _ {dig : List ℕ → List ℕ} where
  groups_more : (s : EngineState) {mid new : EngineState} (file from : ℕ) (groups : List DeviceCalls) {calls : DeviceCalls} (total : Adopted) {one : Adopted}
      → AdoptsGroups dig s file from groups total mid → AdoptsGroup dig mid file total.next calls one new
      → AdoptsGroups dig s file from (groups ++ calls ∷ []) (adopted_together total one) new
  groups_more s {mid} {new} file from [] {calls} total {one} g more = (
    one,
    new,
    nothing_adopted one.next,
    subst (λ n. AdoptsGroup dig s file n calls one new) (ap (λ t. t.next) g.0) (subst (λ (m : EngineState). AdoptsGroup dig m file total.next calls one new) g.1 more),
    (refl, refl),
    ap (λ t. adopted_together t one) g.0 ∙ same_sums one.next (omega arith) (omega arith),
  )
  groups_more s {mid} {new} file from (first ∷ groups) {calls} total {one} g more = (
    g.0,
    g.1,
    adopted_together g.2 one,
    g.3,
    groups_more g.1 file g.0.next groups g.2 g.4 (subst (λ n. AdoptsGroup dig mid file n calls one new) (ap (λ t. t.next) g.5) more),
    ap (λ t. adopted_together t one) g.5 ∙ same_sums one.next (omega arith) (omega arith),
  )

  group_in : {k grown : Facts} {from : ℕ} {old new : List BlockState} {reads : List BlockRead} {adopted : Adopted} {s : EngineState} {file tree : ℕ} {logged : Bool} {pending left : List Hint}
      (proofs : List Hint) → AllZip (IsProof dig grown) (proof_keys grown from adopted) proofs
      → left ≡ add_hints pending (if logged then proofs ++ marks_in file (newly_marked old new) else []) → s.logged ≡ logged → s.pending ≡ pending
      → IsFile s file (file_with tree old) k → from < blocks_of k → Adopts dig k from old reads adopted grown new
      → AdoptsGroup dig s file from (reads_at file k.file_length reads) adopted (taken_state s file tree new grown left)
  group_in {k} {grown} {from} {old} {new} {reads} {adopted} {s} {file} {tree} {logged} {pending} {left} proofs proves leaves has_log waits is inside adopts =
      let then_state = with_tree (with_file s file (file_with tree new)) tree grown in
      let marks = marks_in file (newly_marked old new) in
      let hints : left ≡ add_hints s.pending (if s.logged then proofs ++ map (λ b. mark_of b) (new_marked_blocks s (with_tree (with_file s file (file_with tree new)) tree grown)) else []) =
      leaves ∙ ap (λ p. add_hints p (if logged then proofs ++ marks else [])) (sym waits)
      ∙ ap (λ b. add_hints s.pending (if b then proofs ++ marks else [])) (sym has_log)
      ∙ ap (λ ms. add_hints s.pending (if s.logged then proofs ++ ms else [])) (sym (group_news s file tree new grown is.here)) in
      record {
        state = file_with tree old;
        tree = k;
        grown = grown;
        reads = reads;
        states = new;
        proofs = proofs;
        is_file = is;
        left = inside;
        adopts = adopts;
        made = refl;
        proves = proves;
        after = ap (λ p. record then_state { pending = p }) hints;
      }

  taken_more : {D : Type 0} {conduct : Conduct D} {file : ℕ} {logged : Bool} (old : FileView D) {mid new : FileView D}
      (groups : List (List BlockRead)) (total : Adopted) {one : Adopted}
      → AreTaken dig file logged old groups total mid → mid.tree.file_length ≡ old.tree.file_length → total.next < blocks_of mid.tree
      → (group : TakesGroup conduct dig file logged total.next mid one new)
      → AreTaken dig file logged old (groups ++ group.reads ∷ []) (adopted_together total one) new
  taken_more {file = file} {logged = logged} old {mid} {new} groups total {one} taken same inside group = λ s tree has_log had is.
      let first = taken_state s file tree mid.store.states mid.tree mid.pending in
      let more = group_in {s = first} group.proofs group.proves group.leaves has_log refl
      (record { here = set_same s.files file is.here; has_tree = set_same s.trees tree is.has_tree }) inside group.adopts.adopts in
      let after : taken_state first file tree new.store.states new.tree new.pending ≡ taken_state s file tree new.store.states new.tree new.pending =
      ap (λ fs. record s { files = fs; trees = slice_set (slice_set s.trees tree mid.tree) tree new.tree; pending = new.pending })
      (set-set s.files file (file_with tree mid.store.states) (file_with tree new.store.states))
      ∙ ap (λ ts. record s { files = slice_set s.files file (file_with tree new.store.states); trees = ts; pending = new.pending }) (set-set s.trees tree mid.tree new.tree) in
      let list : map (reads_at file old.tree.file_length) groups ++ reads_at file mid.tree.file_length group.reads ∷ [] ≡ map (reads_at file old.tree.file_length) (groups ++ group.reads ∷ []) =
      ap (λ n. map (reads_at file old.tree.file_length) groups ++ reads_at file n group.reads ∷ []) same ∙ sym (map-append (reads_at file old.tree.file_length) groups (group.reads ∷ [])) in
      subst (λ cs. AdoptsGroups dig s file 0 cs (adopted_together total one) (taken_state s file tree new.store.states new.tree new.pending)) list
      (subst (λ (t : EngineState). AdoptsGroups dig s file 0 (map (reads_at file old.tree.file_length) groups ++ reads_at file mid.tree.file_length group.reads ∷ []) (adopted_together total one) t) after
      (groups_more s file 0 (map (reads_at file old.tree.file_length) groups) total (taken s tree has_log had is) more))

taken_none : {D : Type 0} (dig : List ℕ → List ℕ) (file : ℕ) (logged : Bool) (old : FileView D) → AreTaken dig file logged old [] (nothing_adopted 0) old
taken_none dig file logged old = λ s tree has_log had is. (
  refl,
  ap (λ fs. record s { files = fs; trees = slice_set s.trees tree old.tree; pending = old.pending }) (set_id s.files file is.here)
      ∙ ap (λ ts. record s { trees = ts; pending = old.pending }) (set_id s.trees tree is.has_tree) ∙ ap (λ p. record s { pending = p }) (sym had),
)

pub if_err_by : {X E : Type 0} {T : Type 0} (r : Result X E) → T → IfErr r (λ e. T)
if_err_by (Ok y) t = tt
if_err_by (Err e) t = t

-- ---- the loop over the groups

module _ {D : Type 0} {conduct : Conduct D} {dig : List ℕ → List ℕ} {file : ℕ} {logged : Bool} {old : FileView D} where
  takes_more : {mid new : FileView D} {total one : Adopted}
      → CallsCompose conduct → TakesGroups conduct dig file logged old total mid → total.next < blocks_of mid.tree
      → TakesGroup conduct dig file logged total.next mid one new → TakesGroups conduct dig file logged old (adopted_together total one) new
  takes_more {mid} {new} {total} {one} compose takes inside group =
      let groups = takes.groups in
      let reads = group.reads in
      let adopted = group.adopts in
      let call = call_of old.store.file_length in
      let list : map (call_of old.store.file_length) (all_reads (takes.groups ++ group.reads ∷ [])) ≡ map (call_of old.store.file_length) (all_reads takes.groups) ++ map (call_of old.store.file_length) group.reads =
      ap (map (call_of old.store.file_length)) (flat_map-append (λ rs. rs) takes.groups (group.reads ∷ []) ∙ ap (λ rs. all_reads takes.groups ++ rs) (append-nil group.reads))
      ∙ map-append (call_of old.store.file_length) (all_reads takes.groups) group.reads in
      record {
        groups = takes.groups ++ group.reads ∷ [];
        calls = rw list
            (compose old.store.disk mid.store.disk new.store.disk (map call (all_reads groups)) (map call reads) takes.calls
            (subst (λ n. HasCalls conduct mid.store.disk (map (call_of n) reads) new.store.disk) takes.same_file adopted.calls));
        taken = taken_more old groups total takes.taken takes.still.long inside group;
        same_file = adopted.same_file ∙ takes.same_file;
        same_size = length_adopted adopted.adopts ∙ takes.same_size;
        still = still_then takes.still (still_adopted adopted.adopts);
      }

-- so far groups were taken in, and their sums are within the blocks that they have
pub record AreTaking {D : Type 0} (conduct : Conduct D) (dig : List ℕ → List ℕ) (file : ℕ) (logged : Bool) (old : FileView D)
    (total : Adopted) (new : FileView D) : Type 0 where
  pub takes : TakesGroups conduct dig file logged old total new
  pub border : IsBorder new.tree total.next
  pub marked : total.marked ≤ total.next
  pub faulty : total.faults ≤ total.next
  pub inside : total.next ≤ blocks_of old.tree

module _ {D : Type 0} {conduct : Conduct D} {dig : List ℕ → List ℕ} {file : ℕ} {logged : Bool} {old : FileView D} where
  pub taking_begun : NoCallsLead conduct → AreTaking conduct dig file logged old (nothing_adopted 0) old
  taking_begun none = record {
    takes = record { groups = []; calls = none old.store.disk; taken = taken_none dig file logged old; same_file = refl; same_size = refl; still = still old.tree };
    border = at_start refl;
    marked = omega arith;
    faulty = omega arith;
    inside = omega arith;
  }

  pub taking_more : CallsCompose conduct → {mid new : FileView D} {total one : Adopted} → IsRooted dig mid.tree
      → AreTaking conduct dig file logged old total mid → total.next < blocks_of old.tree
      → TakesGroup conduct dig file logged total.next mid one new → one.next ≤ blocks_of old.tree
      → AreTaking conduct dig file logged old (adopted_together total one) new
  taking_more compose {mid} {new} {total} {one} rooted a lt group within =
      let here : total.next < blocks_of mid.tree = subst (λ n. total.next < block_count n) (sym a.takes.still.long) lt in
      let more = behind_group_of rooted here a.border group.adopts.adopts in
      record {
        takes = takes_more compose a.takes here group;
        border = more.border;
        marked = (let own = more.marked in let ones = a.marked in omega arith);
        faulty = (let own = more.faults in let ones = a.faulty in omega arith);
        inside = within;
      }

  -- the next group was refused memory
  pub taking_stopped : NoCallsLead conduct → {mid : FileView D} {new : StoreView D} {total : Adopted}
      → AreTaking conduct dig file logged old total mid
      → StopsGroup conduct dig mid.tree total.next mid.store new → StopsTaking conduct dig file logged old (record mid { store = new })
  taking_stopped none {mid} {new} {total} a (not_taken reads stop) = record {
    done = total;
    before = mid.store;
    last = reads;
    takes = a.takes;
    calls = stop.calls;
    stops = elim stop.in_order [
      | inl no_read ↦ unread no_read
      | inr each ↦ read stop.anchor stop.first stop.count stop.group each
    ];
    others = stop.others;
  }
  taking_stopped none {mid} {new} {total} a (not_read same) = record {
    done = total;
    before = mid.store;
    last = [];
    takes = a.takes;
    calls = subst (λ (v : StoreView D). HasCalls conduct mid.store.disk [] v.disk) (sym same) (none mid.store.disk);
    stops = unread refl;
    others = same ∙ ap (λ (v : StoreView D). record mid.store { disk = v.disk }) (sym same);
  }
