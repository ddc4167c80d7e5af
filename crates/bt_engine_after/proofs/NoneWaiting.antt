-- Where no block waits, there is nothing to settle in other files.
use Rattle.bt_machine.proofs.Base.{[], ◌≡◌, ℕ, ◌<◌, Bool, true, false, not, ◌&&◌, ◌==◌, if◌then◌else◌, List, ◌++◌, map, flat_map, Some, refl, sym, ap, ◌∙◌, arith, slice_get, Facts, waiting_blocks}
use Rattle.std.proofs.lemmas.List.Elements.{filter_agree}
use Rattle.bt_store.proofs.Reviews.{nothing_waits}
use Rattle.bt_machine.proofs.Lists.{get_some}
use Rattle.bt_machine.specs.State.{EngineState, FileState, mark_of}
use Rattle.bt_machine.specs.Hints.{add_hints}
use Rattle.bt_machine.specs.Blocks.{file_numbers, is_marked_in, all_blocks, has_become, new_marked_blocks}
use Rattle.bt_machine.specs.Settling.{SettlesIn, settling_notes}
use Rattle.bt_machine.specs.Adopting.{is_other}
use Rattle.bt_engine_state.specs.Parts.{state_of, disks_of}
use Rattle.bt_engine_state.specs.Ties.{NoneWaits}
use Rattle.bt_engine_state.specs.declared.parts.Parts.{Parts}
use Rattle.bt_engine_state.proofs.DeviceCalls.{have_none}
use Rattle.bt_engine_after.specs.PartsSteps.{block_count_of_tree}
use Rattle.bt_engine_after.specs.SettlingSteps.{SettlesOthers}
use Rattle.bt_engine_after.proofs.Ranges.{keeps_none}
use Rattle.bt_engine_after.proofs.Settlements.{alike_meant, settles_none}
use Rattle.bt_disk.specs.Conduct.{Conduct}

-- nothing has become marked since
no_news : (s : EngineState) → new_marked_blocks s s ≡ []
no_news s =
    filter_agree (has_become is_marked_in s s) (λ b. false) (λ b. never (is_marked_in s b)) (all_blocks s) ∙ keeps_none (all_blocks s)
  where
    never : (t : Bool) → t && not t ≡ false
    never true = refl
    never false = refl

no_marks : (s : EngineState) (logged : Bool) → (if logged then [] ++ map (λ b. mark_of b) (new_marked_blocks s s) else []) ≡ []
no_marks s true = ap (map (λ b. mark_of b)) (no_news s)
no_marks s false = refl

nothing_due : (dig : List ℕ → List ℕ) (s : EngineState) (count : ℕ) → NoneWaits s.files → (k : Facts) (f : ℕ) (state : FileState)
    → slice_get s.files f ≡ Some state → (meant same_tree : Bool)
    → (if meant then (if same_tree then waiting_blocks dig k state.states 0 count else []) else []) ≡ []
nothing_due dig s count none k f state at true true = nothing_waits dig k state.states 0 count (none f state at)
nothing_due dig s count none k f state at true false = refl
nothing_due dig s count none k f state at false same_tree = refl

pub settles_idle : {D H : Type 0} {conduct : Conduct D} {dig : List ℕ → List ℕ} (old : Parts D H)
    (file : ℕ) {tree : ℕ} → tree < old.trees.len → NoneWaits (state_of old).files → SettlesOthers conduct dig file tree old old
settles_idle {conduct = conduct} {dig = dig} old file {tree} here none =
    let s = state_of old in
    let count = block_count_of_tree s tree in
    let k = get_some old.trees.items tree (omega (arith, here, old.trees.ok.0)) in
    let no_file : ℕ → Bool = λ f. false in
    let notes = flat_map (λ f. settling_notes dig k.0 f []) (file_numbers s) in
    let nobody : SettlesIn dig no_file tree 0 count s [] notes s = settles_none dig tree count no_file s k.1 (λ f. refl) in
    record {
      calls = [];
      notes = notes;
      settled = s;
      made = have_none conduct (disks_of old);
      settles = alike_meant dig tree count nobody
          (λ f state at. sym (nothing_due dig s count none nobody.facts f state at (is_other file f) (state.tree == tree)));
      after = sym (ap (λ hs. record s { pending = add_hints s.pending hs }) (no_marks s s.logged));
    }
