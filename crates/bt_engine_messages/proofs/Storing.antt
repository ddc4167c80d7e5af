-- A missing block that is put into its file's store, in the parts of an engine.
use Rattle.bt_machine.proofs.Base.{[], ◌≡◌, ℕ, List, Some, refl, sym, ap, ◌∙◌, subst, slice_get, slice_set, option_and_then, map, BlockId, BlockState, Missing, Result, Ok, Err, Put, StoreError, Already, Wrong, PutMarked, PutWaiting, PeerKey, calls_of_put, states_after_put}
use Rattle.bt_machine.proofs.Lists.{set_id}
use Rattle.bt_store.specs.Arrival.{IsBlock}
use Rattle.bt_book.specs.Book.{BookState, asked_of}
use Rattle.bt_wire.specs.declared.message.Ask.{Ask}
use Rattle.bt_machine.specs.State.{FileState, PeerState}
use Rattle.bt_machine.specs.Blocks.{state_at, with_file}
use Rattle.bt_machine.specs.Devices.{calls_at}
use Rattle.bt_machine.specs.Arrival.{HasPutEffect, after_put}
use Rattle.bt_machine.specs.Shape.{IsShaped}
use Rattle.bt_engine_state.specs.BlockChange.{asked_after}
use Rattle.bt_engine_state.specs.Parts.{state_of}
use Rattle.bt_engine_state.specs.Ties.{IsTied}
use Rattle.bt_engine_state.specs.declared.counts.Counts.{Counts}
use Rattle.bt_engine_state.specs.declared.parts.Parts.{Parts}
use Rattle.bt_engine_state.proofs.BlockChanges.{asked_then}
use Rattle.bt_engine_messages.specs.Outcome.{effect_of, cancels_to}
use Rattle.bt_engine_messages.specs.PieceSteps.{AreAskers, CanPut, PutsInSlot, PutsBlock, IsBlockOf, state_after}
use Rattle.bt_engine_messages.specs.declared.outcome.Outcome.{Outcome}
use Rattle.bt_engine_messages.proofs.Stores.{has_state}
use Rattle.bt_engine_messages.proofs.StoreChanges.{ChangesParts, ChangesBlock, is_file, file_before, have_calls, state_told_new}
use Rattle.bt_disk.specs.Conduct.{Conduct}

-- the block can be put there
pub can_put : {D H : Type 0} (parts : Parts D H) (b : BlockId) (bytes : List ℕ) → IsTied parts → state_at (state_of parts) b ≡ Some Missing
    → IsBlockOf parts.torrent b bytes → CanPut parts.slots.items parts.trees.items b bytes
can_put parts b bytes tied missing whole =
    let s = has_state parts b Missing tied missing in
    record {
      slot = s.slot;
      store = s.store;
      tree = s.tree;
      has_store = s.has_store;
      missing = s.state;
      whole = subst (λ n. IsBlock n b.block bytes) (sym s.long) (whole s.entry s.listed);
    }

put_sets : (i : ℕ) (answer : Result Put StoreError) (states : List BlockState) → slice_get states i ≡ Some Missing
    → states_after_put i answer states ≡ slice_set states i (state_after answer)
put_sets i (Ok PutMarked) states missing = refl
put_sets i (Ok PutWaiting) states missing = refl
put_sets i (Ok Already) states missing = sym (set_id states i missing)
put_sets i (Ok Wrong) states missing = sym (set_id states i missing)
put_sets i (Err error) states missing = sym (set_id states i missing)

module _ {D H : Type 0} {conduct : Conduct D} {dig : List ℕ → List ℕ} (old next : Parts D H) {b : BlockId}
    {bytes : List ℕ} {answer : Result Put StoreError} {now : BlockState} (tied : IsTied old) (shaped : IsShaped old.torrent (state_of old))
    (missing : state_at (state_of old) b ≡ Some Missing)
    (p : PutsInSlot conduct dig old.slots.items old.trees.items b bytes answer next.slots.items) (is : now ≡ state_after answer) where
  abbrev pub parts : ChangesParts old next b.file p.before p.after p.tree
  parts = record { tied = tied; shaped = shaped; store = p.changes }

  had : slice_get p.before.states b.block ≡ Some Missing
  had = ap (λ o. option_and_then (λ (f : FileState). slice_get f.states b.block) o) (sym (is_file parts).here) ∙ missing

  pub put_changes : ChangesBlock old next b Missing now
  put_changes = record {
    before = p.before;
    after = p.after;
    tree = p.tree;
    parts = parts;
    had = had;
    states = p.states ∙ put_sets b.block answer p.before.states had ∙ ap (λ x. slice_set p.before.states b.block x) (sym is);
  }

  -- no peer is asked for it any longer where it was stored
  told_is : map (asked_then b Missing now) (state_of old).peers ≡ map (after_put b answer) (state_of old).peers
  told_is = ap (λ (x : BlockState). map (asked_then b Missing x) (state_of old).peers) is ∙ told_where answer
    where
      told_where : (answer : Result Put StoreError) → map (asked_then b Missing (state_after answer)) (state_of old).peers ≡ map (after_put b answer) (state_of old).peers
      told_where (Ok PutMarked) = refl
      told_where (Ok PutWaiting) = refl
      told_where (Ok Already) = refl
      told_where (Ok Wrong) = refl
      told_where (Err error) = refl

  pub puts_block : (book : BookState) (counts : Counts) → ((key : PeerKey) → asked_of book key ≡ asked_after b Missing now (asked_of old.book key))
      → (others : List PeerKey) → AreAskers old.book b others
      → (ask : Ask) (outcome : Outcome) → ((p : PeerState) → HasPutEffect b (cancels_to ask others) answer (effect_of p outcome []))
      → PutsBlock conduct dig old b ask bytes outcome (record old { slots = next.slots; book = book; counts = counts })
  unfolding put_changes
  puts_block book counts asked others askers ask outcome effect = record {
    others = others;
    calls = calls_at b.file (calls_of_put b.block bytes answer);
    askers = askers;
    made = have_calls parts (calls_of_put b.block bytes answer) p.made;
    puts = λ q. record {
      file = file_before parts;
      tree = p.tree;
      result = answer;
      is_file = is_file parts;
      due = p.due;
      made = refl;
      has_effect = effect q;
      after = state_told_new put_changes book counts asked
          ∙ ap (λ (peers : List PeerState). record (with_file (state_of old) b.file (record (file_before parts) { states = p.after.states })) { peers = peers }) told_is
          ∙ ap (λ (states : List BlockState). record (with_file (state_of old) b.file (record (file_before parts) { states = states })) {
            peers = map (after_put b answer) (state_of old).peers;
          }) p.states;
    };
  }
