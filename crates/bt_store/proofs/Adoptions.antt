-- What the reads of a group come to.
use Rattle.std.proofs.Common.{◌≡◌, ◌≢◌, ℕ, ◌+◌, ◌-◌, ◌%◌, ◌^◌, ◌<◌, ◌≤◌, inl, inr, List, [], ◌++◌, map, length, take, drop, replicate, refl, sym, ap, ◌∙◌, subst, arith}
use Rattle.std.specs.List.{count_by}
use Rattle.std.proofs.lemmas.List.{take-append-le}
use Rattle.std.proofs.Math.Seq.{take-length}
use Rattle.bt_tree.specs.Tree.{padding_digest}
use Rattle.bt_disk.specs.Conduct.{Conduct}
use Rattle.bt_disk.specs.Calls.{HasCalls}
use Rattle.std.proofs.Math.Nat.{mod-lt}
use Rattle.std.proofs.lemmas.Nat.{div-add-mod', pow_pos}
use Rattle.bt_disk.proofs.CallLists.{has_none}
use Rattle.bt_sparse.specs.SparseTree.{Facts, blocks_of}
use Rattle.bt_sparse.specs.Acceptance.{Accepts, IsRefused}
use Rattle.bt_sparse.specs.declared.claim.ProofError.{ProofError}
use Rattle.bt_sparse.specs.declared.claim.ProofError.TheVariants.{OutOfMemory}
use Rattle.bt_store.specs.FileStore.{StoreView}
use Rattle.bt_store.specs.BlockReads.{BlockRead, call_of}
use Rattle.bt_store.specs.Adoption.{Adopts, none as at_end, known, IsUnknownGroup, claimed_digest, is_whole, leaf_claim, claim_of_reads, marked_group, AreWhole, accepted, refused, short, unread, IsAdopted, StopsAdopting}
use Rattle.bt_store.specs.AdoptionSteps.{AdoptsGroup}
use Rattle.bt_store.specs.GroupsSteps.{AreGroupReads, IsGroupRead}
use Rattle.bt_store.specs.declared.adoption.Adopted.{Adopted}
use Rattle.bt_store.specs.declared.block_states.BlockState.{BlockState}
use Rattle.bt_store.specs.declared.groups.ReadTally.{ReadTally}
use Rattle.bt_store.proofs.GroupReads.{group_size, group_limits}

module _ {D : Type 0} (conduct : Conduct D) (dig : List ℕ → List ℕ) (k : Facts) (from anchor first count : ℕ)
    (old new : StoreView D) where
  -- nothing was read
  pub stops_before : IsUnknownGroup k from anchor first count → StopsAdopting conduct dig k from old [] old
  stops_before group = record {
    calls = has_none conduct old.disk;
    anchor = anchor;
    first = first;
    count = count;
    group = group;
    in_order = inl refl;
    others = refl;
  }

module _ {D : Type 0} (conduct : Conduct D) (dig : List ℕ → List ℕ) (k : Facts) (from anchor first count : ℕ)
    (old new : StoreView D) (reads : List BlockRead) (tally : ReadTally) (digests : List (List ℕ)) where
  pub stops_after : IsUnknownGroup k from anchor first count → IsGroupRead conduct dig old.file_length first count (2 ^ anchor) old.disk reads tally new.disk digests
      → new ≡ record old { disk = new.disk } → StopsAdopting conduct dig k from old reads new
  stops_after group read others = record {
    calls = read.calls;
    anchor = anchor;
    first = first;
    count = count;
    group = group;
    in_order = inr read.are.in_order;
    others = others;
  }

  -- what became of it
  pub adopts_by : (after : StoreView D) (adopted : Adopted) (grown : Facts) → IsUnknownGroup k from anchor first count
      → IsGroupRead conduct dig old.file_length first count (2 ^ anchor) old.disk reads tally new.disk digests
      → new ≡ record old { disk = new.disk } → after ≡ record new { states = after.states }
      → AdoptsGroup dig new.file_length k anchor first count new.states digests tally adopted grown after.states
      → IsAdopted conduct dig k from old reads adopted grown after
  adopts_by after adopted grown group read others claimed adopts = record {
    calls = subst (λ d. HasCalls conduct old.disk (map (call_of old.file_length) reads) d) (sym (ap (λ s. s.disk) claimed)) read.calls;
    adopts = subst (λ s. Adopts dig k from s reads adopted grown after.states) (ap (λ s. s.states) others)
        (adopts from reads group (subst (λ n. AreGroupReads dig n first count (2 ^ anchor) reads tally digests) (sym (ap (λ s. s.file_length) others)) read.are));
    same_file = ap (λ s. s.file_length) claimed ∙ ap (λ s. s.file_length) others;
  }

module _ (dig : List ℕ → List ℕ) (n : ℕ) (k : Facts) (from anchor first count : ℕ) (states : List BlockState) (reads : List BlockRead) (tally : ReadTally)
    (digests : List (List ℕ)) (same : n ≡ k.file_length) (group : IsUnknownGroup k from anchor first count)
    (are : AreGroupReads dig n first count (2 ^ anchor) reads tally digests) where
  whole_reads : count ≤ tally.whole → AreWhole k.file_length first count reads
  whole_reads all =
      let limit = (group_limits dig n first (2 ^ anchor) count reads tally digests are).0 in
      record {
        blocks = are.in_order;
        whole = ap (λ n. count_by (is_whole n) reads) (sym same) ∙ sym are.whole ∙ omega (arith, limit, all);
      }

  claim_is : leaf_claim first digests ≡ claim_of_reads dig k.file_length anchor first reads
  claim_is =
      let size : length reads ≡ count = group_size dig n first (2 ^ anchor) count reads tally digests are in
      ap (leaf_claim first) (
      are.claims ∙ ap (λ n. map (claimed_digest dig n) reads ++ replicate (2 ^ anchor - count) (padding_digest dig 0)) same
      ∙ ap (λ n. map (claimed_digest dig k.file_length) reads ++ replicate (2 ^ anchor - n) (padding_digest dig 0)) (sym size)
      )

  pub adopts_unread : 0 < tally.faults → Adopts dig k from states reads (record { next = first + count; anchor = 0; marked = 0; faults = tally.faults }) k states
  adopts_unread some = rw are.failed (unread anchor first count reads group are.in_order (subst (λ n. 0 < n) are.failed some))

  pub adopts_short : tally.faults ≡ 0 → tally.whole < count
      → Adopts dig k from states reads (record { next = first + count; anchor = anchor; marked = 0; faults = tally.faults }) k states
  adopts_short none few =
      rw none (short anchor first count reads group are.in_order (sym are.failed ∙ none)
      (subst (λ n. count_by (is_whole n) reads < count) same (subst (λ n. n < count) are.whole few)))

  pub adopts_refused : tally.faults ≡ 0 → count ≤ tally.whole → (error : ProofError) → IsRefused dig k (leaf_claim first digests) error → error ≢ OutOfMemory
      → Adopts dig k from states reads (record { next = first + count; anchor = anchor; marked = 0; faults = tally.faults }) k states
  adopts_refused none all error is_refused other =
      rw none (refused anchor first count reads error group (whole_reads all) (subst (λ c. IsRefused dig k c error) claim_is is_refused) other)

  pub adopts_accepted : (grown : Facts) → tally.faults ≡ 0 → count ≤ tally.whole → Accepts dig k (leaf_claim first digests) grown
      → Adopts dig k from states reads (record { next = first + count; anchor = anchor; marked = count; faults = tally.faults }) grown (marked_group first count states)
  adopts_accepted grown none all accepts =
      rw none (accepted anchor first count reads grown group (whole_reads all) (subst (λ c. Accepts dig k c grown) claim_is accepts))

-- a list of digests that was written whole
pub written_whole : {X : Type 0} (n : ℕ) (new old : List X) → length new ≡ n → take n (new ++ drop (length new) old) ≡ new
written_whole n new old size =
    take-append-le n new (drop (length new) old) (omega arith) ∙ ap (λ m. take m new) (sym size) ∙ take-length new

-- ---- the block after a group

-- it lies after the block that was adopted, and not past the file's end
pub record GoesOn (k : Facts) (from next : ℕ) : Type 0 where
  pub onward : from < blocks_of k → from < next
  pub within : next ≤ blocks_of k

unknown_on : (k : Facts) (from anchor first count : ℕ) → IsUnknownGroup k from anchor first count → GoesOn k from (first + count)
unknown_on k from anchor first count group =
    let split : first + from % 2 ^ anchor ≡ from = ap (λ n. n + from % 2 ^ anchor) group.starts ∙ div-add-mod' from (2 ^ anchor) in
    let less : from % 2 ^ anchor < 2 ^ anchor = mod-lt from (pow_pos anchor) in
    record { onward = λ inside. omega (arith, group.counts, split, less, inside); within = omega (arith, group.counts, group.inside, split) }

pub adopts_on : (dig : List ℕ → List ℕ) (k grown : Facts) (from : ℕ) (old new : List BlockState) (reads : List BlockRead) (adopted : Adopted)
    → Adopts dig k from old reads adopted grown new → GoesOn k from adopted.next
adopts_on dig k grown from old new reads adopted (at_end past) = record { onward = λ inside. absurd (omega arith); within = omega arith }
adopts_on dig k grown from old new reads adopted (known count rs group order) = record { onward = λ inside. omega (arith, group.some); within = group.inside }
adopts_on dig k grown from old new reads adopted (accepted anchor first count rs g group whole accepts) = unknown_on k from anchor first count group
adopts_on dig k grown from old new reads adopted (refused anchor first count rs error group whole why other) = unknown_on k from anchor first count group
adopts_on dig k grown from old new reads adopted (short anchor first count rs group order faults few) = unknown_on k from anchor first count group
adopts_on dig k grown from old new reads adopted (unread anchor first count rs group order some) = unknown_on k from anchor first count group
