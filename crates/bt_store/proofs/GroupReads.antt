-- The digests of a group, as its blocks are read.
use Rattle.std.proofs.Common.{◌≡◌, ℕ, zero, suc, ◌+◌, ◌-◌, ◌≤◌, Bool, true, false, cond, List, [], ◌∷◌, ◌++◌, map, length, take, get_or, replicate, Option, Some, None, IfSome, refl, sym, ap, ◌∙◌, subst, arith, zero-add, append-nil, append_assoc, length-append}
use Rattle.std.specs.Prelude.{nat_eq}
use Rattle.std.specs.List.{count_by, range_with_len}
use Rattle.std.proofs.lemmas.List.{set_at, map-append, length-map, length-take-le}
use Rattle.std.proofs.lemmas.List.FromFn.{length-range_with_len}
use Rattle.std.proofs.lemmas.List.Sums.{sum_by_push, sum_by-append, count_by-le-length}
use Rattle.bt_tree.specs.Blocks.{block_length, block_at}
use Rattle.bt_tree.specs.Tree.{padding_digest}
use Rattle.bt_disk.specs.Conduct.{Conduct}
use Rattle.bt_disk.specs.Calls.{HasCalls}
use Rattle.bt_disk.proofs.CallLists.{has_none, has_then}
use Rattle.bt_store.specs.BlockReads.{BlockRead, block_of, call_of, is_fault, fault_count}
use Rattle.bt_store.specs.BatchesSteps.{read_of, batch_reads, found_of}
use Rattle.bt_store.specs.Adoption.{is_whole, claimed_digest}
use Rattle.bt_store.specs.GroupsSteps.{noted, noted_found, counted, counted_found, AreGroupReads, IsGroupRead}
use Rattle.bt_store.specs.declared.batches.BlockFound.{BlockFound}
use Rattle.bt_store.specs.declared.batches.BlockFound.TheVariants.{Whole, Short, Failed}
use Rattle.bt_store.specs.declared.groups.ReadTally.{ReadTally}
use Rattle.bt_store.proofs.BatchReads.{reads_none, reads_more}
use Rattle.bt_store.proofs.Judgements.{IsWithinParts, AreFound, blocks_of_batch}
use Rattle.bt_store.proofs.Reviews.{range_split}

-- ---- the steps of the code

pub noted_none : (at : ℕ) (blocks_found : List BlockFound) (digests : List (List ℕ)) → digests ≡ noted_found at blocks_found 0 digests
unfolding noted_found
noted_none at blocks_found digests = refl

pub noted_more : (at : ℕ) (blocks_found : List BlockFound) (j : ℕ) (digests : List (List ℕ))
    → noted_found at blocks_found (suc j) digests ≡ noted (at + j) (get_or blocks_found j Failed) (noted_found at blocks_found j digests)
unfolding noted_found
noted_more at blocks_found j digests = refl

pub counted_none : (blocks_found : List BlockFound) (tally : ReadTally) → tally ≡ counted_found blocks_found 0 tally
unfolding counted_found
counted_none blocks_found tally = refl

pub counted_more : (blocks_found : List BlockFound) (j : ℕ) (tally : ReadTally)
    → counted_found blocks_found (suc j) tally ≡ counted (get_or blocks_found j Failed) (counted_found blocks_found j tally)
unfolding counted_found
counted_more blocks_found j tally = refl

-- ---- the digests that they put

finding_digest : List ℕ → BlockFound → List ℕ
finding_digest padding (Whole digest) = digest
finding_digest padding Short = padding
finding_digest padding Failed = padding

finding_digests : List ℕ → List BlockFound → ℕ → List (List ℕ)
finding_digests padding blocks_found zero = []
finding_digests padding blocks_found (suc j) = finding_digests padding blocks_found j ++ finding_digest padding (get_or blocks_found j Failed) ∷ []

length-finding_digests : (padding : List ℕ) (blocks_found : List BlockFound) (j : ℕ) → length (finding_digests padding blocks_found j) ≡ j
unfolding finding_digests
length-finding_digests padding blocks_found zero = refl
length-finding_digests padding blocks_found (suc j) =
    omega (arith, length-append (finding_digests padding blocks_found j) (finding_digest padding (get_or blocks_found j Failed) ∷ []), length-finding_digests padding blocks_found j)

put_digest : (padding : List ℕ) (front rest : List (List ℕ)) (i : ℕ) (f : BlockFound) → length front ≡ i
    → noted i f (front ++ padding ∷ rest) ≡ front ++ finding_digest padding f ∷ rest
unfolding finding_digest
put_digest padding front rest i (Whole digest) e = set_at front padding rest digest i e
put_digest padding front rest i Short e = refl
put_digest padding front rest i Failed e = refl

noted_batch : (padding : List ℕ) (at : ℕ) (blocks_found : List BlockFound) (front : List (List ℕ)) (j m : ℕ) → length front ≡ at
    → noted_found at blocks_found j (front ++ replicate (j + m) padding) ≡ (front ++ finding_digests padding blocks_found j) ++ replicate m padding
unfolding finding_digests
noted_batch padding at blocks_found front zero m e =
    sym (noted_none at blocks_found (front ++ replicate (0 + m) padding)) ∙ ap (λ n. front ++ replicate n padding) (zero-add m) ∙ ap (λ l. l ++ replicate m padding) (sym (append-nil front))
noted_batch padding at blocks_found front (suc j) m e =
    let shift : suc j + m ≡ j + suc m = omega arith in
    let f = get_or blocks_found j Failed in
    let before = front ++ finding_digests padding blocks_found j in
    let size : length before ≡ at + j = omega (arith, length-append front (finding_digests padding blocks_found j), length-finding_digests padding blocks_found j) in
    ap (λ n. noted_found at blocks_found (suc j) (front ++ replicate n padding)) shift
    ∙ noted_more at blocks_found j (front ++ replicate (j + suc m) padding)
    ∙ ap (noted (at + j) f) (noted_batch padding at blocks_found front j (suc m) e)
    ∙ put_digest padding before (replicate m padding) (at + j) f size
    ∙ sym (append_assoc before (finding_digest padding f ∷ []) (replicate m padding))
    ∙ ap (λ l. l ++ replicate m padding) (append_assoc front (finding_digests padding blocks_found j) (finding_digest padding f ∷ []))

-- ---- a read and what it found

by_whole : (b : Bool) (digest padding : List ℕ) → cond b digest padding ≡ finding_digest padding (cond b (Whole digest) Short)
unfolding finding_digest
by_whole true digest padding = refl
by_whole false digest padding = refl

claimed_is : (dig : List ℕ → List ℕ) (n i : ℕ) (count : Option ℕ) (slot : List ℕ) → IfSome count (λ m. m ≤ length slot)
    → claimed_digest dig n (read_of i count slot) ≡ finding_digest (padding_digest dig 0) (found_of dig n i count slot)
unfolding finding_digest
claimed_is dig n i None slot within = refl
claimed_is dig n i (Some m) slot within =
    ap (λ l. cond (nat_eq l (block_length n i)) (dig (take m slot)) (padding_digest dig 0)) (length-take-le m slot within)
    ∙ by_whole (nat_eq m (block_length n i)) (dig (take m slot)) (padding_digest dig 0)

whole_cond : (b : Bool) (digest : List ℕ) (tally : ReadTally) → (counted (cond b (Whole digest) Short) tally).whole ≡ tally.whole + cond b 1 0
whole_cond true digest tally = refl
whole_cond false digest tally = omega arith

fault_cond : (b : Bool) (digest : List ℕ) (tally : ReadTally) → (counted (cond b (Whole digest) Short) tally).faults ≡ tally.faults + 0
fault_cond true digest tally = omega arith
fault_cond false digest tally = omega arith

whole_is : (dig : List ℕ → List ℕ) (n i : ℕ) (count : Option ℕ) (slot : List ℕ) (tally : ReadTally) → IfSome count (λ m. m ≤ length slot)
    → (counted (found_of dig n i count slot) tally).whole ≡ tally.whole + cond (is_whole n (read_of i count slot)) 1 0
whole_is dig n i None slot tally within = omega arith
whole_is dig n i (Some m) slot tally within =
    whole_cond (nat_eq m (block_length n i)) (dig (take m slot)) tally
    ∙ ap (λ l. tally.whole + cond (nat_eq l (block_length n i)) 1 0) (sym (length-take-le m slot within))

fault_is : (dig : List ℕ → List ℕ) (n i : ℕ) (count : Option ℕ) (slot : List ℕ) (tally : ReadTally)
    → (counted (found_of dig n i count slot) tally).faults ≡ tally.faults + cond (is_fault (read_of i count slot)) 1 0
fault_is dig n i None slot tally = refl
fault_is dig n i (Some m) slot tally = fault_cond (nat_eq m (block_length n i)) (dig (take m slot)) tally

-- ---- a batch of reads

module _ (dig : List ℕ → List ℕ) (n first : ℕ) (counts : List (Option ℕ)) (buffer : List ℕ) (blocks_found : List BlockFound) where
  run_digests : (j : ℕ) → IsWithinParts counts buffer j → AreFound dig n first counts buffer blocks_found j
      → finding_digests (padding_digest dig 0) blocks_found j ≡ map (claimed_digest dig n) (batch_reads first counts buffer j)
  unfolding finding_digests
  run_digests zero within found = ap (map (claimed_digest dig n)) (sym (reads_none first counts buffer))
  run_digests (suc j) within found =
      let read = read_of (first + j) (get_or counts j None) (block_at buffer j) in
      let here : finding_digest (padding_digest dig 0) (get_or blocks_found j Failed) ≡ claimed_digest dig n read =
      ap (finding_digest (padding_digest dig 0)) (found j (omega arith)) ∙ sym (claimed_is dig n (first + j) (get_or counts j None) (block_at buffer j) (within j (omega arith))) in
      ap (λ l. l ++ finding_digest (padding_digest dig 0) (get_or blocks_found j Failed) ∷ []) (run_digests j (λ t lt. within t (omega arith)) (λ t lt. found t (omega arith)))
      ∙ ap (λ d. map (claimed_digest dig n) (batch_reads first counts buffer j) ++ d ∷ []) here
      ∙ sym (map-append (claimed_digest dig n) (batch_reads first counts buffer j) (read ∷ [])) ∙ ap (map (claimed_digest dig n)) (sym (reads_more first counts buffer j))

  run_whole : (j : ℕ) (tally : ReadTally) → IsWithinParts counts buffer j → AreFound dig n first counts buffer blocks_found j
      → (counted_found blocks_found j tally).whole ≡ tally.whole + count_by (is_whole n) (batch_reads first counts buffer j)
  run_whole zero tally within found =
      let none : count_by (is_whole n) (batch_reads first counts buffer 0) ≡ 0 = ap (count_by (is_whole n)) (reads_none first counts buffer) in
      ap (λ c. c.whole) (sym (counted_none blocks_found tally)) ∙ omega (arith, none)
  run_whole (suc j) tally within found =
      let reads = batch_reads first counts buffer j in
      let read = read_of (first + j) (get_or counts j None) (block_at buffer j) in
      let more : count_by (is_whole n) (batch_reads first counts buffer (suc j)) ≡ count_by (is_whole n) reads + cond (is_whole n read) 1 0 =
      ap (count_by (is_whole n)) (reads_more first counts buffer j) ∙ sum_by_push (λ x. cond (is_whole n x) 1 0) reads read in
      let here : (counted_found blocks_found (suc j) tally).whole ≡ (counted_found blocks_found j tally).whole + cond (is_whole n read) 1 0 =
      ap (λ c. c.whole) (counted_more blocks_found j tally) ∙ ap (λ f. (counted f (counted_found blocks_found j tally)).whole) (found j (omega arith))
      ∙ whole_is dig n (first + j) (get_or counts j None) (block_at buffer j) (counted_found blocks_found j tally) (within j (omega arith)) in
      omega (arith, more, here, run_whole j tally (λ t lt. within t (omega arith)) (λ t lt. found t (omega arith)))

  run_faults : (j : ℕ) (tally : ReadTally) → AreFound dig n first counts buffer blocks_found j
      → (counted_found blocks_found j tally).faults ≡ tally.faults + fault_count (batch_reads first counts buffer j)
  run_faults zero tally found =
      let none : fault_count (batch_reads first counts buffer 0) ≡ 0 = ap fault_count (reads_none first counts buffer) in
      ap (λ c. c.faults) (sym (counted_none blocks_found tally)) ∙ omega (arith, none)
  run_faults (suc j) tally found =
      let reads = batch_reads first counts buffer j in
      let read = read_of (first + j) (get_or counts j None) (block_at buffer j) in
      let more : fault_count (batch_reads first counts buffer (suc j)) ≡ fault_count reads + cond (is_fault read) 1 0 =
      ap fault_count (reads_more first counts buffer j) ∙ sum_by_push (λ x. cond (is_fault x) 1 0) reads read in
      let here : (counted_found blocks_found (suc j) tally).faults ≡ (counted_found blocks_found j tally).faults + cond (is_fault read) 1 0 =
      ap (λ c. c.faults) (counted_more blocks_found j tally) ∙ ap (λ f. (counted f (counted_found blocks_found j tally)).faults) (found j (omega arith))
      ∙ fault_is dig n (first + j) (get_or counts j None) (block_at buffer j) (counted_found blocks_found j tally) in
      omega (arith, more, here, run_faults j tally (λ t lt. found t (omega arith)))

-- ---- a group

module _ (dig : List ℕ → List ℕ) (n first width : ℕ) where
  pub reads_none_yet : (digests : List (List ℕ)) → digests ≡ replicate width (padding_digest dig 0)
      → AreGroupReads dig n first 0 width [] (record { whole = 0; faults = 0 }) digests
  reads_none_yet digests padded =
      let all : width - 0 ≡ width = omega arith in
      record {
        in_order = refl;
        claims = padded ∙ ap (λ m. replicate m (padding_digest dig 0)) (sym all);
        whole = refl;
        failed = refl;
      }

  pub group_size : (done : ℕ) (reads : List BlockRead) (tally : ReadTally) (digests : List (List ℕ))
      → AreGroupReads dig n first done width reads tally digests → length reads ≡ done
  group_size done reads tally digests read =
      sym (length-map reads block_of) ∙ ap length read.in_order ∙ length-range_with_len first done

  pub group_limits : (done : ℕ) (reads : List BlockRead) (tally : ReadTally) (digests : List (List ℕ))
      → AreGroupReads dig n first done width reads tally digests → (tally.whole ≤ done) × (tally.faults ≤ done)
  group_limits done reads tally digests read =
      let size = group_size done reads tally digests read in
      (omega (arith, read.whole, size, count_by-le-length (is_whole n) reads), omega (arith, read.failed, size, count_by-le-length is_fault reads))

  pub reads_more_of : (done m : ℕ) (reads : List BlockRead) (tally : ReadTally) (digests : List (List ℕ)) (counts : List (Option ℕ)) (buffer : List ℕ) (blocks_found : List BlockFound)
      → AreGroupReads dig n first done width reads tally digests → done + m ≤ width
      → IsWithinParts counts buffer m → AreFound dig n (first + done) counts buffer blocks_found m
      → AreGroupReads dig n first (done + m) width (reads ++ batch_reads (first + done) counts buffer m) (counted_found blocks_found m tally)
      (noted_found done blocks_found m digests)
  reads_more_of done m reads tally digests counts buffer blocks_found before fits within found =
      let more = batch_reads (first + done) counts buffer m in
      let padding = padding_digest dig 0 in
      let front = map (claimed_digest dig n) reads in
      let rest : width - done ≡ m + (width - (done + m)) = omega arith in
      let front_size : length front ≡ done = length-map reads (claimed_digest dig n) ∙ group_size done reads tally digests before in
      record {
        in_order = map-append block_of reads more ∙ ap (λ l. l ++ map block_of more) before.in_order
            ∙ ap (λ l. range_with_len first done ++ l) (blocks_of_batch (first + done) counts buffer m) ∙ sym (range_split first done m);
        claims = ap (noted_found done blocks_found m) (before.claims ∙ ap (λ k. front ++ replicate k padding) rest)
            ∙ noted_batch padding done blocks_found front m (width - (done + m)) front_size
            ∙ ap (λ l. (front ++ l) ++ replicate (width - (done + m)) padding) (run_digests dig n (first + done) counts buffer blocks_found m within found)
            ∙ ap (λ l. l ++ replicate (width - (done + m)) padding) (sym (map-append (claimed_digest dig n) reads more));
        whole = omega (arith, before.whole, run_whole dig n (first + done) counts buffer blocks_found m tally within found, sum_by-append (λ x. cond (is_whole n x) 1 0) reads more);
        failed = omega (arith, before.failed, run_faults dig n (first + done) counts buffer blocks_found m tally found, sum_by-append (λ x. cond (is_fault x) 1 0) reads more);
      }

  -- a group that is read at once
  pub reads_at_once : (m : ℕ) (digests : List (List ℕ)) (counts : List (Option ℕ)) (buffer : List ℕ) (blocks_found : List BlockFound)
      → digests ≡ replicate width (padding_digest dig 0) → m ≤ width
      → IsWithinParts counts buffer m → AreFound dig n first counts buffer blocks_found m
      → AreGroupReads dig n first m width (batch_reads first counts buffer m) (counted_found blocks_found m (record { whole = 0; faults = 0 }))
      (noted_found 0 blocks_found m digests)
  reads_at_once m digests counts buffer blocks_found padded fits within found =
      let none : ReadTally = record { whole = 0; faults = 0 } in
      let start : first + 0 ≡ first = omega arith in
      let all : 0 + m ≡ m = omega arith in
      let made : AreGroupReads dig n first (0 + m) width (batch_reads (first + 0) counts buffer m) (counted_found blocks_found m none) (noted_found 0 blocks_found m digests) =
      reads_more_of 0 m [] none digests counts buffer blocks_found (reads_none_yet digests padded) (omega (arith, fits)) within
      (subst (λ f. AreFound dig n f counts buffer blocks_found m) (sym start) found) in
      subst (λ k. AreGroupReads dig n first k width (batch_reads first counts buffer m) (counted_found blocks_found m none) (noted_found 0 blocks_found m digests)) all
      (subst (λ f. AreGroupReads dig n first (0 + m) width (batch_reads f counts buffer m) (counted_found blocks_found m none) (noted_found 0 blocks_found m digests)) start made)

module _ {D : Type 0} (conduct : Conduct D) (dig : List ℕ → List ℕ) (n first width : ℕ) where
  pub group_start : (a : D) (digests : List (List ℕ)) → digests ≡ replicate width (padding_digest dig 0)
      → IsGroupRead conduct dig n first 0 width a [] (record { whole = 0; faults = 0 }) a digests
  group_start a digests padded = record { calls = has_none conduct a; are = reads_none_yet dig n first width digests padded }

  pub group_next : (done m : ℕ) (a b c : D) (reads : List BlockRead) (tally : ReadTally) (digests : List (List ℕ)) (counts : List (Option ℕ)) (buffer : List ℕ) (blocks_found : List BlockFound)
      → IsGroupRead conduct dig n first done width a reads tally b digests → done + m ≤ width
      → HasCalls conduct b (map (call_of n) (batch_reads (first + done) counts buffer m)) c
      → IsWithinParts counts buffer m → AreFound dig n (first + done) counts buffer blocks_found m
      → IsGroupRead conduct dig n first (done + m) width a (reads ++ batch_reads (first + done) counts buffer m) (counted_found blocks_found m tally) c
      (noted_found done blocks_found m digests)
  group_next done m a b c reads tally digests counts buffer blocks_found before fits calls within found =
      let more = batch_reads (first + done) counts buffer m in
      record {
        calls = subst (λ l. HasCalls conduct a l c) (sym (map-append (call_of n) reads more)) (has_then conduct a b c _ _ before.calls calls);
        are = reads_more_of dig n first width done m reads tally digests counts buffer blocks_found before.are fits within found;
      }
