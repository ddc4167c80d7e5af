use Rattle.bt_bencode.proofs.Base.{refl, ◌≡◌, [], get_or, drop, ap, ◌∙◌, arith, rules, length-drop, IsAsciiDigit, drop-length, false≢true, to_z-of_z, entries_of, StringStops, Stops, EndsBefore, in_string}
use Rattle.bt_bencode.specs.Spelling.{spelling_of}
use Rattle.bt_bencode.specs.Doc.{nesting_of, HasAscendingKeys, HasSmallIntegers}
use Rattle.bt_bencode.specs.Reader.{at_end, at_other}
use Rattle.bt_bencode.proofs.ReadRanges.{spans_byte, spans_join, drop_first, not_standing, stop_passed}
use Rattle.bt_bencode.proofs.ValueData.{data_of-Int, data_of-Bytes, data_of-List, data_of-Dict}
use Rattle.bt_bencode.proofs.ReadParts.{begun, list_more, list_stops, dictionary_more, key_stops, order_stops, value_stops}
use Rattle.bt_bencode.proofs.reader.+value.Goals as goal

pub dictionary_at-loop-alloc-init : goal.dictionary_at-loop-alloc-init
dictionary_at-loop-alloc-init t c =
    rw c.new-entries.ensures.items ((begun c.args.depth c.args.bytes.now c.args.at (omega arith) c.requires.inside).1 c.requires.first)

pub dictionary_at-returns-in_err-key-clause-fault : goal.dictionary_at-returns-in_err-key-clause-fault
dictionary_at-returns-in_err-key-clause-fault t c =
    let going = not_standing c.args.bytes.now c.loop-alloc.next 101 (omega arith) c.loop-alloc-test.ensures.1 in
    stop_passed StringStops (Stops c.args.depth) _ _ _ (key_stops _ _ _ (omega arith) _ c.loop-alloc.invariant going)
    _ _ c.from_residual.ensures.1 c.in_err-key.ensures.fault

pub dictionary_at-returns-then-not-may_follow-clause-fault : goal.dictionary_at-returns-then-not-may_follow-clause-fault
dictionary_at-returns-then-not-may_follow-clause-fault t c =
    order_stops _ _ _ (omega arith) _ c.loop-alloc.invariant _ _ c.in_ok-key.ensures.found
    (λ order. false≢true (c.if-not-may_follow.ensures.1 (rw (c.deref.ensures.value, c.deref-in-loop-alloc.ensures.value) order)))

pub dictionary_at-returns-in_err-value-clause-fault : goal.dictionary_at-returns-in_err-value-clause-fault
dictionary_at-returns-in_err-value-clause-fault t c =
    let order : EndsBefore (entries_of c.loop-alloc.entries.items) c.in_ok-key.key.items =
    rw (c.deref.ensures.value, c.deref-in-loop-alloc.ensures.value) at (c.if-not-may_follow.ensures.0 refl) in
    stop_passed (Stops _) (Stops c.args.depth) _ _ _
    (value_stops _ _ _ (omega arith) _ c.loop-alloc.invariant _ _ c.in_ok-key.ensures.found order)
    _ _ c.from_residual-in_err-value.ensures.1 c.in_err-value.ensures.fault

pub dictionary_at-loop-alloc-preserved : goal.dictionary_at-loop-alloc-preserved
dictionary_at-loop-alloc-preserved t c =
    let order : EndsBefore (entries_of c.loop-alloc.entries.items) c.in_ok-key.key.items =
    rw (c.deref.ensures.value, c.deref-in-loop-alloc.ensures.value) at (c.if-not-may_follow.ensures.0 refl) in
    dictionary_more _ _ _ _ _ _ _ (omega arith) c.loop-alloc.invariant c.in_ok-key.ensures.found order c.in_ok-value.ensures.found
    c.in_ok-push_part.ensures

pub dictionary_at-returns-clause-found : goal.dictionary_at-returns-clause-found
unfolding spelling_of
dictionary_at-returns-clause-found t c =
    let last = c.loop-alloc-test.ensures.0 refl in
    rw (data_of-Dict, c.shrink_to_fit.ensures.items) (record {
      spans = spans_join c.loop-alloc.invariant.spans (spans_byte last.0 last.1);
      canonical = c.loop-alloc.invariant.canonical;
    })

pub list_at-loop-alloc-init : goal.list_at-loop-alloc-init
list_at-loop-alloc-init t c = rw c.new-items.ensures.items ((begun c.args.depth c.args.bytes.now c.args.at (omega arith) c.requires.inside).0 c.requires.first)

pub list_at-returns-in_err-item-clause-fault : goal.list_at-returns-in_err-item-clause-fault
list_at-returns-in_err-item-clause-fault t c =
    let going = not_standing c.args.bytes.now c.loop-alloc.next 101 (omega arith) c.loop-alloc-test.ensures.1 in
    stop_passed (Stops _) (Stops c.args.depth) _ _ _ (list_stops _ _ _ (omega arith) _ c.loop-alloc.invariant going)
    _ _ c.from_residual.ensures.1 c.in_err-item.ensures.fault

pub list_at-loop-alloc-preserved : goal.list_at-loop-alloc-preserved
list_at-loop-alloc-preserved t c =
    list_more _ _ _ _ _ _ (omega arith) c.loop-alloc.invariant c.in_ok-item.ensures.found c.in_ok-push_part.ensures

pub list_at-returns-clause-found : goal.list_at-returns-clause-found
unfolding spelling_of
list_at-returns-clause-found t c =
    let last = c.loop-alloc-test.ensures.0 refl in
    rw (data_of-List, c.shrink_to_fit.ensures.items) (record {
      spans = spans_join c.loop-alloc.invariant.spans (spans_byte last.0 last.1);
      canonical = c.loop-alloc.invariant.canonical;
    })

pub value_at-returns-then-at-bytes-clause-fault : goal.value_at-returns-then-at-bytes-clause-fault
value_at-returns-then-at-bytes-clause-fault t c =
    let none : drop c.args.at c.args.bytes.now ≡ [] = ap (λ k. drop k c.args.bytes.now) c.if-at-bytes.true ∙ drop-length c.args.bytes.now in
    (omega arith, rw none (at_end _))

pub value_at-returns-in_err-integer-in-105-clause-fault : goal.value_at-returns-in_err-integer-in-105-clause-fault
value_at-returns-in_err-integer-in-105-clause-fault t c =
    stop_passed (Stops c.args.depth) (Stops c.args.depth) _ c.args.at _ (λ f rest h. h)
    _ _ c.from_residual.ensures.1 (c.in_err-integer-in-105.ensures.fault c.args.depth)

pub value_at-returns-in_ok-integer-in-105-clause-found : goal.value_at-returns-in_ok-integer-in-105-clause-found
unfolding nesting_of HasAscendingKeys HasSmallIntegers
value_at-returns-in_ok-integer-in-105-clause-found t c =
    let read = c.in_ok-integer-in-105.ensures.found in
    rw (data_of-Int, to_z-of_z _ c.in_ok-integer-in-105.integer read.fits)
    (record { spans = read.spans; canonical = record { nesting = omega arith; keys = tt; integers = read.fits } })

pub value_at-returns-in_err-string-in_default-clause-fault : goal.value_at-returns-in_err-string-in_default-clause-fault
value_at-returns-in_err-string-in_default-clause-fault t c =
    let digit : IsAsciiDigit (get_or c.args.bytes.now c.args.at 0) = search rules in
    stop_passed StringStops (Stops c.args.depth) _ c.args.at _
    (λ f rest h. in_string _ _ f rest (rw (drop_first c.args.at c.args.bytes.now) digit) h)
    _ _ c.from_residual-in_err-string-in_default.ensures.1 c.in_err-string-in_default.ensures.fault

pub value_at-returns-in_ok-string-in_default-clause-found : goal.value_at-returns-in_ok-string-in_default-clause-found
unfolding spelling_of nesting_of HasAscendingKeys HasSmallIntegers
value_at-returns-in_ok-string-in_default-clause-found t c = rw data_of-Bytes
    (record { spans = c.in_ok-string-in_default.ensures.found; canonical = record { nesting = omega arith; keys = tt; integers = tt } })

pub value_at-returns-in_default-2-clause-fault : goal.value_at-returns-in_default-2-clause-fault
value_at-returns-in_default-2-clause-fault t c =
    let first = drop_first c.args.at c.args.bytes.now in
    let string : ¬ IsAsciiDigit (get_or c.args.bytes.now c.args.at 0) = search rules in (
      omega arith,
      at_other _ (drop c.args.at c.args.bytes.now) (omega (arith, length-drop c.args.at c.args.bytes.now))
          (rw first (omega arith)) (rw first (omega arith)) (rw first (omega arith)) (rw first string),
    )
