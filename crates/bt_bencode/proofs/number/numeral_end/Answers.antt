use Rattle.bt_bencode.proofs.Base.{◌≡◌, ◌≢◌, ◌-◌, [], ◌⊎◌, inl, inr, length, drop, slice_index, sym, ◌∙◌, refl, arith, length-drop, slice_range, AllDigits, false≢true, take_rest, drop_split, drop-length, LeadsWithZero, at_zero}
use Rattle.bt_bencode.specs.Number.{at_end, at_other}
use Rattle.bt_bencode.proofs.ReadRanges.{drop_first}
use Rattle.bt_bencode.proofs.number.numeral_end.Goals.{then-end-at-via-then-end-at, then-end-at-via-else-end-at+then-bytes-end}
use Rattle.bt_bencode.proofs.number.numeral_end.Goals as goal

pub returns-then-leads_with_zero-clause-fault : goal.returns-then-leads_with_zero-clause-fault
returns-then-leads_with_zero-clause-fault c =
    let leads : LeadsWithZero c.args.negative (drop c.args.at c.args.bytes.now) = rw take_rest at c.if-leads_with_zero.ensures.0 refl in
    (c.requires, at_zero leads)

pub returns-then-end-bytes-clause-fault : goal.returns-then-end-bytes-clause-fault
returns-then-end-bytes-clause-fault c =
    let bytes = c.args.bytes.now in
    let no_zero : ¬ LeadsWithZero c.args.negative (drop c.args.at bytes) =
    λ leads. false≢true (c.if-leads_with_zero.ensures.1 (rw take_rest leads)) in
    let whole : c.digits_end-end.result ≡ length bytes = omega arith in
    let digits : AllDigits 10 (drop c.args.at bytes) = rw (whole, take_rest) at c.digits_end-end.ensures.digits in
    (c.digits_end-end.ensures.inside, rw (whole, drop-length) (at_end digits no_zero))

pub returns-then-end-at-clause-fault : goal.returns-then-end-at-clause-fault
returns-then-end-at-clause-fault c =
    let bytes = c.args.bytes.now in
    let end = c.digits_end-end.result in
    let no_zero : ¬ LeadsWithZero c.args.negative (drop c.args.at bytes) =
    λ leads. false≢true (c.if-leads_with_zero.ensures.1 (rw take_rest leads)) in
    let first : slice_index (drop end bytes) 0 ≡ slice_index bytes end = drop_first end bytes in
    let other : (slice_range bytes c.args.at end ≡ []) ⊎ (slice_index (drop end bytes) 0 ≢ c.args.stop) = elim c.then-end-at.branch [
      | then-end-at-via-then-end-at w ↦ inl (let none : end - c.args.at ≡ 0 = omega arith in rw none refl)
      | then-end-at-via-else-end-at+then-bytes-end w ↦ inr (λ same. w.if-bytes-end.true (sym first ∙ same))
    ] in (
      c.digits_end-end.ensures.inside,
      at_other (slice_range bytes c.args.at end) (drop end bytes) (drop_split _ _ end c.digits_end-end.ensures.from)
          c.digits_end-end.ensures.digits no_zero
          (omega (arith, length-drop end bytes)) (rw first c.digits_end-end.ensures.ended) other,
    )
