use Rattle.bt_bencode.proofs.Base.{◌≡◌, ◌+◌, ◌-◌, ◌<◌, false, length, take, drop, sym, ap, ◌∙◌, arith, slice_range, digits_value, NumeralStops, StringStops, in_length}
use Rattle.bt_bencode.proofs.ReadRanges.{unless_some, stop_passed}
use Rattle.bt_bencode.proofs.ReadNumerals.{string_read, string_short}
use Rattle.bt_bencode.proofs.reader.string_at.Goals.{in_default-via-in-Some+else-length-left, in_default-via-in_default}
use Rattle.bt_bencode.proofs.reader.string_at.Goals as goal

pub returns-in_err-colon-clause-fault : goal.returns-in_err-colon-clause-fault
returns-in_err-colon-clause-fault c =
    stop_passed (NumeralStops false 58) StringStops _ c.args.at _ (λ f rest h. in_length f rest h) _ _ c.from_residual.ensures.1 c.in_err-colon.ensures.fault

pub returns-in_ok-string-in-Some-clause-found : goal.returns-in_ok-string-in-Some-clause-found
returns-in_ok-string-in-Some-clause-found c =
    let bytes = c.args.bytes.now in
    let colon = c.in_ok-colon.colon in
    let inside : colon < length bytes = c.in_ok-colon.ensures.found.inside in
    let size : colon + 1 + c.in-Some.length - (colon + 1) ≡ c.in-Some.length = omega arith in
    let value = c.in-Some.ensures.1 in
    string_read c.in_ok-colon.ensures.found (sym value) (rw value c.in-Some.ensures.0)
    (omega arith) (c.in_ok-string-in-Some.ensures.items ∙ ap (λ k. take k (drop (colon + 1) bytes)) size)

pub returns-in_default-clause-fault : goal.returns-in_default-clause-fault
returns-in_default-clause-fault c =
    let bytes = c.args.bytes.now in
    let colon = c.in_ok-colon.colon in
    let long : length bytes - (colon + 1) < digits_value 10 (slice_range bytes c.args.at colon) = elim c.in_default.branch [
      | in_default-via-in-Some+else-length-left w ↦ omega (arith, w.if-length-left.false, w.in-Some.ensures.1)
      | in_default-via-in_default w ↦ omega (arith, unless_some c.length_of.result _ _ c.length_of.ensures w.in_default.not-Some)
    ] in
    string_short c.in_ok-colon.ensures.found long
