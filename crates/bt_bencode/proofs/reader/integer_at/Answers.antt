use Rattle.bt_bencode.proofs.Base.{to_z-of_z, NumeralStops, Stops}
use Rattle.bt_bencode.proofs.ReadRanges.{stop_passed}
use Rattle.bt_bencode.proofs.ReadNumerals.{is_signed, integer_stops, integer_is_ascii, integer_found, integer_out_of_range}
use Rattle.bt_bencode.proofs.reader.integer_at.Goals as goal

pub returns-in_err-end-clause-fault : goal.returns-in_err-end-clause-fault
returns-in_err-end-clause-fault c = λ n.
    stop_passed (NumeralStops c.stands_at-negative.result 101) (Stops n) _ _ _
    (integer_stops (is_signed _ c.stands_at-negative.ensures) c.requires.inside c.requires.first)
    _ _ c.from_residual.ensures.1 (rw c.from.ensures at c.in_err-end.ensures.fault)

pub integer_of-requires : goal.integer_of-requires
integer_of-requires c =
    integer_is_ascii (is_signed _ c.stands_at-negative.ensures) c.requires.inside c.requires.first (rw c.from.ensures at c.in_ok-end.ensures.found)

pub returns-in-Some-clause-found : goal.returns-in-Some-clause-found
returns-in-Some-clause-found c =
    let found = integer_found (is_signed _ c.stands_at-negative.ensures) c.requires.inside c.requires.first (rw c.from.ensures at c.in_ok-end.ensures.found) c.in-Some.ensures in
    rw (to_z-of_z _ c.in-Some.integer found.fits) found

pub returns-in-None-clause-fault : goal.returns-in-None-clause-fault
returns-in-None-clause-fault c = λ n.
    integer_out_of_range (is_signed _ c.stands_at-negative.ensures) c.requires.inside c.requires.first (rw c.from.ensures at c.in_ok-end.ensures.found) n c.in-None.ensures
