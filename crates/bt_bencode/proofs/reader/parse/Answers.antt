use Rattle.bt_bencode.proofs.Base.{ℕ, List, ◌≡◌, ◌<◌, ◌^◌, length, arith, Result, IfErr, IsErrAnd, Fault, AtFault, Stops, IsFirstFault, in_the_value, FaultFrom, BencodeError}
use Rattle.bt_bencode.proofs.ReadRanges.{fault_passed}
use Rattle.bt_bencode.proofs.ReadingLaws.{none_spells, truncated_at_end, trailing_behind_value}
use Rattle.bt_bencode.proofs.reader.parse.Goals as goal

-- what holds of a first fault, of one in the value
in_value : {T : Type 0} (bytes : List ℕ) (Q : Fault → ℕ → Type 0) → ((f : Fault) (offset : ℕ) → IsFirstFault bytes f offset → Q f offset)
    → (r : Result T BencodeError) (e : BencodeError) → IsErrAnd r (λ y. y ≡ e) → AtFault (FaultFrom (Stops 128) bytes 0) e → IfErr r (AtFault Q)
in_value bytes Q says = fault_passed (FaultFrom (Stops 128) bytes 0) Q (λ f offset h. says f offset (in_the_value f offset h.0 h.1))

pub returns-in_err-value-clause-first_fault : goal.returns-in_err-value-clause-first_fault
returns-in_err-value-clause-first_fault c =
    in_value c.args.bytes.now _ (λ f offset h. h) _ _ c.from_residual.ensures.1 c.in_err-value.ensures.fault

pub returns-in_err-value-clause-none_spells : goal.returns-in_err-value-clause-none_spells
returns-in_err-value-clause-none_spells c =
    let short : length c.args.bytes.now < 2 ^ 64 = omega arith in
    in_value c.args.bytes.now _ (λ f offset h. none_spells _ f offset short h) _ _ c.from_residual.ensures.1 c.in_err-value.ensures.fault

pub returns-in_err-value-clause-truncated_at_end : goal.returns-in_err-value-clause-truncated_at_end
returns-in_err-value-clause-truncated_at_end c =
    in_value c.args.bytes.now _ (truncated_at_end) _ _ c.from_residual.ensures.1 c.in_err-value.ensures.fault

pub returns-in_err-value-clause-trailing_behind_value : goal.returns-in_err-value-clause-trailing_behind_value
returns-in_err-value-clause-trailing_behind_value c =
    in_value c.args.bytes.now _ (trailing_behind_value) _ _ c.from_residual.ensures.1 c.in_err-value.ensures.fault
