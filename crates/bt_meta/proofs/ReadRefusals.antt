-- How a refusal of a value is one of its bytes.
use Rattle.bt_meta.proofs.Base.{◌≡◌, ℕ, ◌^◌, ◌≤◌, List, length, Result, Ok, Err, inl, inr, Data, spelling_of, IsCanonical, faulty, MetaError}
use Rattle.std.specs.Prelude.{IfErr}
use Rattle.bt_meta.specs.Faults.{Check}
use Rattle.bt_meta.specs.ReaderSteps.{Refuses}
use Rattle.bt_meta.specs.Reader.{IsRefused, no_memory}

pub value_refused : {T : Type 0} (first : Data → Check) (bytes : List ℕ) (value : Data) (r : Result T MetaError) → length bytes ≤ 2 ^ 27
    → IsCanonical value → spelling_of value ≡ bytes
    → IfErr r (Refuses (first value)) → IfErr r (IsRefused first bytes)
value_refused first bytes value (Ok x) small canonical spelled h = h
value_refused first bytes value (Err e) small canonical spelled (inl m) = rw m (no_memory small)
value_refused first bytes value (Err e) small canonical spelled (inr k) =
    faulty e small (record { value = value; canonical = canonical; spelled = spelled; first = k })
