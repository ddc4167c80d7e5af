-- A device that fails calls, or alters what it reads, where it is told to. Calls are counted from 1, from its
-- making.
use Rattle.std.specs.Prelude.{◌≡◌, ℕ, ◌+◌, ◌-◌, Bool, false, ◌&&◌, ◌||◌, if◌then◌else◌, nat_eq, nat_le, nat_lt, min, bit_xor, Option, Some, None, List, [], ◌∷◌, length, slice_index, slice_set, take, Result, IfOk}
use Rattle.std.specs.Option.{option_map_or}
use Rattle.bt_disk.specs.Limits.{max_count, one_more}
use Rattle.bt_disk.specs.Conduct.{Conduct}
use Rattle.bt_disk.specs.Calls.{Call, HasCalls, read_call}

-- The device inside, how many calls were made, the settings (a flip has its first call and its byte), and how
-- many calls failed by a setting.
pub record FaultView (D : Type 0) : Type 0 where
  pub inner : D
  pub calls : ℕ
  pub failing_once : Option ℕ
  pub failing_from : Option ℕ
  pub flipping : Option (ℕ × ℕ)
  pub failed : ℕ

abbrev pub new_fault_disk : {D : Type 0} → D → FaultView D
new_fault_disk inner = record {
  inner = inner;
  calls = 0;
  failing_once = None;
  failing_from = None;
  flipping = None;
  failed = 0;
}

-- how many calls failed, by a setting or inside
abbrev pub fault_count : {D : Type 0} → Conduct D → FaultView D → ℕ
fault_count conduct disk = min max_count (disk.failed + conduct.faults disk.inner)

-- honest is what has an honest device inside and no flip
abbrev pub IsHonest : {D : Type 0} → Conduct D → FaultView D → Type 0
IsHonest conduct disk = conduct.honest disk.inner × (disk.flipping ≡ None)

-- it holds what the device inside does
abbrev pub fault_conduct : {D : Type 0} → Conduct D → Conduct (FaultView D)
fault_conduct conduct = record {
  history = λ disk. conduct.history disk.inner;
  honest = IsHonest conduct;
  faults = fault_count conduct;
}

-- the number of the call that comes next
abbrev pub next_call : {D : Type 0} → FaultView D → ℕ
next_call disk = one_more disk.calls

-- the next call is to fail: it is the one that is to, or comes no earlier than that from which on all are to
abbrev pub fails_next : {D : Type 0} → FaultView D → Bool
fails_next disk =
    option_map_or (λ k. nat_eq k (next_call disk)) disk.failing_once false
    || option_map_or (λ k. nat_le k (next_call disk)) disk.failing_from false

-- after a call that failed by a setting: the device inside is as it was
abbrev pub after_failure : {D : Type 0} → FaultView D → FaultView D
after_failure disk = record disk { calls = next_call disk; failed = one_more disk.failed }

-- the call was made of the device inside, and no other
pub record PassesOn
    {D : Type 0} (conduct : Conduct D)
    (old : FaultView D) (call : Call) (new : FaultView D) : Type 0 where
  pub settings : new ≡ record old { inner = new.inner; calls = next_call old }
  pub passed : HasCalls conduct old.inner (call ∷ []) new.inner

-- bytes that lie at a place, as a flip alters them: from its first call on, the low bit of its byte is the
-- other one
abbrev pub flipped : Option (ℕ × ℕ) → ℕ → ℕ → List ℕ → List ℕ
flipped None number at bytes = bytes
flipped (Some flip) number at bytes =
    if nat_le flip.0 number && (nat_le at flip.1 && nat_lt flip.1 (at + length bytes))
    then slice_set bytes (flip.1 - at) (bit_xor (slice_index bytes (flip.1 - at)) 1)
    else bytes

-- A read was passed on: the device inside was asked for as many bytes, and what it gave comes but for the
-- flip.
pub record PassesRead
    {D E : Type 0} (conduct : Conduct D)
    (old : FaultView D) (at : ℕ) (out : List ℕ) (result : Result ℕ E) (new : FaultView D) : Type 0 where
  pub given : List ℕ
  pub as_many : length given ≡ length out
  pub passed : PassesOn conduct old (read_call at given result) new
  pub altered :
      IfOk result (λ count. take count out ≡ flipped old.flipping (next_call old) at (take count given))
