-- A device that is closed to writes with its seal.
use Rattle.std.specs.Prelude.{◌≡◌, ℕ, ◌+◌, Bool, true, false, min, [], ◌∷◌}
use Rattle.bt_disk.specs.Limits.{max_count, one_more}
use Rattle.bt_disk.specs.Conduct.{Conduct}
use Rattle.bt_disk.specs.Calls.{Call, HasCalls}

-- the device inside, whether it was found closed to writes, and how many calls were refused
pub record SealedView (D : Type 0) : Type 0 where
  pub inner : D
  pub is_sealed : Bool
  pub refused : ℕ

-- it was not found closed, and refused no call
abbrev pub new_sealed : {D : Type 0} → D → SealedView D
new_sealed inner = record { inner = inner; is_sealed = false; refused = 0 }

-- how many calls failed, here or inside
abbrev pub fault_count : {D : Type 0} → Conduct D → SealedView D → ℕ
fault_count conduct disk = min max_count (disk.refused + conduct.faults disk.inner)

-- it holds what the device inside does
abbrev pub sealed_conduct : {D : Type 0} → Conduct D → Conduct (SealedView D)
sealed_conduct conduct = record {
  history = λ disk. conduct.history disk.inner;
  honest = λ disk. conduct.honest disk.inner;
  faults = fault_count conduct;
}

-- after a call that was refused: the device inside is as it was, and no write reaches it any more
abbrev pub after_refusal : {D : Type 0} → SealedView D → SealedView D
after_refusal disk = record disk { is_sealed = true; refused = one_more disk.refused }

-- the call was made of the device inside, and no other
pub record PassesOn
    {D : Type 0} (conduct : Conduct D)
    (old : SealedView D) (call : Call) (new : SealedView D) : Type 0 where
  pub rest : new ≡ record old { inner = new.inner }
  pub passed : HasCalls conduct old.inner (call ∷ []) new.inner
