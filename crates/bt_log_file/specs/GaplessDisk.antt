-- A device that is written without gaps.
use Rattle.std.specs.Prelude.{◌≡◌, ◌&&◌, ℕ, ◌+◌, Bool, nat_lt, min, [], ◌∷◌}
use Rattle.bt_disk.specs.Limits.{max_count}
use Rattle.bt_disk.specs.Conduct.{Conduct}
use Rattle.bt_disk.specs.Calls.{Call, HasCalls}

-- the device inside, whether it is one without gaps, and how many calls were refused
pub record GaplessView (D : Type 0) : Type 0 where
  pub inner : D
  pub is_gapless : Bool
  pub refused : ℕ

-- it refused no call
abbrev pub new_gapless : {D : Type 0} → D → Bool → GaplessView D
new_gapless inner is_gapless = record { inner = inner; is_gapless = is_gapless; refused = 0 }

-- whether a write of a device of so many bytes leaves a gap that it may not
abbrev pub leaves_gap_in : {D : Type 0} → GaplessView D → (bytes at : ℕ) → Bool
leaves_gap_in disk bytes at = disk.is_gapless && nat_lt bytes at

-- how many calls failed, here or inside
abbrev pub fault_count : {D : Type 0} → Conduct D → GaplessView D → ℕ
fault_count conduct disk = min max_count (disk.refused + conduct.faults disk.inner)

-- it holds what the device inside does
abbrev pub gapless_conduct : {D : Type 0} → Conduct D → Conduct (GaplessView D)
gapless_conduct conduct = record {
  history = λ disk. conduct.history disk.inner;
  honest = λ disk. conduct.honest disk.inner;
  faults = fault_count conduct;
}

-- the call was made of the device inside, and no other
pub record PassesOn
    {D : Type 0} (conduct : Conduct D)
    (old : GaplessView D) (call : Call) (new : GaplessView D) : Type 0 where
  pub rest : new ≡ record old { inner = new.inner }
  pub passed : HasCalls conduct old.inner (call ∷ []) new.inner
