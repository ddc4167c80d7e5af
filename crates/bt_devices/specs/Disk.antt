-- A device that is read ahead.
use Rattle.std.specs.Prelude.{ℕ, ◌≤◌, List, ◌∷◌, [], length, All, Result}
use Rattle.bt_disk.specs.Conduct.{Conduct}
use Rattle.bt_disk.specs.Calls.{Call, HasCalls, read_call}
use Rattle.bt_devices.specs.Cache.{IsRunRead}

-- the device inside, and how many of its own calls have failed: a read ahead that fails is none of these
pub record AheadView (D : Type 0) : Type 0 where
  pub inner : D
  pub failed : ℕ

abbrev pub new_ahead : {D : Type 0} → D → AheadView D
new_ahead inner = record { inner = inner; failed = 0 }

-- it holds what the device inside does
abbrev pub ahead_conduct : {D : Type 0} → Conduct D → Conduct (AheadView D)
ahead_conduct conduct = record {
  history = λ disk. conduct.history disk.inner;
  honest = λ disk. conduct.honest disk.inner;
  faults = λ disk. disk.failed;
}

-- nothing was called, or eight blocks were read from byte `at` on
pub record MayReadRun
    {D : Type 0} (conduct : Conduct D)
    (old : D) (at : ℕ) (new : D) : Type 0 where
  pub calls : List Call
  pub once : length calls ≤ 1
  pub run_read : All (IsRunRead at) calls
  pub made : HasCalls conduct old calls new

-- The device inside was read, and its answer is the answer; before, eight blocks may have been read from
-- there on.
pub record IsReadAfterRun
    {D E : Type 0} (conduct : Conduct D)
    (old : D) (at : ℕ) (out : List ℕ) (result : Result ℕ E) (new : D) : Type 0 where
  pub between : D
  pub ahead : MayReadRun conduct old at between
  pub passed : HasCalls conduct between (read_call at out result ∷ []) new
