-- What a command hears at its end of a bell, which rings where a device refuses a write.
use Rattle.std.specs.Prelude.{◌≡◌, Bool, true}

-- it told whether it ever rang, and where it did, all files are complete
pub record IsHeard (Tells : Bool → Type 0) (is_complete : Bool) : Type 0 where
  pub rang : Bool
  pub told : Tells rang
  pub complete : rang ≡ true → is_complete ≡ true
