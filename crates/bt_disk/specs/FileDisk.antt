-- What is known of a device that is a file: whether it may be written, and the count of failed calls. What a
-- file of the system holds, no contract can say: such a device is not honest.
use Rattle.std.specs.Prelude.{ℕ}
use Rattle.bt_disk.specs.declared.handle.Handle.{Handle}
use Rattle.bt_disk.specs.declared.handle.Handle.TheVariants.{Absent, Reading, Writing}

-- a file that is not there, one that is read, and one that is read and written
pub data Access : Type 0 where
  absent : Access
  reading : Access
  writing : Access

abbrev pub access_of : {F : Type 0} → Handle F → Access
access_of Absent = absent
access_of (Reading file) = reading
access_of (Writing file) = writing

-- a device that is a file
pub record FileView : Type 0 where
  pub access : Access
  pub failed : ℕ
