-- What waits before a writer.
use Rattle.std.specs.Prelude.{ℕ, ◌≡◌, ◌^◌, List, ◌++◌, Option}
use Rattle.std.specs.Io.KnownBytes.{Appends}

-- 4 MiB
abbrev pub most_waiting : ℕ
most_waiting = 2 ^ 22

-- a writer, and the bytes that it has not taken yet
pub record Waiting (W : Type 0) : Type 0 where
  pub inner : W
  pub bytes : List ℕ

-- the first of what waited was passed on, in order, and the rest waits
pub record IsDrained {W : Type 0} (contents : W → Option (List ℕ)) (old new : Waiting W) : Type 0 where
  pub front : List ℕ
  pub parts : old.bytes ≡ front ++ new.bytes
  pub passed : Appends (contents old.inner) (contents new.inner) front
