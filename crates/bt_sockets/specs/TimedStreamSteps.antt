-- What is written to a socket at which nobody waits for ever.
use Rattle.std.specs.Prelude.{ℕ, List, Option, take}
use Rattle.std.specs.Io.KnownBytes.{Appends}

-- The last thing that the socket got are the first `count` of the bytes. What it got before is not known here: while it
-- took nothing, it was read.
abbrev pub IsWritten : {S : Type 0} → (S → Option (List ℕ)) → List ℕ → ℕ → S → Type 0
IsWritten {S} contents bytes count new = (mid : S) × Appends (contents mid) (contents new) (take count bytes)
