-- What is read and written of an open file. A file's type may say where a file stands, which bytes it has,
-- which of them it has left, and which were written to it; a file of the system says none of these.
use Rattle.std.specs.Prelude.{◌≡◌, ℕ, ◌<◌, ◌≤◌, ◌⊎◌, List, [], length, Option, Some, IfSome}
use Rattle.std.specs.Io.KnownBytes.{Consumes, Appends, IsAtEnd}

-- a file that stood somewhere now stands at byte `at`
abbrev pub StandsAt : Option ℕ → Option ℕ → ℕ → Type 0
StandsAt old new at = IfSome old (λ _. new ≡ Some at)

-- the bytes of a file that stands somewhere end at byte `at` or before
abbrev pub EndsBy : Option ℕ → Option (List ℕ) → ℕ → Type 0
EndsBy position bytes at = IfSome position (λ _. IfSome bytes (λ all. length all ≤ at))

-- The file was placed at byte `at`, and what it had left there was read: fewer bytes than were wanted only
-- where it then is at its end.
pub record IsReadFrom
    {F : Type 0} (position : F → Option ℕ) (left : F → Option (List ℕ))
    (old : F) (at wanted : ℕ) (given : List ℕ) (new : F) : Type 0 where
  pub placed : F
  pub stands : StandsAt (position old) (position placed) at
  pub next : Consumes (left placed) (left new) given
  pub ended : length given < wanted → IsAtEnd (left new)

-- no byte was read, and the file's bytes end at byte `at` or before
pub record IsReadPast
    {F : Type 0} (position : F → Option ℕ) (bytes : F → Option (List ℕ))
    (old : F) (at : ℕ) (given : List ℕ) : Type 0 where
  pub none : given ≡ []
  pub past : EndsBy (position old) (bytes old) at

-- these bytes were read of the file from byte `at` on
abbrev pub IsReadAt :
    {F : Type 0} → (F → Option ℕ) → (F → Option (List ℕ)) → (F → Option (List ℕ))
    → F → ℕ → ℕ → List ℕ → F → Type 0
IsReadAt position bytes left old at wanted given new =
    IsReadFrom position left old at wanted given new ⊎ IsReadPast position bytes old at given

-- these bytes were read of some open file
abbrev pub IsReadOfFile :
    {F : Type 0} → (F → Option ℕ) → (F → Option (List ℕ)) → (F → Option (List ℕ)) → ℕ → ℕ → List ℕ → Type 0
IsReadOfFile {F} position bytes left at wanted given =
    (old : F) × (new : F) × IsReadAt position bytes left old at wanted given new

-- the file was placed at byte `at`, and all the bytes were written there
pub record IsWrittenAt
    {F : Type 0} (position : F → Option ℕ) (held : F → Option (List ℕ))
    (old : F) (at : ℕ) (bytes : List ℕ) (new : F) : Type 0 where
  pub placed : F
  pub stands : StandsAt (position old) (position placed) at
  pub put : Appends (held placed) (held new) bytes

-- these bytes, if any, were written to some open file
abbrev pub IsWrittenToFile :
    {F : Type 0} → (F → Option ℕ) → (F → Option (List ℕ)) → ℕ → List ℕ → Type 0
IsWrittenToFile {F} position held at bytes =
    (bytes ≡ []) ⊎ ((old : F) × (new : F) × IsWrittenAt position held old at bytes new)
