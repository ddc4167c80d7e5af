-- What a device in memory keeps, and what a crash makes of it.
use Rattle.std.specs.Prelude.{◌≡◌, ℕ, ◌+◌, ◌<◌, ◌≤◌, List, [], ◌∷◌, length, slice_index, All, ⊤}
use Rattle.bt_disk.specs.State.{State, IsOutside}
use Rattle.bt_disk.specs.Conduct.{Conduct}
use Rattle.bt_disk.specs.History.{History, new_history}
use Rattle.bt_disk.specs.Calls.{Call, after_call}
use Rattle.bt_disk.specs.declared.loss.Loss.{Loss}
use Rattle.bt_disk.specs.declared.loss.Loss.TheVariants.{Kept, Filled}

-- the bytes that the device was made with, and the calls since then that changed it, in order
pub record Record : Type 0 where
  pub first : List ℕ
  pub calls : List Call

-- a device in memory: its bytes with their record, and how many of its calls failed
pub record MemoryView : Type 0 where
  pub kept : Record
  pub failed : ℕ

-- the history goes on with these calls
abbrev pub after_calls : History → List Call → History
after_calls h [] = h
after_calls h (call ∷ calls) = after_calls (after_call h call) calls

abbrev pub history_of : Record → History
history_of kept = after_calls (new_history kept.first) kept.calls

abbrev pub new_record : List ℕ → Record
new_record bytes = record { first = bytes; calls = [] }

-- of the range, the image has this byte and no other, as far as it goes
abbrev pub HasOnly : ℕ → List ℕ → ℕ × ℕ → Type 0
HasOnly byte image range =
    (i : ℕ) → i < length image → range.0 ≤ i → i < range.0 + range.1 → slice_index image i ≡ byte

-- it is honest
abbrev pub memory_conduct : Conduct MemoryView
memory_conduct = record {
  history = λ disk. history_of disk.kept;
  honest = λ _. ⊤;
  faults = λ disk. disk.failed;
}

-- the bytes as a read gives them, but for this byte wherever a crash may leave any
pub record IsFilled (s : State) (byte : ℕ) (image : List ℕ) : Type 0 where
  pub same_length : length image ≡ length s.bytes
  pub kept : (i : ℕ) → i < s.least_length → IsOutside i s.ranges → slice_index image i ≡ slice_index s.bytes i
  pub past : (i : ℕ) → i < length s.bytes → s.least_length ≤ i → slice_index image i ≡ byte
  pub written : All (HasOnly byte image) s.ranges

-- what this loss leaves
abbrev pub IsLeftBy : Loss → State → List ℕ → Type 0
IsLeftBy Kept s image = image ≡ s.bytes
IsLeftBy (Filled byte) s image = IsFilled s byte image
