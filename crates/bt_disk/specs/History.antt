-- All that a device held, from its making on.
use Rattle.std.specs.Prelude.{◌≡◌, ℕ, ◌≤◌, ◌⊎◌, List, [], ◌∷◌, length, slice_get, Some}
use Rattle.bt_disk.specs.State.{State, synced_state, write_state, resize_state, IsImage}

-- the states before the present one, the newest first, and the present one
pub record History : Type 0 where
  pub past : List State
  pub now : State

-- a device that has just been made, with these bytes
abbrev pub new_history : List ℕ → History
new_history bytes = record { past = []; now = synced_state bytes }

-- the history goes on with this state
abbrev pub then : History → State → History
then h s = record { past = h.now ∷ h.past; now = s }

-- a moment is told by how many states went before it
abbrev pub moment_of : History → ℕ
moment_of h = length h.past

-- after a write that succeeded: one of no bytes changes nothing
abbrev pub after_write : History → ℕ → List ℕ → History
after_write h at [] = h
after_write h at (byte ∷ bytes) = then h (write_state h.now at (byte ∷ bytes))

-- after a change of the length that succeeded
abbrev pub after_set_len : History → ℕ → History
after_set_len h len = then h (resize_state h.now len)

-- after a sync that succeeded
abbrev pub after_sync : History → History
after_sync h = then h (synced_state h.now.bytes)

-- a crash at one of these moments, but not before moment t, may have left these bytes
abbrev pub LeftBefore : List State → ℕ → List ℕ → Type 0
LeftBefore [] t image = ⊥
LeftBefore (s ∷ past) t image = ((t ≤ length past) × IsImage s image) ⊎ LeftBefore past t image

-- a crash at moment t or later may have left these bytes
abbrev pub LeftSince : History → ℕ → List ℕ → Type 0
LeftSince h t image = IsImage h.now image ⊎ LeftBefore h.past t image

-- whatever a crash at moment t or later has left, it has this byte at i
abbrev pub IsKeptSince : History → ℕ → ℕ → ℕ → Type 0
IsKeptSince h t i byte = (image : List ℕ) → LeftSince h t image → slice_get image i ≡ Some byte

-- whatever a crash at moment t or later has left, it has at most n bytes
abbrev pub IsWithinSince : History → ℕ → ℕ → Type 0
IsWithinSince h t n = (image : List ℕ) → LeftSince h t image → length image ≤ n
