-- Open handles that devices share.
use Rattle.std.specs.Prelude.{◌≡◌, ◌≢◌, ◌⊎◌, ℕ, ◌<◌, ◌≤◌, ◌==◌, ◌||◌, not, Bool, true, false, List, [], ◌∷◌, ◌++◌, length, slice_get, slice_index_or, Some, All, filter}
use Rattle.std.specs.List.{list_any, remove}
use Rattle.bt_disk.specs.declared.open_handles.OpenHandle.{OpenHandle}

-- How many may be open, and the open ones, the one used last first; the devices of closed handles whose sync
-- failed, which were not told of it yet; and whether such a device could not be kept, so that each counts as one.
pub record HandlesView (F : Type 0) : Type 0 where
  pub limit : ℕ
  pub entries : List (OpenHandle F)
  pub lost : List ℕ
  pub are_all_lost : Bool

abbrev pub no_handles : {F : Type 0} → ℕ → HandlesView F
no_handles limit = record { limit = limit; entries = []; lost = []; are_all_lost = false }

-- the device of a handle is lost, or, where there is no memory for one more, all are
abbrev pub IsLossKept : {F : Type 0} → ℕ → HandlesView F → HandlesView F → Type 0
IsLossKept device old new =
    (new ≡ record old { lost = old.lost ++ device ∷ [] }) ⊎ (new ≡ record old { are_all_lost = true })

-- the handle was closed: only one that has written is synced, so only its device may be lost by that
abbrev pub IsClosed : {F : Type 0} → OpenHandle F → HandlesView F → HandlesView F → Type 0
IsClosed handle old new = (new ≡ old) ⊎ ((handle.has_written ≡ true) × IsLossKept handle.device old new)

-- There is room for one more: there was, or the handle that was used longest ago was closed.
pub data IsRoomMade {F : Type 0} (old new : HandlesView F) : Type 0 where
  had_room : length old.entries < old.limit → new ≡ old → IsRoomMade old new
  last_closed : (rest : List (OpenHandle F)) (handle : OpenHandle F)
      → old.limit ≤ length old.entries → old.entries ≡ rest ++ handle ∷ []
      → IsClosed handle (record old { entries = rest }) new → IsRoomMade old new

-- room was made for this handle, and it is the one used last
pub record IsPut {F : Type 0} (handle : OpenHandle F) (old new : HandlesView F) : Type 0 where
  pub room : HandlesView F
  pub made : IsRoomMade old room
  pub put : new ≡ record room { entries = handle ∷ room.entries }

-- the handle at this place is this device's
pub record IsPlaceOf {F : Type 0} (device : ℕ) (entries : List (OpenHandle F)) (place : ℕ) : Type 0 where
  pub inside : place < length entries
  pub here : (entry : OpenHandle F) → entry ≡ slice_index_or entries place entry → entry.device ≡ device

-- none is this device's
abbrev pub HasNone : {F : Type 0} → ℕ → HandlesView F → Type 0
HasNone device handles = All (λ entry. entry.device ≢ device) handles.entries

-- the handle was taken out, and nothing else changed
pub record IsTaken {F : Type 0} (handle : OpenHandle F) (old new : HandlesView F) : Type 0 where
  pub place : ℕ
  pub there : slice_get old.entries place ≡ Some handle
  pub rest : new ≡ record old { entries = remove old.entries place }

-- a sync failed as a handle of the device was closed, and it was not told yet
abbrev pub is_lost : {F : Type 0} → ℕ → HandlesView F → Bool
is_lost device handles = handles.are_all_lost || list_any (λ lost. lost == device) handles.lost

-- the device is not one of those that were kept as lost any more
abbrev pub with_loss_told : {F : Type 0} → ℕ → HandlesView F → HandlesView F
with_loss_told device handles =
    record handles { lost = filter (λ lost. not (lost == device)) handles.lost }
