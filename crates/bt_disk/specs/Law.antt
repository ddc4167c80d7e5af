-- What calls of an honest device leave in the images of a crash.
use Rattle.std.specs.Prelude.{◌≡◌, ℕ, ◌↔◌, List, [], ◌∷◌, ◌++◌, slice_get, Some, All}
use Rattle.bt_disk.specs.State.{State, IsImage, IsKept, IsWithin}
use Rattle.bt_disk.specs.Conduct.{Conduct}
use Rattle.bt_disk.specs.History.{History, moment_of, IsKeptSince, IsWithinSince}
use Rattle.bt_disk.specs.declared.loss.Loss.{Loss}
use Rattle.bt_disk.specs.MemoryDisk.{IsLeftBy}
use Rattle.bt_disk.specs.Calls.{Call, sync_made, IsAnswered, AreAnswered, HasCalls, count_after_call, IsRead, Spares, EndsWithin}

-- an image from before the call, with at most other bytes where the call reaches
pub record IsReached (old : State) (call : Call) (before image : List ℕ) : Type 0 where
  pub possible : IsImage old before
  pub spared : (i byte : ℕ) → Spares i call → slice_get before i ≡ Some byte → slice_get image i ≡ Some byte

-- After a sync that succeeded, a crash leaves what a read gives, whatever came before.
abbrev pub SyncKeepsAll : Type 0
SyncKeepsAll = (old new : History) (image : List ℕ) → IsAnswered old sync_made new → IsImage new.now image
    → (image ≡ old.now.bytes) × (new.now.bytes ≡ old.now.bytes)

-- What a loss leaves of a state is one list of bytes.
abbrev pub LeavesOneImage : Type 0
LeavesOneImage = (loss : Loss) (s : State) (a b : List ℕ) → IsLeftBy loss s a → IsLeftBy loss s b → a ≡ b

-- Reads change no image.
abbrev pub ReadsChangeNothing : Type 0
ReadsChangeNothing = (old new : History) (calls : List Call) → All IsRead calls → AreAnswered old calls new
    → new ≡ old

-- Each image after a call is one from before it but for what the call reaches: the range of a write, made or
-- torn, or what lies past a new length.
abbrev pub CallsReachTheirRange : Type 0
CallsReachTheirRange = (old new : History) (call : Call) (image : List ℕ) → IsImage old.now old.now.bytes
    → IsAnswered old call new → IsImage new.now image
    → (before : List ℕ) × IsReached old.now call before image

-- A byte that every image since a moment has, and that none of the calls reaches, every image since then goes
-- on to have, within these calls too.
abbrev pub CallsKeepBytes : Type 0
CallsKeepBytes = (old new : History) (calls : List Call) (t i byte : ℕ) → IsImage old.now old.now.bytes
    → AreAnswered old calls new → All (Spares i) calls → IsKeptSince old t i byte → IsKeptSince new t i byte

-- what every image now has, every image since now has
abbrev pub KeptFromNow : Type 0
KeptFromNow = (h : History) (i byte : ℕ) → IsKept h.now i byte → IsKeptSince h (moment_of h) i byte

-- Where every image since a moment has at most n bytes, and none of the calls goes further, every image since
-- then goes on to have at most n, within these calls too.
abbrev pub CallsKeepLengths : Type 0
CallsKeepLengths = (old new : History) (calls : List Call) (t n : ℕ) → IsImage old.now old.now.bytes
    → AreAnswered old calls new → All (EndsWithin n) calls → IsWithinSince old t n → IsWithinSince new t n

-- where every image now has at most n bytes, every image since now has
abbrev pub WithinFromNow : Type 0
WithinFromNow = (h : History) (n : ℕ) → IsWithin h.now n → IsWithinSince h (moment_of h) n

-- Of a kind of device: its history, which of them are honest, and the count of failed calls.

-- no call leads from a device to itself
abbrev pub NoCallsLead : {D : Type 0} → Conduct D → Type 0
NoCallsLead {D} conduct = (disk : D) → HasCalls conduct disk [] disk

-- One call leads to what it leaves: it is counted where it failed, keeps the device honest or not, and is
-- answered as an honest device does.
abbrev pub OneCallLeads : {D : Type 0} → Conduct D → Type 0
OneCallLeads {D} conduct = (old : D) (call : Call) (new : D)
    → conduct.faults new ≡ count_after_call (conduct.faults old) call
    → conduct.honest old ↔ conduct.honest new
    → (conduct.honest old → IsAnswered (conduct.history old) call (conduct.history new))
    → HasCalls conduct old (call ∷ []) new

-- calls and then others are these calls one after the other
abbrev pub CallsCompose : {D : Type 0} → Conduct D → Type 0
CallsCompose {D} conduct = (a b c : D) (xs ys : List Call)
    → HasCalls conduct a xs b → HasCalls conduct b ys c
    → HasCalls conduct a (xs ++ ys) c
