-- What hashes that come make of the trees and the files.
use Rattle.std.specs.Prelude.{[], ◌≡◌, ◌≢◌, ◌≤◌, ℕ, List, Option, Some, slice_get, slice_set}
use Rattle.std.specs.List.{sum_by}
use Rattle.bt_disk.specs.Conduct.{Conduct}
use Rattle.bt_sparse.specs.SparseTree.{Facts}
use Rattle.bt_sparse.specs.Acceptance.{Accepts, IsRefused}
use Rattle.bt_sparse.specs.declared.claim.Claim.{Claim}
use Rattle.bt_sparse.specs.declared.claim.ProofError.{ProofError}
use Rattle.bt_sparse.specs.declared.claim.ProofError.TheVariants.{OutOfMemory}
use Rattle.bt_hashreq.specs.Claim.{IsClaimBy, IsNoClaim}
use Rattle.bt_hashreq.specs.declared.key.HashKey.{HashKey}
use Rattle.bt_machine.specs.declared.answer.Note.{Note}
use Rattle.bt_machine.specs.declared.answer.Why.{Why}
use Rattle.bt_machine.specs.declared.answer.Why.TheVariants.{UnknownRoot, Proof}
use Rattle.bt_machine.specs.HashMessages.{settled_count}
use Rattle.bt_machine.specs.State.{Hint}
use Rattle.bt_engine_messages.specs.HintSteps.{kept_hint}
use Rattle.bt_engine_messages.specs.NoteRooms.{slot_room, run_room}
use Rattle.bt_engine_messages.specs.RunSteps.{SettlesSlots, FitsLength}
use Rattle.bt_engine_state.specs.declared.slot.Slot.{Slot}
use Rattle.bt_engine_messages.specs.declared.learning.Learnt.{Learnt}
use Rattle.bt_engine_messages.specs.declared.learning.Learnt.TheVariants.{Refused, Settled}

-- the tree of a root stands at i
pub record HasRoot (trees : List Facts) (root : List ℕ) (i : ℕ) (k : Facts) : Type 0 where
  pub here : slice_get trees i ≡ Some k
  pub same_root : k.root ≡ root

abbrev pub LacksRoot : List Facts → List ℕ → Type 0
LacksRoot trees root = (i : ℕ) (k : Facts) → ¬ HasRoot trees root i k

-- why hashes are refused; want of memory is no such fault
pub data AreRefused (dig : List ℕ → List ℕ) (trees : List Facts) (key : HashKey) (digests : List ℕ)
    : Why → Type 0 where
  unknown_root : LacksRoot trees key.root → AreRefused dig trees key digests UnknownRoot
  no_claim : (fault : ProofError) (i : ℕ) (k : Facts) → HasRoot trees key.root i k → fault ≢ OutOfMemory
      → IsNoClaim key digests fault → AreRefused dig trees key digests (Proof fault)
  refused : (fault : ProofError) (i : ℕ) (k : Facts) (claim : Claim) → HasRoot trees key.root i k
      → fault ≢ OutOfMemory → IsClaimBy key digests claim → IsRefused dig k claim fault
      → AreRefused dig trees key digests (Proof fault)

-- a proof is accepted: the tree grows, and then the blocks of its run are settled in every file of the root
pub record Learns {D H : Type 0} (conduct : Conduct D)
    (dig : List ℕ → List ℕ) (key : HashKey) (digests : List ℕ) (trees : List Facts) (slots : List (Slot D H))
    (notes : List Note) (grown : List Facts) (settled : List (Slot D H)) : Type 0 where
  pub tree : ℕ
  pub old : Facts
  pub new : Facts
  pub claim : Claim
  pub here : HasRoot trees key.root tree old
  pub claims : IsClaimBy key digests claim
  pub accepts : Accepts dig old claim new
  pub grows : grown ≡ slice_set trees tree new
  pub settles : SettlesSlots conduct dig new tree key.index (settled_count key) slots [] notes
      settled

-- Refused hashes change nothing. Of others the hint is given back, if there is one and it is to be kept.
abbrev pub ChangesByHashes : {D H : Type 0} → Conduct D → (List ℕ → List ℕ)
    → HashKey → List ℕ → Option Hint → List Facts → List (Slot D H) → Learnt → List Facts → List (Slot D H)
    → Type 0
ChangesByHashes conduct dig key digests hint trees slots (Refused why) grown settled =
    AreRefused dig trees key digests why × (grown ≡ trees) × (settled ≡ slots)
ChangesByHashes conduct dig key digests hint trees slots (Settled notes kept) grown settled =
    (l : Learns conduct dig key digests trees slots notes.items grown settled)
    × (kept ≡ kept_hint l.old l.new hint)

-- the blocks of a run are settled in the tree of this root with at most this many notes
abbrev pub IsRoomFor : {D H : Type 0} → List Facts → List (Slot D H) → HashKey → ℕ → Type 0
IsRoomFor trees slots key room = (i : ℕ) (k : Facts) → HasRoot trees key.root i k
    → sum_by (slot_room i (run_room key)) slots ≤ room

-- each slot of a tree has a store of its length
abbrev pub FitLengths : {D H : Type 0} → List Facts → List (Slot D H) → Type 0
FitLengths {D} {H} trees slots = (file : ℕ) (slot : Slot D H) (k : Facts) → slice_get slots file ≡ Some slot
    → slice_get trees slot.tree ≡ Some k → FitsLength k slot.tree slot
