-- What a read of a device in memory gives is one of the images that a crash now may leave: the law, with its
-- proof.
use Rattle.std.specs.Prelude.{◌≡◌, ℕ, ◌+◌, ◌-◌, ◌≤◌, List, [], ◌∷◌, ◌++◌, length, take, drop, replicate, refl}
use Rattle.std.proofs.Common.{arith, length-append, length-drop}
use Rattle.std.proofs.lemmas.List.{length-take, length-replicate}
use Rattle.bt_disk.specs.State.{State, IsImage, written, resized, synced_state}
use Rattle.bt_disk.specs.History.{History, new_history}
use Rattle.bt_disk.specs.Calls.{Call, after_call, bytes_written, length_set, sync_made, length_given, length_fault, bytes_given, read_fault, write_fault, resize_fault, sync_fault}
use Rattle.bt_disk.specs.MemoryDisk.{Record, after_calls, history_of}

-- the length that a read sees is one of those since the last sync
pub record HasLength (s : State) : Type 0 where
  pub no_shorter : s.least_length ≤ length s.bytes
  pub no_longer : length s.bytes ≤ s.greatest_length

pub length-written : (bytes : List ℕ) (at : ℕ) (more : List ℕ)
    → length (written bytes at more) ≡ at + length more + (length bytes - (at + length more))
length-written bytes at more =
    let front = take at bytes ++ replicate (at - length bytes) 0 in
    omega (
      arith,
      length-append (front ++ more) (drop (at + length more) bytes),
      length-append front more,
      length-append (take at bytes) (replicate (at - length bytes) 0),
      length-take at bytes,
      length-replicate {A = ℕ} (at - length bytes) 0,
      length-drop (at + length more) bytes,
    )

pub length-resized : (bytes : List ℕ) (len : ℕ) → length (resized bytes len) ≡ len
length-resized bytes len =
    omega (
      arith,
      length-append (take len bytes) (replicate (len - length bytes) 0),
      length-take len bytes,
      length-replicate {A = ℕ} (len - length bytes) 0,
    )

pub has_length-synced : (bytes : List ℕ) → HasLength (synced_state bytes)
has_length-synced bytes = record { no_shorter = omega arith; no_longer = omega arith }

pub has_length-call : (h : History) (call : Call) → HasLength h.now → HasLength (after_call h call).now
has_length-call h (bytes_written at []) has = has
has_length-call h (bytes_written at (byte ∷ bytes)) has =
    let e = length-written h.now.bytes at (byte ∷ bytes) in
    record { no_shorter = omega (arith, e, has.no_shorter); no_longer = omega (arith, e, has.no_longer) }
has_length-call h (length_set len) has =
    let e = length-resized h.now.bytes len in
    record { no_shorter = omega (arith, e); no_longer = omega (arith, e) }
has_length-call h sync_made has = has_length-synced h.now.bytes
has_length-call h (length_given len) has = has
has_length-call h length_fault has = has
has_length-call h (bytes_given at wanted bytes) has = has
has_length-call h (read_fault at wanted) has = has
has_length-call h (write_fault at bytes) has = has
has_length-call h (resize_fault len) has = has
has_length-call h sync_fault has = has

has_length-calls : (h : History) (calls : List Call) → HasLength h.now → HasLength (after_calls h calls).now
has_length-calls h [] has = has
has_length-calls h (call ∷ calls) has =
    has_length-calls (after_call h call) calls (has_length-call h call has)

pub reads_image : (kept : Record) → IsImage (history_of kept).now (history_of kept).now.bytes
reads_image kept =
    let has = has_length-calls (new_history kept.first) kept.calls (has_length-synced kept.first) in
    record { no_shorter = has.no_shorter; no_longer = has.no_longer; kept = λ i below outside. refl }
