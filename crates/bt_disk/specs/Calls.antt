-- Calls of a device, each with its answer, and what an honest device makes of them.
use Rattle.std.specs.Prelude.{◌≡◌, ℕ, ◌+◌, ◌<◌, ◌≤◌, ◌⊎◌, ◌↔◌, List, [], ◌∷◌, length, take, drop, Result, Ok, Err, ⊤}
use Rattle.bt_disk.specs.Limits.{one_more}
use Rattle.bt_disk.specs.State.{State, IsTornWrite, IsTornResize}
use Rattle.bt_disk.specs.Conduct.{Conduct}
use Rattle.bt_disk.specs.History.{History, then, after_write, after_set_len, after_sync}

-- A call and its answer. A read has its place and how many bytes were wanted, and the bytes that it gave.
pub data Call : Type 0 where
  length_given : (len : ℕ) → Call
  length_fault : Call
  bytes_given : (at wanted : ℕ) (bytes : List ℕ) → Call
  read_fault : (at wanted : ℕ) → Call
  bytes_written : (at : ℕ) (bytes : List ℕ) → Call
  write_fault : (at : ℕ) (bytes : List ℕ) → Call
  length_set : (len : ℕ) → Call
  resize_fault : (len : ℕ) → Call
  sync_made : Call
  sync_fault : Call

-- the call that a result answers

abbrev pub len_call : {E : Type 0} → Result ℕ E → Call
len_call (Ok len) = length_given len
len_call (Err _) = length_fault

abbrev pub read_call : {E : Type 0} → ℕ → List ℕ → Result ℕ E → Call
read_call at out (Ok count) = bytes_given at (length out) (take count out)
read_call at out (Err _) = read_fault at (length out)

abbrev pub write_call : {T E : Type 0} → ℕ → List ℕ → Result T E → Call
write_call at bytes (Ok _) = bytes_written at bytes
write_call at bytes (Err _) = write_fault at bytes

abbrev pub set_len_call : {T E : Type 0} → ℕ → Result T E → Call
set_len_call len (Ok _) = length_set len
set_len_call len (Err _) = resize_fault len

abbrev pub sync_call : {T E : Type 0} → Result T E → Call
sync_call (Ok _) = sync_made
sync_call (Err _) = sync_fault

-- after a write that failed: nothing changed, or a part of it was made
abbrev pub AfterWriteFault : ℕ → List ℕ → History → History → Type 0
AfterWriteFault at [] old new = new ≡ old
AfterWriteFault at (byte ∷ bytes) old new =
    (new ≡ old) ⊎ ((s : State) × IsTornWrite at (length (byte ∷ bytes)) old.now s × (new ≡ then old s))

-- after a change of the length that failed: nothing changed, or a part of it was made
abbrev pub AfterResizeFault : ℕ → History → History → Type 0
AfterResizeFault len old new = (new ≡ old) ⊎ ((s : State) × IsTornResize len old.now s × (new ≡ then old s))

-- the history after a call that leaves no choice: a failed one changes nothing
abbrev pub after_call : History → Call → History
after_call h (bytes_written at bytes) = after_write h at bytes
after_call h (length_set len) = after_set_len h len
after_call h sync_made = after_sync h
after_call h _ = h

-- An honest device answers the call so, and leads from the one history to the other. A read gives as many of
-- the bytes wanted as there are.
abbrev pub IsAnswered : History → Call → History → Type 0
IsAnswered old (length_given len) new = (len ≡ length old.now.bytes) × (new ≡ old)
IsAnswered old length_fault new = new ≡ old
IsAnswered old (bytes_given at wanted bytes) new = (bytes ≡ take wanted (drop at old.now.bytes)) × (new ≡ old)
IsAnswered old (read_fault at wanted) new = new ≡ old
IsAnswered old (bytes_written at bytes) new = new ≡ after_write old at bytes
IsAnswered old (write_fault at bytes) new = AfterWriteFault at bytes old new
IsAnswered old (length_set len) new = new ≡ after_set_len old len
IsAnswered old (resize_fault len) new = AfterResizeFault len old new
IsAnswered old sync_made new = new ≡ after_sync old
IsAnswered old sync_fault new = new ≡ old

-- it answers these calls so, one after the other
abbrev pub AreAnswered : History → List Call → History → Type 0
AreAnswered old [] new = new ≡ old
AreAnswered old (call ∷ calls) new = (mid : History) × IsAnswered old call mid × AreAnswered mid calls new

-- how many calls have failed, after a call and after several

abbrev pub count_after_call : ℕ → Call → ℕ
count_after_call count length_fault = one_more count
count_after_call count (read_fault at wanted) = one_more count
count_after_call count (write_fault at bytes) = one_more count
count_after_call count (resize_fault len) = one_more count
count_after_call count sync_fault = one_more count
count_after_call count (length_given len) = count
count_after_call count (bytes_given at wanted bytes) = count
count_after_call count (bytes_written at bytes) = count
count_after_call count (length_set len) = count
count_after_call count sync_made = count

abbrev pub count_after_calls : ℕ → List Call → ℕ
count_after_calls count [] = count
count_after_calls count (call ∷ calls) = count_after_calls (count_after_call count call) calls

-- These calls, with these answers, lead from old to new: of an honest device by its history, and of any
-- device by the count of its failed calls. So no other call failed, or changed an honest device. A read or a
-- length that was given leaves no trace: their number and order are not told.
pub record HasCalls
    {D : Type 0} (conduct : Conduct D)
    (old : D) (calls : List Call) (new : D) : Type 0 where
  pub counted : conduct.faults new ≡ count_after_calls (conduct.faults old) calls
  pub as_honest : conduct.honest old ↔ conduct.honest new
  pub answered : conduct.honest old → AreAnswered (conduct.history old) calls (conduct.history new)

-- the call changes nothing
abbrev pub IsRead : Call → Type 0
IsRead (length_given len) = ⊤
IsRead length_fault = ⊤
IsRead (bytes_given at wanted bytes) = ⊤
IsRead (read_fault at wanted) = ⊤
IsRead _ = ⊥

-- the call leaves byte i as it is: it is no write of a range with this byte, and doesn't cut it off
abbrev pub Spares : ℕ → Call → Type 0
Spares i (bytes_written at bytes) = (i < at) ⊎ (at + length bytes ≤ i)
Spares i (write_fault at bytes) = (i < at) ⊎ (at + length bytes ≤ i)
Spares i (length_set len) = i < len
Spares i (resize_fault len) = i < len
Spares i _ = ⊤

-- the call goes no further than n bytes: it is no write that ends past them, and sets no greater length
abbrev pub EndsWithin : ℕ → Call → Type 0
EndsWithin n (bytes_written at bytes) = at + length bytes ≤ n
EndsWithin n (write_fault at bytes) = at + length bytes ≤ n
EndsWithin n (length_set len) = len ≤ n
EndsWithin n (resize_fault len) = len ≤ n
EndsWithin n _ = ⊤
