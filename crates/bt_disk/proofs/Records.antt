-- What a device in memory keeps of its calls.
use Rattle.std.proofs.Common.{◌≡◌, ℕ, ◌<◌, List, [], ◌∷◌, ◌++◌, length, map, min, refl, ap, ◌∙◌, arith}
use Rattle.std.proofs.lemmas.List.{map-append}
use Rattle.bt_disk.specs.State.{written, resized, write_state}
use Rattle.bt_disk.specs.History.{History, then, after_write}
use Rattle.bt_disk.specs.Calls.{Call, bytes_written, length_set, sync_made, after_call}
use Rattle.bt_disk.specs.MemoryDisk.{Record, after_calls, history_of}
use Rattle.bt_disk.specs.RecordSteps.{LeadsTo, call_of}
use Rattle.bt_disk.specs.declared.medium.Change.{Change}

-- one call more
pub after_calls_push : (h : History) (calls : List Call) (call : Call) → after_calls h (calls ++ call ∷ []) ≡ after_call (after_calls h calls) call
after_calls_push h [] call = refl
after_calls_push h (first ∷ calls) call = after_calls_push (after_call h first) calls call

pub history_push : (kept : Record) (call : Call) → history_of (record kept { calls = kept.calls ++ call ∷ [] }) ≡ after_call (history_of kept) call
history_push kept call = after_calls_push _ kept.calls call

-- a write of one or more bytes
pub after_write_some : (h : History) (at : ℕ) (more : List ℕ) → 0 < length more → after_write h at more ≡ then h (write_state h.now at more)
after_write_some h at [] some = absurd (omega arith)
after_write_some h at (byte ∷ more) some = refl

pub leads_write : (first new_first : List ℕ) (calls new_calls : List Call) (bytes new_bytes : List ℕ) (ranges new_ranges : List (ℕ × ℕ)) (least at : ℕ) (more : List ℕ)
    → 0 < length more → new_first ≡ first → new_calls ≡ calls ++ bytes_written at more ∷ [] → new_bytes ≡ written bytes at more
    → new_ranges ≡ ranges ++ (at, length more) ∷ [] → LeadsTo (record { first = first; calls = calls }) bytes ranges least
    → LeadsTo (record { first = new_first; calls = new_calls }) new_bytes new_ranges least
leads_write first new_first calls new_calls bytes new_bytes ranges new_ranges least at more some same pushed put noted leads =
    let e = history_push (record { first = first; calls = calls }) (bytes_written at more)
    ∙ after_write_some (history_of (record { first = first; calls = calls })) at more some in
    rw (same, pushed, put, noted) record {
      bytes_now = ap (λ h. h.now.bytes) e ∙ ap (λ b. written b at more) leads.bytes_now;
      ranges_now = ap (λ h. h.now.ranges) e ∙ ap (λ r. r ++ (at, length more) ∷ []) leads.ranges_now;
      least_now = ap (λ h. h.now.least_length) e ∙ leads.least_now;
    }

pub leads_set_len : (first new_first : List ℕ) (calls new_calls : List Call) (bytes new_bytes : List ℕ) (ranges : List (ℕ × ℕ)) (least new_least len : ℕ)
    → new_first ≡ first → new_calls ≡ calls ++ length_set len ∷ [] → new_bytes ≡ resized bytes len → new_least ≡ min least len
    → LeadsTo (record { first = first; calls = calls }) bytes ranges least
    → LeadsTo (record { first = new_first; calls = new_calls }) new_bytes ranges new_least
leads_set_len first new_first calls new_calls bytes new_bytes ranges least new_least len same pushed put lesser leads =
    let e = history_push (record { first = first; calls = calls }) (length_set len) in
    rw (same, pushed, put, lesser) record {
      bytes_now = ap (λ h. h.now.bytes) e ∙ ap (λ b. resized b len) leads.bytes_now;
      ranges_now = ap (λ h. h.now.ranges) e ∙ leads.ranges_now;
      least_now = ap (λ h. h.now.least_length) e ∙ ap (λ n. min n len) leads.least_now;
    }

pub leads_sync : (first : List ℕ) (calls new_calls : List Call) (bytes : List ℕ) (ranges new_ranges : List (ℕ × ℕ)) (least new_least : ℕ)
    → new_calls ≡ calls ++ sync_made ∷ [] → new_ranges ≡ [] → new_least ≡ length bytes
    → LeadsTo (record { first = first; calls = calls }) bytes ranges least → LeadsTo (record { first = first; calls = new_calls }) bytes new_ranges new_least
leads_sync first calls new_calls bytes ranges new_ranges least new_least pushed none all leads =
    let e = history_push (record { first = first; calls = calls }) sync_made in
    rw (pushed, none, all) record {
      bytes_now = ap (λ h. h.now.bytes) e ∙ leads.bytes_now;
      ranges_now = ap (λ h. h.now.ranges) e;
      least_now = ap (λ h. h.now.least_length) e ∙ ap length leads.bytes_now;
    }

-- the record as calls
pub calls_push : (changes news : List Change) (change : Change) → news ≡ changes ++ change ∷ [] → map call_of news ≡ map call_of changes ++ call_of change ∷ []
calls_push changes news change e = ap (map call_of) e ∙ map-append call_of changes (change ∷ [])
