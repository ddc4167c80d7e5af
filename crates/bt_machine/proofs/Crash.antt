-- What a crash leaves of blocks that are not missing.
use Rattle.bt_machine.proofs.Base.{[], ◌≡◌, ◌≢◌, ℕ, ◌+◌, ◌*◌, ◌<◌, ◌≤◌, ◌⊎◌, inl, inr, List, length, Some, ap, subst, arith, slice_get, Contains, All, cases_lt, block_length, IsImage, Call, bytes_written, write_fault, length_set, resize_fault, Spares, CallsKeepBytes, Missing}
use Rattle.bt_machine.proofs.Machine.{Digest, EngineState, calls_of, IsFile, KeepsBytes, StepKeepsImages}
use Rattle.bt_machine.proofs.Lists.{some_below, contains_none, contains_cases}
use Rattle.bt_machine.proofs.Pairs.{contains_at}
use Rattle.bt_machine.proofs.Tame.{Touches, keeping, putting, step_touches}
use Rattle.bt_machine.proofs.Sound.{of_all}
use Rattle.bt_disk.specs.Conduct.{Conduct}

keeps_spare : (n : ℕ) (c : Call) → KeepsBytes c → Spares n c
keeps_spare n (bytes_written at bytes) k = absurd k
keeps_spare n (write_fault at bytes) k = absurd k
keeps_spare n (length_set len) k = absurd k
keeps_spare n (resize_fault len) k = absurd k
keeps_spare n _ k = tt

-- a write of another block is beside the block
beside : (n m i b j : ℕ) (bytes : List ℕ) → i ≢ b → j < block_length n i → length bytes ≡ block_length m b
    → (16384 * i + j < 16384 * b) ⊎ (16384 * b + length bytes ≤ 16384 * i + j)
beside n m i b j bytes apart lt size = elim (cases_lt i b) [
  | inl below ↦ inl (omega arith)
  | inr le ↦ elim (cases_lt b i) [ inl above ↦ inr (omega arith) | inr ge ↦ absurd (apart (omega arith)) ]
]

write_spares : (n m i b j : ℕ) {bytes c : _} → i ≢ b → j < block_length n i → length bytes ≡ block_length m b
    → (c ≡ bytes_written (16384 * b) bytes) ⊎ (c ≡ write_fault (16384 * b) bytes) → Spares (16384 * i + j) c
write_spares n m i b j {bytes} apart lt size (inl e) = rw e (beside n m i b j bytes apart lt size)
write_spares n m i b j {bytes} apart lt size (inr e) = rw e (beside n m i b j bytes apart lt size)

-- no call of a step reaches a block of the file that is not missing
step_spares : {s : EngineState} {calls file : _} (i j : ℕ) {f k : _} → Touches s.files s.trees calls → IsFile s file f k
    → slice_get f.states i ≢ Some Missing → j < block_length k.file_length i → {c : _} → Contains calls (file, c) → Spares (16384 * i + j) c
step_spares {file} i j (keeping keep) is present lt {c} among = keeps_spare _ c (keep (file, c) among)
step_spares {s} {file} i j {f} {k} (putting b bytes g l call here has_tree missing whole only writes) is present lt {c} among =
    elim (contains_cases [] (subst (λ cs. Contains cs (file, c)) only among)) [
      | inl same ↦
          let at = ap (λ x. x.0) same in
          let call_is = ap (λ x. x.1) same in
          let g_is : g ≡ f = cc in
          let apart : i ≢ b.block = λ e. present (cc) in
          rw (← call_is) (write_spares _ _ i _ j apart lt whole writes)
      | inr none ↦ absurd (contains_none none)
    ]

all_of : {X : Type 0} (P : X → Type 0) (xs : List X) → ((x : X) → Contains xs x → P x) → All P xs
all_of P xs h k d lt = h _ (contains_at xs k d lt)

module _ {D : Type 0} (conduct : Conduct D) (dig : Digest) (calls_keep : CallsKeepBytes) where
  pub images_kept : ((d : D) → conduct.honest d → IsImage (conduct.history d).now (conduct.history d).now.bytes) → StepKeepsImages conduct dig
  images_kept reads old new event calls answer disks after file i t f k bytes e step have is present size there honest_now kept j byte at =
      let d = have.each file e there in
      let honest_before = d.2.as_honest.1 honest_now in
      let inside : j < block_length k.file_length i = (let lt = some_below bytes j at in omega arith) in
      let spares = all_of _ _ (λ c among. step_spares i j (step_touches dig old new event calls _ step) is present inside (of_all calls.devices among)) in
      calls_keep (conduct.history d.0) (conduct.history e) (calls_of file calls.devices) t (16384 * i + j) byte (reads d.0 honest_before) (d.2.answered honest_before) spares (kept d.0 d.1 j byte at)
