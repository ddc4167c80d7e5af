-- What a log records, and how it is spelled. The formats are this project's own.
use Rattle.std.specs.Prelude.{◌≡◌, ◌≢◌, ℕ, ◌+◌, ◌^◌, ◌<◌, ◌≤◌, List, [], ◌∷◌, ◌++◌, length, flat_map, All}
use Rattle.std.specs.Int.{w32, to_be_bytes}
use Rattle.bt_tree.specs.Limits.{digest_length, max_block_count}
use Rattle.bt_sparse.specs.Answer.{answer_size}
use Rattle.bt_hashreq.specs.Key.{key_spelling, IsKey}
use Rattle.bt_hashreq.specs.Claim.{HasShape}
use Rattle.bt_resume.specs.declared.hint.Format.{Format}
use Rattle.bt_resume.specs.declared.hint.Format.TheVariants.{One, Two}
use Rattle.bt_resume.specs.declared.hint.Hint.{Hint}
use Rattle.bt_resume.specs.declared.hint.Hint.TheVariants.{Proof, Marks}

-- the first byte of a hint: "P" for a proof, "M" for a mark of format 1, "R" for a run of marks of format 2
abbrev pub proof_kind : ℕ
proof_kind = 80

abbrev pub mark_kind : ℕ
mark_kind = 77

abbrev pub run_kind : ℕ
run_kind = 82

-- a digest list's bytes, one digest after the other
abbrev pub joined : List (List ℕ) → List ℕ
joined digests = flat_map (λ digest. digest) digests

-- Marks: the numbers of the file and the first block, the high byte first, and in format 2 how many blocks.
abbrev pub marks_spelling : Format → (file first count : ℕ) → List ℕ
marks_spelling One file first count = mark_kind ∷ (to_be_bytes w32 file ++ to_be_bytes w32 first)
marks_spelling Two file first count =
    run_kind ∷ (to_be_bytes w32 file ++ to_be_bytes w32 first ++ to_be_bytes w32 count)

-- a proof, in both formats: its key as in a hash message (BEP 52), and the digests
abbrev pub hint_spelling : Format → Hint → List ℕ
hint_spelling format (Proof key digests) = proof_kind ∷ (key_spelling key ++ joined digests)
hint_spelling format (Marks file first count) = marks_spelling format file first count

-- a run of marks has a block, and ends where a file may end
pub record IsRun (first count : ℕ) : Type 0 where
  pub some : 0 < count
  pub within : first + count ≤ max_block_count

-- A format has this run: format 1 has single blocks, wherever they are.
abbrev pub HasRun : Format → (first count : ℕ) → Type 0
HasRun One first count = count ≡ 1
HasRun Two first count = IsRun first count

-- The hint can be read back in a format: of a proof's key and digests a claim can be made.
abbrev pub CanBeReadIn : Format → Hint → Type 0
CanBeReadIn format (Proof key digests) = HasShape key × (length digests ≡ answer_size key.length key.layers)
CanBeReadIn format (Marks file first count) = HasRun format first count

-- what is appended is of format 2
abbrev pub CanBeRead : Hint → Type 0
CanBeRead hint = CanBeReadIn Two hint

-- numbers have four bytes, and roots and digests 32, as in memory
abbrev pub IsTyped : Hint → Type 0
IsTyped (Proof key digests) = IsKey key × All (λ digest. length digest ≡ digest_length) digests
IsTyped (Marks file first count) = (file < 2 ^ 32) × (first < 2 ^ 32) × (count < 2 ^ 32)

-- a hint that a log may hold in a format
pub record IsHint (format : Format) (hint : Hint) : Type 0 where
  pub readable : CanBeReadIn format hint
  pub typed : IsTyped hint

-- one hint after the other
abbrev pub hints_spelling : Format → List Hint → List ℕ
hints_spelling format [] = []
hints_spelling format (hint ∷ hints) = hint_spelling format hint ++ hints_spelling format hints

-- no hint's spelling begins the bytes
abbrev pub BeginsNoHint : Format → List ℕ → Type 0
BeginsNoHint format bytes =
    (hint : Hint) (rest : List ℕ) → IsHint format hint → bytes ≢ hint_spelling format hint ++ rest
