-- What reads leave of blocks that were recalled.
use Rattle.std.proofs.Common.{◌≡◌, ◌≢◌, ℕ, zero, suc, ◌<◌, ◌⊎◌, inl, inr, Bool, true, false, List, [], ◌∷◌, map, length, Some, refl, sym, ap, ◌∙◌, subst, arith, if◌then◌else◌}
use Rattle.std.specs.Prelude.{slice_get, slice_set, Contains}
use Rattle.std.proofs.Math.ListN.{length-set}
use Rattle.std.proofs.lemmas.Bool.{cases_lt, cases_Bool}
use Rattle.std.proofs.lemmas.List.{ext_get_or, set-get_or}
use Rattle.std.proofs.lemmas.List.Elements.{All-head, All-tail}
use Rattle.std.proofs.lemmas.Option.{get_or_from_slice_get, slice_get-get_or, slice_get_past}
use Rattle.bt_sparse.specs.SparseTree.{Facts}
use Rattle.bt_store.specs.BlockReads.{BlockRead, block_of, is_right, IsRight, after_read, judged}
use Rattle.bt_store.specs.Review.{is_missing_at, recalled}
use Rattle.bt_store.specs.SingleBlock.{no_block, unread, right, wrong, fault}
use Rattle.bt_store.specs.Law.{RecalledAreJudgedAlike, RestoreJudges}
use Rattle.bt_store.specs.declared.block_states.BlockState.{BlockState}
use Rattle.bt_store.specs.declared.block_states.BlockState.TheVariants.{Missing, Waiting, Marked}
use Rattle.bt_store.proofs.Reviews.{other_kept, read_kept}
use Rattle.bt_store.proofs.Settling.{length-read, read_there}
use Rattle.bt_store.proofs.AdoptionMarks.{right_then}
use Rattle.bt_store.proofs.SingleBlocks.{right_told}

same_or_not : (i j : ℕ) → (i ≡ j) ⊎ (i ≢ j)
same_or_not i j = elim (cases_lt i j) [
  | inl less ↦ inr (λ e. omega (arith, less, e))
  | inr from ↦ elim (cases_lt j i) [ inl more ↦ inr (λ e. omega (arith, more, e)) | inr to ↦ inl (omega (arith, from, to)) ]
]

same_states : (a b : List BlockState) → length a ≡ length b → ((i : ℕ) → slice_get a i ≡ slice_get b i) → a ≡ b
same_states a b size same = ext_get_or Missing a b size (λ i lt.
    let inside : i < length b = omega (arith, lt, size) in
    get_or_from_slice_get a i _ Missing (same i ∙ slice_get-get_or b i Missing inside))

module _ (dig : List ℕ → List ℕ) (k : Facts) where
  -- alike at each block that is not read
  abbrev AreAlike : List BlockRead → List BlockState → List BlockState → Type 0
  AreAlike reads a b = (i : ℕ) → (Contains (map block_of reads) i → ⊥) → slice_get a i ≡ slice_get b i

  -- at its own block a read leaves the same of both
  same_there : (read : BlockRead) (a b : List BlockState) → length a ≡ length b
      → slice_get (after_read dig k false read a) (block_of read) ≡ slice_get (after_read dig k false read b) (block_of read)
  same_there read a b size = elim (cases_lt (block_of read) (length a)) [
    | inl lt ↦ read_there dig k read a lt ∙ sym (read_there dig k read b (omega (arith, lt, size)))
    | inr past ↦
        slice_get_past (after_read dig k false read a) (block_of read) (omega (arith, past, length-read dig k read a))
        ∙ sym (slice_get_past (after_read dig k false read b) (block_of read) (omega (arith, past, size, length-read dig k read b)))
  ]

  not_among : (read : BlockRead) (reads : List BlockRead) (i : ℕ) → i ≢ block_of read → (Contains (map block_of reads) i → ⊥)
      → Contains (map block_of (read ∷ reads)) i → ⊥
  not_among read reads i apart none (zero, lt, e) = apart (sym e)
  not_among read reads i apart none (suc j, lt, e) = none (j, omega (arith, lt), e)

  still_alike : (read : BlockRead) (reads : List BlockRead) (a b : List BlockState) → length a ≡ length b → AreAlike (read ∷ reads) a b
      → AreAlike reads (after_read dig k false read a) (after_read dig k false read b)
  still_alike read reads a b size alike i none = elim (same_or_not i (block_of read)) [
    | inl here ↦ subst (λ n. slice_get (after_read dig k false read a) n ≡ slice_get (after_read dig k false read b) n) (sym here) (same_there read a b size)
    | inr apart ↦
        read_kept dig k false read a i apart ∙ alike i (not_among read reads i apart none) ∙ sym (read_kept dig k false read b i apart)
  ]

  judged_alike : (reads : List BlockRead) (a b : List BlockState) → length a ≡ length b → AreAlike reads a b
      → judged dig k false reads a ≡ judged dig k false reads b
  judged_alike [] a b size alike = same_states a b size (λ i. alike i (λ c. omega (arith, c.1)))
  judged_alike (read ∷ reads) a b size alike =
      judged_alike reads (after_read dig k false read a) (after_read dig k false read b)
      (omega (arith, size, length-read dig k read a, length-read dig k read b)) (still_alike read reads a b size alike)

  -- ---- blocks that are recalled

  chosen_kept : (missing : Bool) (states : List BlockState) (block i : ℕ) → i ≢ block
      → slice_get (if missing then slice_set states block Waiting else states) i ≡ slice_get states i
  chosen_kept true states block i apart = other_kept states block i Waiting apart
  chosen_kept false states block i apart = refl

  length-chosen : (missing : Bool) (states : List BlockState) (block : ℕ)
      → length (if missing then slice_set states block Waiting else states) ≡ length states
  length-chosen true states block = length-set states block Waiting
  length-chosen false states block = refl

  one_alike : (states : List BlockState) (block : ℕ) (reads : List BlockRead) → Contains (map block_of reads) block
      → judged dig k false reads (recalled states block) ≡ judged dig k false reads states
  one_alike states block reads is_read =
      judged_alike reads (recalled states block) states (length-chosen (is_missing_at states block) states block)
      (λ i none. chosen_kept (is_missing_at states block) states block i
      (λ e. none (subst (λ n. Contains (map block_of reads) n) (sym e) is_read)))

pub recalled_alike : (dig : List ℕ → List ℕ) → RecalledAreJudgedAlike dig
recalled_alike dig k states [] reads read_all = refl
recalled_alike dig k states (block ∷ blocks) reads read_all =
    let IsAmong : ℕ → Type 0 = λ i. Contains (map block_of reads) i in
    recalled_alike dig k (recalled states block) blocks reads (All-tail IsAmong block blocks read_all)
    ∙ one_alike dig k states block reads (All-head IsAmong block blocks read_all)

-- ---- a block that is restored

set_again : (states : List BlockState) (i : ℕ) → slice_get states i ≡ Some Missing → slice_set states i Missing ≡ states
set_again states i missing =
    ap (λ state. slice_set states i state) (sym (get_or_from_slice_get states i Missing Missing missing)) ∙ set-get_or states i Missing

wrong_told : (dig : List ℕ → List ℕ) (k : Facts) (i : ℕ) (bytes : List ℕ) → ¬ IsRight dig k i bytes → is_right dig k i bytes ≡ false
wrong_told dig k i bytes none = elim (cases_Bool (is_right dig k i bytes)) [ inl e ↦ absurd (none (right_then dig k i bytes e)) | inr e ↦ e ]

pub restore_judges : (dig : List ℕ → List ℕ) → RestoreJudges dig
restore_judges dig k i states _ _ _ (no_block past) = refl
restore_judges dig k i states _ _ _ (unread inside here) = refl
restore_judges dig k i states _ _ _ (right bytes lost is) =
    ap (λ b. slice_set states i (if b then Marked else Missing)) (sym (right_told dig k i bytes is))
restore_judges dig k i states _ _ _ (wrong bytes lost other) =
    sym (set_again states i lost.missing) ∙ ap (λ b. slice_set states i (if b then Marked else Missing)) (sym (wrong_told dig k i bytes other))
restore_judges dig k i states _ _ _ (fault lost) = sym (set_again states i lost.missing)
