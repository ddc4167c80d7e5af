-- What follows from the definitions.
use Rattle.std.specs.Prelude.{◌≡◌, ◌≢◌, ℕ, ◌-◌, ◌<◌, ◌⊎◌, min, Bool, false, if◌then◌else◌, List, [], ◌∷◌, length, map, slice_get, Some, Contains, All, AllPairs, Result}
use Rattle.bt_tree.specs.Blocks.{block_at}
use Rattle.bt_tree.specs.Tree.{file_root}
use Rattle.bt_sparse.specs.SparseTree.{Facts, blocks_of, value_at, IsRooted, IsSound}
use Rattle.bt_sparse.specs.Acceptance.{Accepts}
use Rattle.bt_sparse.specs.Law.{IsClashOnPath}
use Rattle.bt_store.specs.BlockReads.{BlockRead, given, block_of, IsRight, is_right_read, judged}
use Rattle.bt_store.specs.Review.{recalled, waiting_blocks}
use Rattle.bt_store.specs.SingleBlock.{Restores}
use Rattle.bt_store.specs.declared.error.StoreError.{StoreError}
use Rattle.bt_store.specs.Adoption.{AreWhole, claim_of_reads, Adopts}
use Rattle.bt_store.specs.declared.block_states.BlockState.{BlockState}
use Rattle.bt_store.specs.declared.block_states.BlockState.TheVariants.{Missing, Marked}
use Rattle.bt_store.specs.declared.adoption.Adopted.{Adopted}

-- The bytes are block i of the file; or at one node on its path to the root the input here is another than
-- the file's, and has the same digest: at the leaf the bytes are the input, above it two digests that the
-- tree knows.
pub data IsBlockOrClash (dig : List ℕ → List ℕ) (k : Facts) (file : List ℕ) (i : ℕ) (bytes : List ℕ)
    : Type 0 where
  same : bytes ≡ block_at file i → IsBlockOrClash dig k file i bytes
  at_leaf : bytes ≢ block_at file i → dig bytes ≡ dig (block_at file i) → IsBlockOrClash dig k file i bytes
  above : IsClashOnPath dig k file i → IsBlockOrClash dig k file i bytes

-- For every file of a tree's length and root, bytes whose digest is a leaf are the file's block, or a clash
-- is found.
abbrev pub RightBlocksAreFiles : (List ℕ → List ℕ) → Type 0
RightBlocksAreFiles dig = (k : Facts) (file : List ℕ) (i : ℕ) (bytes : List ℕ) → IsSound dig k
    → i < blocks_of k → length file ≡ k.file_length → file_root dig file ≡ k.root → IsRight dig k i bytes
    → IsBlockOrClash dig k file i bytes

-- one of these reads gave right bytes of block i
pub record IsReadRight (dig : List ℕ → List ℕ) (k : Facts) (reads : List BlockRead) (i : ℕ) : Type 0 where
  pub bytes : List ℕ
  pub gives : Contains reads (given i bytes)
  pub right : IsRight dig k i bytes

-- Each block that is marked after an `adopt` was marked before it, or was read in it with the digest of the
-- leaf that the tree has then.
abbrev pub AdoptMarksByBytes : (List ℕ → List ℕ) → Type 0
AdoptMarksByBytes dig = (k grown : Facts) (from : ℕ) (old new : List BlockState) (reads : List BlockRead)
    (adopted : Adopted) → Adopts dig k from old reads adopted grown new
    → (i : ℕ) → slice_get new i ≡ Some Marked
    → (slice_get old i ≡ Some Marked) ⊎ IsReadRight dig grown reads i

-- Where the blocks of a group are claimed together and the tree accepts that, each of their reads gave right
-- bytes, by the leaves that the tree has then.
abbrev pub AcceptedReadsAreRight : (List ℕ → List ℕ) → Type 0
AcceptedReadsAreRight dig = (k grown : Facts) (anchor first count : ℕ) (reads : List BlockRead)
    → AreWhole k.file_length first count reads
    → Accepts dig k (claim_of_reads dig k.file_length anchor first reads) grown
    → (i : ℕ) (bytes : List ℕ) → Contains reads (given i bytes) → IsRight dig grown i bytes

-- a tree of the same length and root that has every value that the other has, and is rooted where the other
-- is
pub record Extends (dig : List ℕ → List ℕ) (k grown : Facts) : Type 0 where
  pub file_length : grown.file_length ≡ k.file_length
  pub root : grown.root ≡ k.root
  pub values : (layer i : ℕ) (d : List ℕ) → value_at dig k layer i ≡ Some d
      → value_at dig grown layer i ≡ Some d
  pub rooted : IsRooted dig k → IsRooted dig grown

-- the tree after an `adopt` extends the one before it
abbrev pub AdoptExtends : (List ℕ → List ℕ) → Type 0
AdoptExtends dig = (k grown : Facts) (from : ℕ) (old new : List BlockState) (reads : List BlockRead)
    (adopted : Adopted) → Adopts dig k from old reads adopted grown new → Extends dig k grown

-- What reads make of states where each decides on its block: the block is marked exactly where its read gave
-- right bytes, else missing; and a block that is not read has the state that it had.
pub record DecidesEach (dig : List ℕ → List ℕ) (k : Facts) (reads : List BlockRead)
    (old new : List BlockState) : Type 0 where
  pub read : (read : BlockRead) → Contains reads read → block_of read < length old
      → slice_get new (block_of read) ≡ Some (if is_right_read dig k read then Marked else Missing)
  pub unread : (i : ℕ) → ¬ Contains (map block_of reads) i → slice_get new i ≡ slice_get old i

-- reads of blocks of which none is read twice do so, where no failed read is forgiven
abbrev pub ReadsDecideEach : (List ℕ → List ℕ) → Type 0
ReadsDecideEach dig = (k : Facts) (reads : List BlockRead) (states : List BlockState)
    → AllPairs (λ i j. i ≢ j) (map block_of reads)
    → DecidesEach dig k reads states (judged dig k false reads states)

-- none of the waiting blocks stands there twice
abbrev pub WaitingBlocksDiffer : (List ℕ → List ℕ) → Type 0
WaitingBlocksDiffer dig = (k : Facts) (states : List BlockState) (from count : ℕ)
    → AllPairs (λ i j. i ≢ j) (waiting_blocks dig k states from count)

-- none of them lies past the file's end
abbrev pub WaitingBlocksLieInside : (List ℕ → List ℕ) → Type 0
WaitingBlocksLieInside dig = (k : Facts) (states : List BlockState) (from count : ℕ)
    → waiting_blocks dig k states from count
    ≡ waiting_blocks dig k states from (min count (length states - from))

-- ---- blocks that are recalled

-- each of these blocks is recalled, one after the other
abbrev pub all_recalled : List BlockState → List ℕ → List BlockState
all_recalled states [] = states
all_recalled states (block ∷ blocks) = all_recalled (recalled states block) blocks

-- What reads make of the states, among them one of each block that was recalled, is what they make of the
-- states before that.
abbrev pub RecalledAreJudgedAlike : (List ℕ → List ℕ) → Type 0
RecalledAreJudgedAlike dig = (k : Facts) (states : List BlockState) (blocks : List ℕ) (reads : List BlockRead)
    → All (λ i. Contains (map block_of reads) i) blocks
    → judged dig k false reads (all_recalled states blocks) ≡ judged dig k false reads states

-- and that is what `restore` makes of them, block by block
abbrev pub RestoreJudges : (List ℕ → List ℕ) → Type 0
RestoreJudges dig = (k : Facts) (i : ℕ) (states new : List BlockState) (reads : List BlockRead)
    (result : Result Bool StoreError) → Restores dig k i states reads result new
    → new ≡ judged dig k false reads states
