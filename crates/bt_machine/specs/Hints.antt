-- Hints for a log: how runs of marks are joined, and which marks hints record.
use Rattle.std.specs.Prelude.{[], ◌≡◌, ℕ, ◌+◌, ◌==◌, ◌&&◌, nat_le, nat_lt, if◌then◌else◌, ⊤, Bool, true, false, List, ◌∷◌, ◌++◌, map, flat_map}
use Rattle.std.specs.List.{list_any, range_with_len}
use Rattle.bt_hashreq.specs.declared.key.HashKey.{HashKey}
use Rattle.bt_book.specs.declared.names.BlockId.{BlockId}
pub use Rattle.bt_resume.specs.declared.hint.Hint.{Hint}
use Rattle.bt_resume.specs.declared.hint.Hint.TheVariants.{Proof, Marks}

-- what a log keeps, as `bt_resume` has it: an accepted proof by its key and digests, or marks of blocks that
-- follow each other
abbrev pub proof_of : HashKey → List (List ℕ) → Hint
proof_of key digests = Proof key digests

-- a block that was marked: a run of it alone
abbrev pub mark_of : BlockId → Hint
mark_of block = Marks block.file block.block 1

-- The second run has marks of the blocks of the same file that lie right after those of the first.
abbrev pub continues : Hint → Hint → Bool
continues (Marks file first count) (Marks other next more) = file == other && first + count == next
continues _ _ = false

-- the two as one run
abbrev pub joined_run : Hint → Hint → Hint
joined_run (Marks file first count) (Marks other next more) = Marks file first (count + more)
joined_run hint other = hint

-- One more hint after others: where it continues the run before it, that run gets longer.
abbrev pub add_hint : List Hint → Hint → List Hint
add_hint [] hint = hint ∷ []
add_hint (last ∷ []) hint = if continues last hint then joined_run last hint ∷ [] else last ∷ hint ∷ []
add_hint (first ∷ next ∷ hints) hint = first ∷ add_hint (next ∷ hints) hint

-- several, one after the other
abbrev pub add_hints : List Hint → List Hint → List Hint
add_hints hints [] = hints
add_hints hints (hint ∷ more) = add_hints (add_hint hints hint) more

-- ---- what they record

abbrev pub records : Hint → BlockId → Bool
records (Marks file first count) b =
    file == b.file && (nat_le first b.block && nat_lt b.block (first + count))
records (Proof key digests) b = false

-- a run among the hints has a mark of this block
abbrev pub is_recorded : List Hint → BlockId → Bool
is_recorded hints b = list_any (λ hint. records hint b) hints

-- ---- runs as long as may be

-- the marks of a run, one by one
abbrev pub single_hints : Hint → List Hint
single_hints (Marks file first count) = map (λ block. Marks file block 1) (range_with_len first count)
single_hints (Proof key digests) = Proof key digests ∷ []

-- no run goes on in the hint after it
abbrev pub AreApart : List Hint → Type 0
AreApart [] = ⊤
AreApart (hint ∷ []) = ⊤
AreApart (hint ∷ next ∷ hints) = (continues hint next ≡ false) × AreApart (next ∷ hints)

-- ---- laws

-- What is recorded stays so with more hints, which record what they record by themselves.
abbrev pub HintsStayRecorded : Type 0
HintsStayRecorded = (hints more : List Hint) (b : BlockId)
    → (is_recorded hints b ≡ true → is_recorded (add_hints hints more) b ≡ true)
    × (is_recorded more b ≡ true → is_recorded (add_hints hints more) b ≡ true)

-- Joined hints say the same in the same order, and each longest sequence of marks that follow each other is
-- one run.
abbrev pub JoinedRunsAreLongest : Type 0
JoinedRunsAreLongest = (hints more : List Hint) → AreApart hints → AreApart (add_hints hints more)
    × (flat_map single_hints (add_hints hints more)
    ≡ flat_map single_hints hints ++ flat_map single_hints more)
