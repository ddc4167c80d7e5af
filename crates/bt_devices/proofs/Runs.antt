-- Eight blocks in a run of bytes.
use Rattle.std.proofs.Common.{◌≡◌, ℕ, zero, suc, ◌+◌, ◌-◌, ◌*◌, ◌<◌, ◌≤◌, Bool, true, false, List, [], length, take, drop, get_or, refl, sym, ap, ◌∙◌, arith}
use Rattle.std.specs.Prelude.{Contains, nat_eq}
use Rattle.std.proofs.lemmas.List.{drop-take, ext_get_or, take_all, length-take-le, length-drop}
use Rattle.std.proofs.lemmas.Bool.Decides.{Decides-eqb}
use Rattle.std.proofs.lemmas.Slice.{take-put_mid_below, between-put_mid}
use borrow.Rule.Slice.PartMut.{put_mid}
use Rattle.bt_tree.specs.Blocks.{block_at}
use Rattle.bt_disk.specs.Calls.{bytes_given}
use Rattle.bt_devices.specs.Cache.{blocks_of, known_blocks, blocks_after}

below_eight : (P : ℕ → Type 0) → P 0 → P 1 → P 2 → P 3 → P 4 → P 5 → P 6 → P 7 → (j : ℕ) → j < 8 → P j
below_eight P p0 p1 p2 p3 p4 p5 p6 p7 zero h = p0
below_eight P p0 p1 p2 p3 p4 p5 p6 p7 (suc zero) h = p1
below_eight P p0 p1 p2 p3 p4 p5 p6 p7 (suc (suc zero)) h = p2
below_eight P p0 p1 p2 p3 p4 p5 p6 p7 (suc (suc (suc zero))) h = p3
below_eight P p0 p1 p2 p3 p4 p5 p6 p7 (suc (suc (suc (suc zero)))) h = p4
below_eight P p0 p1 p2 p3 p4 p5 p6 p7 (suc (suc (suc (suc (suc zero))))) h = p5
below_eight P p0 p1 p2 p3 p4 p5 p6 p7 (suc (suc (suc (suc (suc (suc zero)))))) h = p6
below_eight P p0 p1 p2 p3 p4 p5 p6 p7 (suc (suc (suc (suc (suc (suc (suc zero))))))) h = p7
below_eight P p0 p1 p2 p3 p4 p5 p6 p7 (suc (suc (suc (suc (suc (suc (suc (suc n)))))))) h = absurd (omega arith)

pub get_or-blocks_of : (run default : List ℕ) (j : ℕ) → j < 8 → get_or (blocks_of run) j default ≡ block_at run j
get_or-blocks_of run default =
    below_eight (λ j. get_or (blocks_of run) j default ≡ block_at run j) refl refl refl refl refl refl refl refl

-- the blocks of a run are these eight
pub blocks_are : (run : List ℕ) (blocks : List (List ℕ)) → length blocks ≡ 8 → ((j : ℕ) → j < 8 → block_at run j ≡ get_or blocks j [])
    → blocks_of run ≡ blocks
blocks_are run blocks eight each =
    ext_get_or [] (blocks_of run) blocks (sym eight) (λ j below. get_or-blocks_of run [] j below ∙ each j below)

pub contains_block : (run block : List ℕ) (j : ℕ) → j < 8 → block_at run j ≡ block → Contains (blocks_of run) block
contains_block run block j below same = (j, below, get_or-blocks_of run block j below ∙ same)

pub contained_block : (run block : List ℕ) → Contains (blocks_of run) block → (j : ℕ) × (j < 8) × (block_at run j ≡ block)
contained_block run block (j, below, same) = (j, below, sym (get_or-blocks_of run block j below) ∙ same)

pub length_block : (run : List ℕ) (j : ℕ) → length run ≡ 131072 → j < 8 → length (block_at run j) ≡ 16384
length_block run j room below = length-take-le 16384 (drop (16384 * j) run) (omega (arith, length-drop (16384 * j) run))

-- a block as code cuts it out
pub block_is : (j : ℕ) (run : List ℕ) → take ((j + 1) * 16384 - j * 16384) (drop (j * 16384) run) ≡ block_at run j
block_is j run =
    let size : (j + 1) * 16384 - j * 16384 ≡ 16384 = omega arith in
    let place : j * 16384 ≡ 16384 * j = omega arith in
    ap (λ n. take n (drop (j * 16384) run)) size ∙ ap (λ n. take 16384 (drop n run)) place

-- a block before the one that is written stays
pub block_kept : (a k : ℕ) (run block : List ℕ) (t : ℕ) → 16384 * t + 16384 ≤ a → a ≤ length run → block_at (put_mid a k run block) t ≡ block_at run t
block_kept a k run block t before inside =
    sym (drop-take (16384 * t) 16384 (put_mid a k run block)) ∙ ap (drop (16384 * t)) (take-put_mid_below a k run block (16384 * t + 16384) before inside)
    ∙ drop-take (16384 * t) 16384 run

-- the block that is written lies there
pub block_written : (a k t : ℕ) (run block : List ℕ) → a ≡ 16384 * t → a ≤ length run → length block ≡ 16384 → block_at (put_mid a k run block) t ≡ block
block_written a k t run block place inside size =
    let pasted = put_mid a k run block in
    let width : 16384 ≡ a + 16384 - a = omega arith in
    ap (λ n. take 16384 (drop n pasted)) (sym place) ∙ ap (λ n. take n (drop a pasted)) width
    ∙ between-put_mid a k run block (a + 16384) inside (size ∙ width)

-- all bytes of a run came
pub known_whole : (at count : ℕ) (out : List ℕ) → count ≡ length out → blocks_of out ≡ blocks_after (bytes_given at (length out) (take count out))
known_whole at count out all =
    let same : take count out ≡ out = take_all count out (omega arith) in
    let whole : nat_eq (length out) (length out) ≡ true = (Decides-eqb (length out) (length out)).1 refl in
    ap (λ whole. known_blocks whole out) (sym whole) ∙ ap (λ bytes. known_blocks (nat_eq (length bytes) (length out)) bytes) (sym same)

none_known : (whole : Bool) (run : List ℕ) → (whole ≡ true → ⊥) → [] ≡ known_blocks whole run
none_known true run never = absurd (never refl)
none_known false run never = refl

-- some of them did not
pub known_short : (at count : ℕ) (out : List ℕ) → count ≤ length out → (count ≡ length out → ⊥)
    → [] ≡ blocks_after (bytes_given at (length out) (take count out))
known_short at count out within never =
    let size = length-take-le count out within in
    none_known (nat_eq (length (take count out)) (length out)) (take count out)
    (λ whole. never (sym size ∙ (Decides-eqb (length (take count out)) (length out)).0 whole))
