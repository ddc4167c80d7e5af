-- Lemmas on the digests of a file's pieces, as they are read, and on the nodes above them.
use Rattle.std.proofs.Common.{◌≡◌, ℕ, zero, suc, ◌+◌, ◌-◌, ◌*◌, ◌^◌, ◌<◌, ◌≤◌, min, List, [], ◌∷◌, ◌++◌, Option, length, take, drop, get_or, replicate, inl, inr, arith, refl, sym, ap, ◌∙◌, length-append, take_all, take_at, drop_at, get_or-take, length-take-le, flat_map}
use Rattle.std.specs.Simd.{first_chunks}
use Rattle.std.proofs.Math.Nat.{mul-le-mul_right}
use Rattle.std.proofs.lemmas.Nat.{pow_pos}
use Rattle.std.proofs.lemmas.Bool.{cases_lt}
use Rattle.std.proofs.lemmas.List.{drop-append-le, length-drop, drop-drop, length-replicate, get_or_append_left, get_or-append_right, get_or-replicate}
use Rattle.std.proofs.KnownBytes.{Consumes-trans}
use Rattle.std.specs.Io.KnownBytes.{Consumes}
use Rattle.sha2.specs.Sha256.{sha256}
use Rattle.bt_tree.specs.Blocks.{block_count, HasRun}
use Rattle.bt_tree.specs.TreeShape.{real_width, height_of}
use Rattle.bt_tree.specs.Tree.{node_digest, padding_digest, file_root}
use Rattle.bt_tree.specs.Peaks.{row_node}
use Rattle.bt_tree.specs.Layers.{fold_of, layer_digests}
use Rattle.bt_tree.proofs.TreeShape.{real_le}
use Rattle.bt_tree.proofs.TreeNodes.{node_parent, node_past, length-node_digest, fold_is, row_node_same}
use Rattle.bt_sparse.proofs.Parents.{chunk_at}
use Rattle.bt_sparse.proofs.LayerTrees.{chunk_count}
use Rattle.bt_tree.specs.NodeHash.{length-sha256}
use Rattle.bt_check.specs.Pieces.{piece_start, GivesPieces}
use Rattle.bt_check.specs.DigestSteps.{GivesLayer}
use Rattle.bt_check.specs.Digests.{IsPieceLayer}
use Rattle.bt_check.specs.declared.pieces.PieceRun.{PieceRun}
use Rattle.bt_check.proofs.ReaderNode.{front_has_run, part_has_run}
use Rattle.bt_check.proofs.PiecesNode.{width_covers}
use lib.Seq.{take-append-le}

-- The first pieces came, `rest` bytes of the file are left, and these are the pieces' digests: in each file of the
-- length that begins with these bytes.
pub record IsLayering (old new : Option (List ℕ)) (file_length layer index rest : ℕ) (bytes : List ℕ) : Type 0 where
  pub front : List ℕ
  pub taken : Consumes old new front
  pub count : length front + rest ≡ file_length
  pub place : length front ≡ min (piece_start layer index) file_length
  pub real : index ≤ real_width (block_count file_length) layer
  pub size : length bytes ≡ 32 * index
  pub digests : (file : List ℕ) → length file ≡ file_length → HasRun file 0 front
      → (j : ℕ) → j < index → take 32 (drop (32 * j) bytes) ≡ node_digest sha256 file layer j

-- where the next piece begins
pub layering_place : (old new : Option (List ℕ)) (file_length layer index rest : ℕ) (bytes : List ℕ) → 0 < rest
    → IsLayering old new file_length layer index rest bytes → piece_start layer index + rest ≡ file_length
layering_place old new file_length layer index rest bytes left c =
    let count = c.count in
    let place = c.place in
    omega (arith, count, place, left)

-- digests of 32 bytes, one after the other
digests_length : (ds : List (List ℕ)) → ((j : ℕ) → j < length ds → length (get_or ds j []) ≡ 32) → length (flat_map (λ d. d) ds) ≡ 32 * length ds
digests_length [] wide = refl
digests_length (d ∷ ds) wide =
    let first : length d ≡ 32 = wide 0 (omega arith) in
    let rest = digests_length ds (λ j lt. wide (suc j) (omega (arith, lt))) in
    length-append d (flat_map (λ d. d) ds) ∙ omega (arith, first, rest)

digest_among : (ds : List (List ℕ)) (i : ℕ) → ((j : ℕ) → j < length ds → length (get_or ds j []) ≡ 32) → i < length ds
    → take 32 (drop (32 * i) (flat_map (λ d. d) ds)) ≡ get_or ds i []
digest_among [] i wide lt = absurd (omega (arith, lt))
digest_among (d ∷ ds) zero wide lt =
    let first : length d ≡ 32 = wide 0 (omega arith) in
    take_at d (flat_map (λ d. d) ds) 32 first
digest_among (d ∷ ds) (suc i) wide lt =
    let first : length d ≡ 32 = wide 0 (omega arith) in
    let on : 32 * suc i ≡ 32 + 32 * i = omega arith in
    ap (λ n. take 32 (drop n (d ++ flat_map (λ d. d) ds))) on
    ∙ ap (take 32) (sym (drop-drop (32 * i) 32 (d ++ flat_map (λ d. d) ds)) ∙ ap (drop (32 * i)) (drop_at d (flat_map (λ d. d) ds) 32 first))
    ∙ digest_among ds i (λ j low. wide (suc j) (omega (arith, low))) (omega (arith, lt))

digest_kept : (bytes digest : List ℕ) (j : ℕ) → 32 * j + 32 ≤ length bytes → take 32 (drop (32 * j) (bytes ++ digest)) ≡ take 32 (drop (32 * j) bytes)
digest_kept bytes digest j h =
    let inside : 32 * j ≤ length bytes = omega (arith, h) in
    let rest = length-drop (32 * j) bytes in
    ap (take 32) (drop-append-le (32 * j) bytes digest inside) ∙ take-append-le 32 (drop (32 * j) bytes) digest (omega (arith, h, rest))

digest_behind : (bytes digests : List ℕ) (index i j : ℕ) → length bytes ≡ 32 * index → j ≡ index + i
    → take 32 (drop (32 * j) (bytes ++ digests)) ≡ take 32 (drop (32 * i) digests)
digest_behind bytes digests index i j size e =
    let at : 32 * j ≡ 32 * index + 32 * i = omega (arith, e) in
    ap (take 32) (ap (λ n. drop n (bytes ++ digests)) at ∙ sym (drop-drop (32 * i) (32 * index) (bytes ++ digests))
    ∙ ap (drop (32 * i)) (drop_at bytes digests (32 * index) size))

pub layering_more : (old mid new : Option (List ℕ)) (file_length layer index rest : ℕ) (bytes next : List ℕ) (run : PieceRun)
    → 0 < rest → run.count ≤ length run.digests → next ≡ bytes ++ flat_map (λ d. d) (take run.count run.digests)
    → IsLayering old mid file_length layer index rest bytes → GivesPieces mid new file_length layer index run
    → IsLayering old new file_length layer (index + run.count) (rest - run.bytes) next
layering_more old mid new file_length layer index rest bytes next run left fits next_is c pieces =
    let count = c.count in
    let place = c.place in
    let so_far = c.size in
    let whole = pieces.whole in
    let size = pieces.size in
    let joined = length-append c.front pieces.bytes in
    let start : piece_start layer index ≡ 0 + length c.front = omega (arith, place, count, left) in
    let zeros : List ℕ = replicate (rest - run.bytes) 0 in
    let zero_count = length-replicate {A = ℕ} (rest - run.bytes) 0 in
    let all : List ℕ = (c.front ++ pieces.bytes) ++ zeros in
    let all_count : length all ≡ file_length = length-append (c.front ++ pieces.bytes) zeros ∙ omega (arith, zero_count, joined, count, whole, size, start) in
    let all_here : HasRun all 0 (c.front ++ pieces.bytes) =
    take-append-le (length (c.front ++ pieces.bytes)) (c.front ++ pieces.bytes) zeros (omega arith)
    ∙ take_all (length (c.front ++ pieces.bytes)) (c.front ++ pieces.bytes) (omega arith) in
    let ds : List (List ℕ) = take run.count run.digests in
    let ds_count : length ds ≡ run.count = length-take-le run.count run.digests fits in
    let wide : (j : ℕ) → j < length ds → length (get_or ds j []) ≡ 32 = λ j lt.
    let low : j < run.count = omega (arith, lt, ds_count) in
    ap length (get_or-take run.count run.digests j [] low
    ∙ pieces.value all all_count (part_has_run all c.front pieces.bytes 0 (piece_start layer index) start all_here) j low)
    ∙ length-node_digest sha256 length-sha256 all layer (index + j) in
    let flat : List ℕ = flat_map (λ d. d) ds in
    let flat_count = digests_length ds wide in
    let longer = length-append bytes flat in
    rw next_is (record {
      front = c.front ++ pieces.bytes;
      taken = Consumes-trans old mid new c.front pieces.bytes c.taken pieces.given.taken;
      count = omega (arith, joined, count, whole, size, start);
      place = omega (arith, joined, whole, size, start);
      real = pieces.real;
      size = omega (arith, longer, so_far, flat_count, ds_count);
      digests = λ file len here j lt. elim (cases_lt j index) [
        | inl before ↦
            digest_kept bytes flat j (omega (arith, so_far, before))
            ∙ c.digests file len (front_has_run file c.front pieces.bytes 0 here) j before
        | inr behind ↦
            let i : ℕ = j - index in
            let same : j ≡ index + i = omega (arith, behind) in
            let low : i < run.count = omega (arith, behind, lt) in
            digest_behind bytes flat index i j so_far same
            ∙ digest_among ds i wide (omega (arith, low, ds_count)) ∙ get_or-take run.count run.digests i [] low
            ∙ pieces.value file len (part_has_run file c.front pieces.bytes 0 (piece_start layer index) start here) i low
            ∙ ap (node_digest sha256 file layer) (sym same)
      ];
    })

pub layering_done : (old new : Option (List ℕ)) (file_length layer index rest : ℕ) (bytes : List ℕ)
    → rest ≡ 0 → IsLayering old new file_length layer index rest bytes
    → GivesLayer old new file_length layer bytes
layering_done old new file_length layer index rest bytes none c =
    let count = c.count in
    let place = c.place in
    let inside = c.real in
    let whole : length c.front ≡ file_length = omega (arith, count, none) in
    let wide : block_count file_length ≤ index * 2 ^ layer = omega (arith, place, whole) in
    let covered = real_le (block_count file_length) (2 ^ layer) index (pow_pos layer) wide in
    let all : index ≡ real_width (block_count file_length) layer = omega (arith, inside, covered) in
    let width : real_width (block_count (length c.front)) layer ≡ index = ap (λ n. real_width (block_count n) layer) whole ∙ sym all in
    let here : HasRun c.front 0 c.front = take_all (length c.front) c.front (omega arith) in
    record {
      file = c.front;
      given = record { taken = c.taken; within = omega (arith, whole); ended = λ less. absurd (omega (arith, whole, less)) };
      whole = whole;
      layer_is = record { size = c.size ∙ ap (λ i. 32 * i) (sym width); digests = λ j lt. c.digests c.front whole here j (omega (arith, width, lt)) };
    }

-- a node over those of a layer
node_over : (file : List ℕ) (base k i : ℕ) → row_node sha256 (λ j. node_digest sha256 file base j) k i ≡ node_digest sha256 file (base + k) i
unfolding row_node
node_over file base zero i = let flat : base ≡ base + 0 = omega arith in ap (λ l. node_digest sha256 file l i) flat
node_over file base (suc k) i =
    let up : suc (base + k) ≡ base + suc k = omega arith in
    ap (λ d. sha256 (d ++ row_node sha256 (λ j. node_digest sha256 file base j) k (2 * i + 1))) (node_over file base k (2 * i))
    ∙ ap (λ d. sha256 (node_digest sha256 file (base + k) (2 * i) ++ d)) (node_over file base k (2 * i + 1))
    ∙ sym (node_parent sha256 file (base + k) i) ∙ ap (λ l. node_digest sha256 file l i) up

-- the digests of the pieces fold to the root
pub root_folded : (file : List ℕ) (layer : ℕ) (bytes : List ℕ) → layer ≤ height_of (block_count (length file)) → IsPieceLayer file layer bytes
    → fold_of sha256 (height_of (block_count (length file)) - layer) (layer_digests sha256 (block_count (length file)) layer bytes) ≡ file_root sha256 file
root_folded file layer bytes inside is =
    let above : ℕ = height_of n - layer in
    let top : layer + above ≡ height_of n = omega (arith, inside) in
    fold_is sha256 above whole
    ∙ row_node_same sha256 (λ i. get_or whole i []) (λ i. node_digest sha256 file layer i) above 0 (λ j low high. node j (omega (arith, high)))
    ∙ node_over file layer above 0 ∙ ap (λ l. node_digest sha256 file l 0) top
  where
    n : ℕ
    n = block_count (length file)

    chunks : List (List ℕ)
    chunks = first_chunks 32 (real_width n layer) bytes

    rest : List (List ℕ)
    rest = replicate (2 ^ (height_of n - layer) - real_width n layer) (padding_digest sha256 layer)

    whole : List (List ℕ)
    whole = chunks ++ rest

    node : (j : ℕ) → j < 2 ^ (height_of n - layer) → get_or whole j [] ≡ node_digest sha256 file layer j
    node j lt = elim (cases_lt j (real_width n layer)) [
      | inl real ↦
          get_or_append_left chunks rest [] j (omega (arith, chunk_count (real_width n layer) bytes, real))
          ∙ chunk_at 32 (real_width n layer) bytes j real ∙ is.digests j real
      | inr past ↦
          let far = mul-le-mul_right {m = real_width n layer} {n = j} (2 ^ layer) past in
          get_or-append_right chunks rest (real_width n layer) j [] (chunk_count (real_width n layer) bytes) past
          ∙ get_or-replicate (2 ^ (height_of n - layer) - real_width n layer) (j - real_width n layer) (padding_digest sha256 layer) [] (omega (arith, lt, past))
          ∙ sym (node_past sha256 file layer j (omega (arith, far, width_covers n layer)))
    ]
