-- Lemmas on pieces that are read next to each other.
use Rattle.std.proofs.Common.{◌≡◌, ℕ, zero, suc, ◌+◌, ◌*◌, ◌/◌, ◌^◌, ◌<◌, ◌≤◌, List, [], ◌++◌, Option, None, Some, Result, Ok, Err, IfOk, IfSome, length, get_or, inl, arith, refl, sym, ap, ◌∙◌, subst, take_all}
use Rattle.std.proofs.Math.Nat.{mul-le-mul_right, pow-suc}
use Rattle.std.proofs.lemmas.Nat.{pow_pos}
use Rattle.std.specs.Io.KnownBytes.{Consumes}
use Rattle.sha2.specs.Sha256.{sha256}
use Rattle.bt_tree.specs.Blocks.{block_count, block_at, HasRun}
use Rattle.bt_tree.specs.Peaks.{row_node}
use Rattle.bt_tree.specs.Tree.{node_digest}
use Rattle.bt_tree.specs.TreeShape.{real_width}
use Rattle.bt_tree.proofs.BuilderRuns.{eight_of_run}
use Rattle.bt_tree.proofs.TreeNodes.{leaf_is, node_digest_row, row_node_same, row_node_shift, row_parent}
use Rattle.bt_check.specs.Reader.{Gives}
use Rattle.bt_check.specs.Pieces.{piece_start, piece_size, GivesPiece, GivesPieces}
use Rattle.bt_check.specs.declared.pieces.PieceRun.{PieceRun}
use Rattle.bt_check.proofs.PiecesNode.{real_index}

-- one piece
pub one_piece : (old new : Option (List ℕ)) (file_length layer index rest size piece_bytes : ℕ) (digest : List ℕ) (run : PieceRun)
    → 0 < rest → piece_start layer index + rest ≡ file_length → piece_bytes ≡ 16384 * 2 ^ layer → size ≡ piece_size file_length layer index
    → get_or run.digests 0 [] ≡ digest → run.count ≡ 1 → run.bytes ≡ size
    → GivesPiece old new file_length layer index size digest → GivesPieces old new file_length layer index run
one_piece old new file_length layer index rest size piece_bytes digest run left all wide size_is digest_is one bytes_are piece =
    let some = pow_pos layer in
    let up : (index + run.count) * 2 ^ layer ≡ index * 2 ^ layer + 2 ^ layer = ap (λ n. (index + n) * 2 ^ layer) one ∙ omega arith in
    let real : index < real_width (block_count file_length) layer = real_index (block_count file_length) layer index (omega (arith, all, left)) in
    record {
      bytes = piece.bytes;
      given = subst (λ n. Gives old new n piece.bytes) (sym bytes_are) piece.given;
      whole = piece.whole ∙ sym bytes_are;
      some = omega (arith, bytes_are, size_is, some, wide, all, left);
      few = omega (arith, one);
      real = omega (arith, real, one);
      size = omega (arith, up, bytes_are, size_is, all, left);
      value = λ file len here j lt.
          let first : j ≡ 0 = omega (arith, lt, one) in
          let same : index ≡ index + j = omega (arith, first) in
          ap (λ i. get_or run.digests i []) first ∙ digest_is ∙ piece.value file len here ∙ ap (node_digest sha256 file layer) same;
    }

-- how many pieces of fewer than eight blocks eight blocks are
pub record ArePieces (layer count : ℕ) : Type 0 where
  pub few : count ≤ 8
  pub whole : count * 2 ^ layer ≡ 8

pub pieces_in_eight : (layer : ℕ) → layer < 3 → ArePieces layer (8 / 2 ^ layer)
pieces_in_eight zero small = record { few = omega arith; whole = refl }
pieces_in_eight (suc zero) small = record { few = omega arith; whole = refl }
pieces_in_eight (suc (suc zero)) small = record { few = omega arith; whole = refl }
pieces_in_eight (suc (suc (suc layer))) small = absurd (omega (arith, small))

-- nodes that begin within the file
within_width : (n layer count : ℕ) → count * 2 ^ layer ≤ n → count ≤ real_width n layer
within_width n layer zero fits = omega arith
within_width n layer (suc i) fits =
    let some = pow_pos layer in
    let up : suc i * 2 ^ layer ≡ i * 2 ^ layer + 2 ^ layer = omega arith in
    let last : i < real_width n layer = real_index n layer i (omega (arith, fits, up, some)) in
    omega (arith, last)

-- the blocks of a file
blocks_there : (file buffer : List ℕ) (block i : ℕ) → length buffer ≡ 131072 → HasRun file (16384 * block) buffer → i < 8
    → sha256 (block_at buffer i) ≡ node_digest sha256 file 0 (block + i)
blocks_there file buffer block i size here lt =
    let run = eight_of_run file buffer block (omega (arith, size)) (record { here = here; whole = inl (omega (arith, size)) }) in
    ap (λ bytes. sha256 (block_at bytes i)) (sym (take_all 131072 buffer (omega (arith, size)))) ∙ ap sha256 (run.same i lt)
    ∙ sym (leaf_is sha256 file (block + i) (run.real i lt))

-- eight blocks of one
pub eight_given : (old new : Option (List ℕ)) (file_length layer index : ℕ) (buffer : List ℕ) (leaves : List (List ℕ)) (run : PieceRun)
    → layer < 3 → run.count ≡ 8 / 2 ^ layer → run.bytes ≡ 131072 → length buffer ≡ 131072 → Consumes old new buffer
    → ((j : ℕ) → j < 8 → get_or leaves j [] ≡ sha256 (block_at buffer j))
    → ((j : ℕ) → (j + 1) * 2 ^ layer ≤ 8 → get_or run.digests j [] ≡ row_node sha256 (λ i. get_or leaves i []) layer j)
    → piece_start layer index + 131072 ≤ file_length → GivesPieces old new file_length layer index run
eight_given old new file_length layer index buffer leaves run small count_is bytes_are size came leaf_of node_of fits =
    let eighth = pieces_in_eight layer small in
    let whole : run.count * 2 ^ layer ≡ 8 = ap (λ n. n * 2 ^ layer) count_is ∙ eighth.whole in
    let block : ℕ = index * 2 ^ layer in
    let up : (index + run.count) * 2 ^ layer ≡ index * 2 ^ layer + 8 = omega (arith, whole) in
    let full : length buffer ≡ run.bytes = size ∙ sym bytes_are in
    record {
      bytes = buffer;
      given = record { taken = came; within = omega (arith, full); ended = λ less. absurd (omega (arith, full, less)) };
      whole = full;
      some = omega (arith, bytes_are);
      few = omega (arith, count_is, eighth.few);
      real = within_width (block_count file_length) layer (index + run.count) (omega (arith, up, fits));
      size = omega (arith, up, bytes_are, fits);
      value = λ file len here j lt.
          let far = mul-le-mul_right {m = j + 1} {n = run.count} (2 ^ layer) (omega (arith, lt)) in
          let below : (j + 1) * 2 ^ layer ≤ 8 = omega (arith, far, whole) in
          node_of j below
          ∙ row_node_same sha256 (λ i. get_or leaves i []) (λ i. node_digest sha256 file 0 (block + i)) layer j
          (λ i low high.
          let in_eight : i < 8 = omega (arith, high, below) in
          leaf_of i in_eight ∙ blocks_there file buffer block i size here in_eight)
          ∙ row_node_shift sha256 (node_digest sha256 file 0) layer index block j refl ∙ node_digest_row sha256 file layer (index + j);
    }

-- of a file of this length, and from this piece on
pub eight_there : {E : Type 0} (r : Result (Option PieceRun) E) (old new : Option (List ℕ)) (file_length layer index : ℕ)
    → piece_start layer index + 131072 ≤ file_length
    → IfOk r (λ found. IfSome found (λ run. (file_length index : ℕ) → piece_start layer index + 131072 ≤ file_length
    → GivesPieces old new file_length layer index run))
    → IfOk r (λ found. IfSome found (GivesPieces old new file_length layer index))
eight_there (Ok (Some run)) old new file_length layer index fits given = given file_length index fits
eight_there (Ok None) old new file_length layer index fits given = given
eight_there (Err e) old new file_length layer index fits given = given

-- the layers above eight nodes
pub row_up : (row : ℕ → List ℕ) (layer j : ℕ) (nodes : List (List ℕ)) (digest : List ℕ)
    → ((i : ℕ) → (i + 1) * 2 ^ layer ≤ 8 → get_or nodes i [] ≡ row_node sha256 row layer i) → (j + 1) * 2 ^ (layer + 1) ≤ 8
    → (j < 4 → digest ≡ sha256 (get_or nodes (2 * j) [] ++ get_or nodes (2 * j + 1) [])) → digest ≡ row_node sha256 row (layer + 1) j
row_up row layer j nodes digest below fits is =
    let up : suc layer ≡ layer + 1 = omega arith in
    let power : 2 ^ (layer + 1) ≡ 2 ^ layer * 2 = ap (λ k. 2 ^ k) (sym up) ∙ pow-suc 2 layer in
    let some = pow_pos layer in
    let wide : (j + 1) * (2 ^ layer * 2) ≤ 8 = subst (λ p. (j + 1) * p ≤ 8) power fits in
    let room : (2 * j + 2) * 2 ^ layer ≤ 8 = omega (arith, wide) in
    let far = mul-le-mul_right {m = 1} {n = 2 ^ layer} (2 * j + 2) some in
    is (omega (arith, far, room)) ∙ ap (λ d. sha256 (d ++ get_or nodes (2 * j + 1) [])) (below (2 * j) (omega (arith, room, some)))
    ∙ ap (λ d. sha256 (row_node sha256 row layer (2 * j) ++ d)) (below (2 * j + 1) (omega (arith, room)))
    ∙ row_parent sha256 row layer j (2 * j) (2 * j + 1) refl refl ∙ ap (λ l. row_node sha256 row l j) up
