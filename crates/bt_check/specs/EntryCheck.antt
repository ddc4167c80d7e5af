-- What a check finds of a file by the answers of its device, whatever that holds.
use Rattle.std.specs.Prelude.{◌≡◌, ◌≢◌, ℕ, ◌-◌, ◌*◌, ◌^◌, ◌<◌, ◌≤◌, ◌↔◌, ◌⊎◌, ◌&&◌, if◌then◌else◌, Bool, List, [], ◌∷◌, ◌++◌, Option, None, Some, IsSomeAnd, IsTrue, length, map, take, drop, replicate, slice_index_or, nat_eq}
use Rattle.std.specs.List.{list_all, range_with_len}
use Rattle.std.specs.Cmp.Lexicographic.{pointwise}
use Rattle.sha2.specs.Sha256.{sha256}
use Rattle.bt_tree.specs.Blocks.{block_count}
use Rattle.bt_tree.specs.Layers.{IsLayer, fold_of}
use Rattle.bt_tree.specs.Limits.{max_file_length}
use Rattle.bt_tree.specs.Tree.{padding_digest}
use Rattle.bt_disk.specs.Conduct.{Conduct}
use Rattle.bt_disk.specs.Calls.{Call, HasCalls, length_given, length_fault}
use Rattle.bt_store.specs.BlockReads.{BlockRead, failed, block_of, call_of, fault_count}
use Rattle.bt_store.specs.Adoption.{is_whole, claimed_digest}
use Rattle.bt_meta.specs.Files.{File}
use Rattle.bt_check.specs.Finding.{KnownLayer, MarksBlocks, is_right_block, piece_of, digest_of}
use Rattle.bt_check.specs.declared.data_file.Finding.{Finding}

-- the file is not too long, and what it has for a layer is the layer of its pieces, as in each torrent
pub record IsCheckable (layer : ℕ) (file : File) : Type 0 where
  pub short : file.length ≤ max_file_length
  pub layered : file.layer ≢ [] → IsLayer sha256 (block_count file.length) file.root layer file.layer

-- what a device answered to a check: its length, or none where it failed, and then the reads of the blocks
pub record Answers : Type 0 where
  pub len : Option ℕ
  pub reads : List BlockRead

abbrev pub len_call_of : Option ℕ → Call
len_call_of (Some len) = length_given len
len_call_of None = length_fault

-- the calls that it answered so, in a file of n bytes
abbrev pub calls_of : ℕ → Answers → List Call
calls_of n answers = len_call_of answers.len ∷ map (call_of n) answers.reads

-- the reads of the blocks below a node
abbrev pub reads_below : List BlockRead → ℕ → ℕ → List BlockRead
reads_below reads layer index = take (2 ^ layer) (drop (index * 2 ^ layer) reads)

-- the digests of those that were given whole, and padding
abbrev pub leaves_read : ℕ → ℕ → List BlockRead → List (List ℕ)
leaves_read n layer reads =
    map (claimed_digest sha256 n) reads ++ replicate (2 ^ layer - length reads) (padding_digest sha256 0)

-- the reads gave each block below a node whole, and these have its digest together
abbrev pub is_node_read : List BlockRead → ℕ → ℕ → ℕ → List ℕ → Bool
is_node_read reads n layer index digest =
    let below = reads_below reads layer index in
    list_all (is_whole n) below && pointwise nat_eq digest (fold_of sha256 layer (leaves_read n layer below))

-- each block was read, in turn, and this is what a check finds by the answers, where some leaves are known
-- before
pub record IsFindingBy (answers : Answers) (n : ℕ) (known : KnownLayer) (leaves : ℕ → Option (List ℕ))
    (finding : Finding) : Type 0 where
  pub each : map block_of answers.reads ≡ range_with_len 0 (block_count n)
  pub marks : MarksBlocks (is_right_block (is_node_read answers.reads n) known leaves) n finding
  pub longer : IsTrue finding.longer ↔ IsSomeAnd answers.len (λ len. n < len)
  pub faulty : IsTrue finding.faulty ↔ ((answers.len ≡ None) ⊎ (0 < fault_count answers.reads))

-- these calls lead from the old device to the new one, and this is what a check finds by their answers
pub record IsEntryCheck {D : Type 0} (conduct : Conduct D)
    (n : ℕ) (known : KnownLayer) (leaves : ℕ → Option (List ℕ))
    (old : D) (answers : Answers) (new : D) (finding : Finding) : Type 0 where
  pub calls : HasCalls conduct old (calls_of n answers) new
  pub found : IsFindingBy answers n known leaves finding

-- the leaf that reads give of a block: its digest, where its piece is right
abbrev pub leaf_read : List BlockRead → ℕ → KnownLayer → ℕ → Option (List ℕ)
leaf_read reads n known block =
    if is_node_read reads n known.layer (piece_of known block) (digest_of known (piece_of known block))
    then Some (claimed_digest sha256 n (slice_index_or reads block (failed block)))
    else None
