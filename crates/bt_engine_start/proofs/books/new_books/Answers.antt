use Rattle.std.proofs.Common.{ℕ, false, true, List, map, replicate, refl, ap, ◌∙◌}
use Rattle.bt_tree.specs.Blocks.{block_count}
use Rattle.bt_meta.specs.Files.{File}
use Rattle.bt_engine_start.proofs.RootTrees.{all_short}
use Rattle.bt_engine_start.proofs.Beginnings.{counts_wanted}
use Rattle.bt_engine_start.proofs.books.new_books.Goals as goal

pub block_counts-requires : goal.block_counts-requires
block_counts-requires c = record { short = all_short c.files.result.now c.files.ensures.lawful }

pub returns : goal.returns
returns c = record {
  sizes = c.in_ok-piece_sizes.ensures;
  waiting = refl;
  known = c.in_ok-new.ensures ∙ ap (λ n. replicate n false) c.pieces.ensures.counted;
  wanted = c.in_ok-new_book.ensures.wanted ∙ ap (λ (ns : List ℕ). map (λ n. replicate n true) ns) (c.deref.ensures.value ∙ c.in_ok-blocks.ensures)
      ∙ counts_wanted c.files.result.now ∙ ap (λ (files : List File). map (λ file. replicate (block_count file.length) true) files) c.files.ensures.said;
  unasked = c.in_ok-new_book.ensures.peers;
  peers = c.in_ok-with_capacity.ensures.items;
  room = c.in_ok-with_capacity.ensures.capacity;
}
