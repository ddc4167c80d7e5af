-- How long a span is at most.
use Rattle.std.specs.Prelude.{◌+◌, ◌≤◌}
use Rattle.bt_tree.specs.Limits.{full_block_length, max_file_length}
use Rattle.bt_meta.specs.declared.torrent.Span.{Span}

-- the span has at least one byte and at most a block's, and lies in a file of at most 2^40
pub record IsShortSpan (span : Span) : Type 0 where
  pub some : 1 ≤ span.length
  pub few : span.length ≤ full_block_length
  pub inside : span.start + span.length ≤ max_file_length
