-- The request book and the counts, where one block has another state.
use Rattle.std.specs.Prelude.{[], ◌≡◌, ◌↔◌, true, List, ◌∷◌, Some}
use Rattle.bt_meta.specs.Torrent.{Metainfo}
use Rattle.bt_meta.specs.PieceBlocks.{HasBlock}
use Rattle.bt_book.specs.Blocks.{Blocks, IsInRange, member}
use Rattle.bt_book.specs.Book.{without_block}
use Rattle.bt_book.specs.declared.names.BlockId.{BlockId}
use Rattle.bt_store.specs.declared.block_states.BlockState.{BlockState}
use Rattle.bt_store.specs.declared.block_states.BlockState.TheVariants.{Missing, Waiting, Marked}
use Rattle.bt_machine.specs.State.{EngineState}
use Rattle.bt_machine.specs.Blocks.{state_at}
use Rattle.bt_machine.specs.Changes.{DifferAt}
use Rattle.bt_engine_state.specs.Ties.{AreCounted}
use Rattle.bt_engine_state.specs.declared.counts.Counts.{Counts}

-- The members are the missing blocks, and the counts are right. Each block that has a state is one of the
-- torrent's, and may be a member.
pub record AreFollowed (s : EngineState) (blocks : Blocks) (counts : Counts) : Type 0 where
  pub wanted : (b : BlockId) → (member blocks b ≡ true) ↔ (state_at s b ≡ Some Missing)
  pub ranged : (b : BlockId) (x : BlockState) → state_at s b ≡ Some x → IsInRange blocks b
  pub listed : (b : BlockId) (x : BlockState) → state_at s b ≡ Some x → HasBlock s.torrent b.file b.block
  pub counted : AreCounted s counts

-- the block's state was this and is that, and no other block has another state
pub record OneChanged (s t : EngineState) (b : BlockId) (was now : BlockState) : Type 0 where
  pub differ : DifferAt (b ∷ []) s t
  pub before : state_at s b ≡ Some was
  pub after : state_at t b ≡ Some now

-- a state of the machine was followed, and the block has changed since
pub record HasChanged (torrent : Metainfo) (blocks : Blocks) (counts : Counts) (b : BlockId)
    (was now : BlockState) : Type 0 where
  pub first : EngineState
  pub last : EngineState
  pub same_torrent : first.torrent ≡ torrent
  pub followed : AreFollowed first blocks counts
  pub changed : OneChanged first last b was now

-- what a peer is asked for then: the block no more, where it is missing no more
abbrev pub asked_after : BlockId → (was now : BlockState) → List BlockId → List BlockId
asked_after b Missing Waiting asked = without_block b asked
asked_after b Missing Marked asked = without_block b asked
asked_after b was now asked = asked
