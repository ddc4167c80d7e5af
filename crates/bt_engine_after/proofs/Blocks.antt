-- A block that the peer has by its pieces is one that the machine says it has, where the block has a state.
use Rattle.bt_machine.proofs.Base.{[], ◌∷◌, zero, suc, ◌≡◌, ℕ, ◌+◌, ◌*◌, ◌/◌, true, false, Bool, List, Some, refl, sym, ap, ◌∙◌, arith, slice_get, BlockId}
use Rattle.std.specs.Prelude.{slice_index_or}
use Rattle.bt_meta.specs.PieceBlocks.{HasBlock}
use Rattle.bt_store.specs.declared.block_states.BlockState.{BlockState}
use Rattle.bt_machine.proofs.Lists.{and_then_some, some_below, get_some}
use Rattle.bt_machine.specs.State.{EngineState, PeerState, FileState}
use Rattle.bt_machine.specs.Blocks.{state_at, Has}
use Rattle.bt_machine.specs.Shape.{IsShaped}
use Rattle.bt_engine_after.specs.HeldSteps.{is_held, LiesIn}
use Rattle.bt_engine_after.proofs.PieceOrder.{held_lies, lies_held}

get_of_index : (xs : List Bool) (q : ℕ) → slice_index_or xs q false ≡ true → slice_get xs q ≡ Some true
get_of_index [] q e = absurd cc
get_of_index (x ∷ xs) zero e = ap (λ t. Some t) e
get_of_index (x ∷ xs) (suc q) e = get_of_index xs q e

index_of_get : (xs : List Bool) (q : ℕ) → slice_get xs q ≡ Some true → slice_index_or xs q false ≡ true
index_of_get [] q e = absurd cc
index_of_get (x ∷ xs) zero e = cc
index_of_get (x ∷ xs) (suc q) e = index_of_get xs q e

module _ (s : EngineState) (shaped : IsShaped s.torrent s) where
  -- a block that has a state is one of the torrent's
  pub stands : (b : BlockId) {x : BlockState} → state_at s b ≡ Some x → HasBlock s.torrent b.file b.block
  stands b e =
      let f = and_then_some (λ (f : FileState). slice_get f.states b.block) (slice_get s.files b.file) e in
      let below = some_below s.files b.file f.1 in
      let file = get_some s.torrent.files b.file (omega (arith, below, shaped.count)) in
      let shape = shaped.each b.file file.0 f.0 file.1 f.1 in
      record { entry = file.0; found = file.1; inside = omega (arith, some_below f.0.states b.block f.2, shape.blocks) }

  pub has_of_held : (p : PeerState) (b : BlockId) → is_held s.torrent p.has b ≡ true → Has s p b
  has_of_held p b e =
      let h = held_lies s.torrent p.has b e in
      let at = get_of_index p.has h.0 h.2 in
      rw h.1.has.found (ap (λ q. slice_get p.has q) (sym h.1.is) ∙ at)

  pub held_of_has : (p : PeerState) (b : BlockId) {x : BlockState} → state_at s b ≡ Some x → Has s p b → is_held s.torrent p.has b ≡ true
  held_of_has p b e has =
      let h = stands b e in
      let lies : LiesIn s.torrent b (h.entry.first_piece + 16384 * b.block / s.torrent.piece_length) = record { has = h; is = refl } in
      lies_held s.torrent p.has b lies (index_of_get p.has _ (rw h.found at has))
