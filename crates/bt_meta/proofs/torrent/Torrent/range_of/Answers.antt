use Rattle.bt_meta.proofs.Base.{◌∙◌, arith, sym, refl}
use Rattle.bt_meta.proofs.PieceBlocks.{shifted, block_of_entry, entry_piece, entry_range}
use Rattle.bt_meta.proofs.torrent.Torrent.range_of.Goals as goal

pub overflow_add-piece : goal.overflow_add-piece
overflow_add-piece c =
    let at = c.in_ok-entry.ensures.lookup in
    let is = shifted _ _ (sym c.piece_length.ensures.said ∙ c.piece_layer.ensures.value) c.piece_layer.ensures.limit in
    omega (arith, entry_piece c.args.self.now _ c.files.ensures.said _ _ _ at.1 at.3.0 c.if-start-entry.false _ is (rw c.files.ensures.said at c.files.ensures.laid_out))

pub prove-unreachable-requires : goal.prove-unreachable-requires
prove-unreachable-requires c =
    let at = c.in_ok-entry.ensures.lookup in
    let is = shifted _ _ (sym c.piece_length.ensures.said ∙ c.piece_layer.ensures.value) c.piece_layer.ensures.limit in
    omega (arith, entry_piece c.args.self.now _ c.files.ensures.said _ _ _ at.1 at.3.0 c.if-start-entry.false _ is (rw c.files.ensures.said at c.files.ensures.laid_out))

pub returns-clause-variant : goal.returns-clause-variant
returns-clause-variant c =
    let at = c.in_ok-entry.ensures.lookup in
    (λ _. (block_of_entry _ _ c.files.ensures.said _ _ _ at.1 at.3.0 c.if-start-entry.false).0, λ _. refl)

pub returns-clause-value : goal.returns-clause-value
returns-clause-value c =
    let at = c.in_ok-entry.ensures.lookup in
    let is = shifted _ _ (sym c.piece_length.ensures.said ∙ c.piece_layer.ensures.value) c.piece_layer.ensures.limit in
    entry_range _ _ c.files.ensures.said _ _ _ at.1 at.3.0 c.if-start-entry.false _ is _ refl (omega arith) (omega (arith, c.min.ensures))
