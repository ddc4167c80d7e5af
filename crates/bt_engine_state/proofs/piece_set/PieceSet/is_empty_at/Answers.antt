use Rattle.std.proofs.Common.{◌+◌, ◌*◌, ◌≤◌, arith}
use Rattle.bt_engine_state.proofs.NextPieces.{empty_from_bytes, bytes_from_empty}
use Rattle.bt_engine_state.proofs.piece_set.PieceSet.is_empty_at.Goals as goal

pub returns-then-saturating_sub-ge-PART_LEN : goal.returns-then-saturating_sub-ge-PART_LEN
returns-then-saturating_sub-ge-PART_LEN c =
    let own = c.self.inside.bytes.items in
    let whole : 8 * (c.args.place + 64) ≤ c.self.inside.pieces =
    omega (arith, c.saturating_sub.ensures, c.if-saturating_sub-ge-PART_LEN.true) in
    let said = rw c.deref.ensures.value at c.has_no_bit.ensures in (
      λ yes. empty_from_bytes own c.self.inside.pieces c.self.invariant c.self.view_is c.args.place 64 whole (said.0 yes),
      λ none. said.1 (bytes_from_empty own c.self.inside.pieces c.self.invariant c.self.view_is c.args.place 64 whole none),
    )
