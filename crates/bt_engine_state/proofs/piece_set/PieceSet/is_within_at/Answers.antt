use Rattle.std.proofs.Common.{◌+◌, ◌*◌, ◌≤◌, arith}
use Rattle.bt_engine_state.proofs.OutsidePieces.{within_from_bytes, bytes_from_within}
use Rattle.bt_engine_state.proofs.piece_set.PieceSet.is_within_at.Goals as goal

pub returns-then-saturating_sub-ge-PART_LEN : goal.returns-then-saturating_sub-ge-PART_LEN
returns-then-saturating_sub-ge-PART_LEN c =
    let own = c.self.inside.bytes.items in
    let other = c.other.inside.bytes.items in
    let whole : 8 * (c.args.place + 64) ≤ c.self.inside.pieces =
    omega (arith, c.min.ensures, c.saturating_sub.ensures, c.if-saturating_sub-ge-PART_LEN.true) in
    let too : 8 * (c.args.place + 64) ≤ c.other.inside.pieces =
    omega (arith, c.min.ensures, c.saturating_sub.ensures, c.if-saturating_sub-ge-PART_LEN.true) in
    let said = rw c.deref.ensures.value at (rw c.deref-then-saturating_sub-ge-PART_LEN.ensures.value at c.adds_nothing.ensures) in (
      λ yes. within_from_bytes own other c.self.inside.pieces c.other.inside.pieces c.self.invariant c.other.invariant
          c.self.view_is c.other.view_is c.args.place 64 whole too (said.0 yes),
      λ within. said.1 (bytes_from_within own other c.self.inside.pieces c.other.inside.pieces c.self.invariant
          c.other.invariant c.self.view_is c.other.view_is c.args.place 64 whole too within),
    )
