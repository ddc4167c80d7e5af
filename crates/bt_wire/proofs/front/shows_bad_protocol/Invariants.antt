use Rattle.std.proofs.Common.{◌≡◌, ℕ, ◌<◌, slice_index}
use Rattle.bt_wire.specs.Handshake.{protocol}
use Rattle.bt_wire.proofs.front.shows_bad_protocol.Given as goal

-- the bytes so far are the protocol's
abbrev pub invariant-loop-i : goal.invariant-loop-i
invariant-loop-i l = (k : ℕ) → k < l.i → slice_index l.unread k ≡ slice_index protocol k
