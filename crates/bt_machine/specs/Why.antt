-- The codes that users see for why a peer was closed.
use Rattle.std.specs.Prelude.{ℕ, List, codes}
use Rattle.bt_machine.specs.declared.answer.Why.{Why}
use Rattle.bt_machine.specs.declared.answer.Why.TheVariants.{Wire, WrongTorrent, BadPiece, BadBitfield, BadRequest, WrongBlock, UnknownRoot, Proof}

abbrev pub code_of : Why → List ℕ
code_of (Wire fault) = codes "C1"
code_of WrongTorrent = codes "C2"
code_of BadPiece = codes "C3"
code_of BadBitfield = codes "C4"
code_of BadRequest = codes "C5"
code_of WrongBlock = codes "C6"
code_of UnknownRoot = codes "C7"
code_of (Proof fault) = codes "C8"
