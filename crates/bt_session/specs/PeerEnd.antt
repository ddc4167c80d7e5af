-- The words for how it ended with a peer.
use Rattle.std.specs.Prelude.{ℕ, ◌++◌, List, codes}
use Rattle.bt_machine.specs.declared.answer.Why.{Why}
use Rattle.bt_machine.specs.Why.{code_of}
use Rattle.bt_session.specs.declared.end.SessionEnd.{SessionEnd}
use Rattle.bt_session.specs.declared.end.SessionEnd.TheVariants.{Complete, Ended, Closed, TurnsSpent, ReadFault, WriteFault, Memory}
use Rattle.bt_session.specs.declared.peer_end.PeerEnd.{PeerEnd}
use Rattle.bt_session.specs.declared.peer_end.PeerEnd.TheVariants.{Untried, Unreachable, Refused, Session}

-- closed, and the code of the cause
abbrev pub close_text : Why → List ℕ
close_text why = codes "closed " ++ code_of why

abbrev pub session_text : SessionEnd → List ℕ
session_text Complete = codes "complete"
session_text Ended = codes "ended"
session_text (Closed why) = close_text why
session_text TurnsSpent = codes "turns"
session_text ReadFault = codes "fault"
session_text WriteFault = codes "fault"
session_text Memory = codes "memory"

abbrev pub end_text : PeerEnd → List ℕ
end_text Untried = codes "untried"
end_text Unreachable = codes "unreachable"
end_text (Refused error) = codes "memory"
end_text (Session end) = session_text end
