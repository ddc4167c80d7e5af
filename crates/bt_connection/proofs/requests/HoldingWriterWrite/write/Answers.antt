use Rattle.std.proofs.Common.{subst}
use Rattle.std.proofs.lemmas.Result.{MatchResult-weaker}
use Rattle.bt_connection.specs.Requests.{SendsRequests, written}
use Rattle.bt_connection.proofs.requests.HoldingWriterWrite.write.Goals as goal

pub returns-clause-written : goal.returns-clause-written
returns-clause-written g c =
    let mid = c.send_shared.new.to in
    let sends = subst (λ w. SendsRequests (g.W.Write.contents w) (g.W.Write.contents mid)) c.self.view_is c.in_ok-send_shared.ensures in
    MatchResult-weaker c.write.result c.write.ensures.bytes (λ count gets. written mid sends gets) (λ error _. tt)
