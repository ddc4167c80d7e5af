use Rattle.std.proofs.Common.{ℕ, List, Option, Result, Ok, Err, IfOk, subst}
use Rattle.std.specs.Io.KnownBytes.{ReadConsumes}
use Rattle.bt_connection.specs.Requests.{SendsRequests, IsReadBehind}
use Rattle.bt_connection.proofs.requests.SendingReaderRead.read.Goals as goal

-- what was held was written before the connection gave anything
behind : {S E : Type 0} (contents remaining : S → Option (List ℕ)) (old mid new : S) (buffer : List ℕ) (r : Result ℕ E)
    → SendsRequests (contents old) (contents mid) → ReadConsumes (remaining mid) (remaining new) r buffer
    → IfOk r (λ count. IsReadBehind contents remaining old count buffer new)
behind contents remaining old mid new buffer (Ok count) sends gives = record { mid = mid; sends = sends; lost = gives.0; ended = gives.1 }
behind contents remaining old mid new buffer (Err e) sends gives = tt

pub returns-clause-read : goal.returns-clause-read
returns-clause-read g c =
    let mid = c.send_shared.new.to in
    let sends = subst (λ s. SendsRequests (g.S.Write.contents s) (g.S.Write.contents mid)) c.self.view_is c.in_ok-send_shared.ensures in
    behind g.S.Write.contents g.S.Read.remaining _ mid _ _ c.read.result sends c.read.ensures.bytes
