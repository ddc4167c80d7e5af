use Rattle.std.proofs.Common.{◌∙◌, ◌≤◌, ℕ, length, take, refl, sym, arith}
use Rattle.std.proofs.lemmas.List.{length-take-le}
use Rattle.bt_sockets.proofs.OpenLists.{found}
use Rattle.bt_sockets.proofs.open_requests.OpenRequests.insert.Goals.{then-self-eq-MAX_REQUESTS-via-then-self-eq-MAX_REQUESTS, then-self-eq-MAX_REQUESTS-via-else-self-eq-MAX_REQUESTS+then-is_some}
use Rattle.bt_sockets.proofs.open_requests.OpenRequests.insert.Goals as goal

pub returns-then-self-eq-MAX_REQUESTS : goal.returns-then-self-eq-MAX_REQUESTS
returns-then-self-eq-MAX_REQUESTS c =
    let xs = c.args.self.now.asks in
    let n : ℕ = c.args.self.now.count in
    let le : n ≤ length xs = omega arith in
    elim c.then-self-eq-MAX_REQUESTS.branch [
      | then-self-eq-MAX_REQUESTS-via-then-self-eq-MAX_REQUESTS w ↦
          record {
            again = λ _. refl;
            full = λ _. refl;
            opened = λ absent few. absurd (omega (arith, few, length-take-le n xs le, w.if-self-eq-MAX_REQUESTS.true));
          }
      | then-self-eq-MAX_REQUESTS-via-else-self-eq-MAX_REQUESTS+then-is_some w ↦
          let there = found (take n xs) c.args.ask w.index_of.result w.index_of.ensures.within w.index_of.ensures.here (sym w.is_some.ensures ∙ w.if-is_some.true) in
          record { again = λ _. refl; full = λ _. refl; opened = λ absent few. absurd (absent there) }
    ]
