use Rattle.std.proofs.Common.{◌∙◌, ◌-◌, ◌<◌, ◌≤◌, ℕ, length, set, take, ap, arith}
use Rattle.std.proofs.lemmas.List.{get_or_default, length-take-le}
use Rattle.bt_sockets.proofs.OpenLists.{taken_out}
use Rattle.bt_sockets.proofs.open_requests.OpenRequests.remove.Goals as goal

pub returns-clause-now : goal.returns-clause-now
returns-clause-now c =
    let xs = c.args.self.now.asks in
    let n : ℕ = c.args.self.now.count in
    let i : ℕ = c.in-Some.index in
    let within = c.in-Some.ensures.within in
    let le : n ≤ length xs = omega arith in
    let lt : i < n = omega (arith, within, length-take-le n xs le) in (
      i,
      within,
      c.in-Some.ensures.here c.args.ask,
      ap (λ v. take (n - 1) (set xs i v)) (get_or_default xs (n - 1) _ c.args.ask (omega (arith, le, lt)))
          ∙ taken_out xs n i c.args.ask le lt,
    )
