use Rattle.std.proofs.Common.{◌≡◌, ℕ, ◌+◌, ◌-◌, ◌*◌, take, drop, ap, arith}
use Rattle.bt_lanes.proofs.lanes.run_block.Goals as goal

pub returns : goal.returns
returns c =
    let start : ℕ = 16384 * c.args.j in
    let width : start + 16384 - start ≡ 16384 = omega arith in
    ap (λ (n : ℕ). take n (drop start c.args.run.now)) width
