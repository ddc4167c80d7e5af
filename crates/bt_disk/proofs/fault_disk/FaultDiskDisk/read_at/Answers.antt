use Rattle.std.proofs.Common.{rules, arith, ◌≡◌, ◌++◌, ◌∙◌, length, take, drop, false, length-append, length-drop}
use Rattle.std.proofs.lemmas.List.{take_at}
use Rattle.bt_disk.specs.FaultDisk.{fails_next, flipped, next_call}
use Rattle.bt_disk.proofs.fault_disk.FaultDiskDisk.read_at.Goals as goal

pub returns-clause-passes : goal.returns-clause-passes
returns-clause-passes g c =
    let old = c.args.self.now in
    let given = c.read_at.new.out in
    let count = c.in_ok-count.count in
    let bytes = c.flip_bit.new.bytes in
    let next : fails_next old ≡ false = search rules in
    let as_many : length given ≡ length (bytes ++ drop count given) =
    omega (arith, c.flip_bit.auto.bytes, c.in_ok-count.ensures.within, length-append bytes (drop count given), length-drop count given) in
    let flip : c.self.inside.flip ≡ old.flipping = search rules in
    let calls : c.self.inside.calls ≡ next_call old = search rules in
    let front : take count (bytes ++ drop count given) ≡ bytes = take_at _ _ _ (search rules) in
    let altered : take count (bytes ++ drop count given) ≡ flipped old.flipping (next_call old) c.args.at (take count given) =
    rw (← flip, ← calls) (front ∙ c.flip_bit.ensures) in
    rw next record {
      given = given;
      as_many = as_many;
      passed = search rules;
      altered = altered;
    }
