-- The height of a run of a power of two of nodes.
use Rattle.std.proofs.Common.{◌≡◌, ℕ, ◌^◌, ◌≤◌, ap, sym, ◌∙◌, arith}
use Rattle.bt_tree.specs.TreeShape.{height_of}
use Rattle.bt_tree.proofs.TreeShape.{height_is, same_height, le_from_pow}
use Rattle.bt_hashreq.specs.Claim.{IsRunLength}

-- the height of a power of two is its exponent
pub height_of-pow : (n log : ℕ) → n ≡ 2 ^ log → height_of n ≡ log
height_of-pow n log power = same_height n (height_of n) log (height_is n)
    (record { enough = omega (arith, power); least = λ k h. le_from_pow log k (omega (arith, power, h)) })

pub run_length : (n log : ℕ) → 2 ≤ n → n ≤ 512 → n ≡ 2 ^ log → IsRunLength n
run_length n log some limit power =
    record { some = some; limit = limit; power = power ∙ ap (λ k. 2 ^ k) (sym (height_of-pow n log power)) }
