-- How many lines a script has.
use Rattle.std.proofs.Common.{◌≡◌, ℕ, ◌-◌, ◌≤◌, Bool, true, false, List, ◌∷◌, length, take, ap, arith}
use Rattle.std.specs.Prelude.{◌==◌, ◌&&◌, nat_lt, slice_index, if◌then◌else◌}
use Rattle.std.proofs.lemmas.List.{length-take}
use Rattle.std.proofs.lemmas.List.Sums.{count_by-le-length}
use Rattle.std.proofs.lemmas.List.Splits.{length-slice_split}
use Rattle.bt_replay.specs.Script.{script_lines, without_last_feed}

shorter : (b : Bool) (n : ℕ) (text : List ℕ) → length (if b then take n text else text) ≤ length text
shorter true n text = let len = length-take n text in omega (arith, len)
shorter false n text = omega arith

pub few_lines : (script first : List ℕ) (rest : List (List ℕ)) → script_lines script ≡ first ∷ rest
    → length rest ≤ length script
few_lines script first rest cut =
    let text = without_last_feed script in
    let parts = length-slice_split (λ byte. byte == 10) text in
    let marks = count_by-le-length (λ byte. byte == 10) text in
    let ends = nat_lt 0 (length script) && slice_index script (length script - 1) == 10 in
    let less : length text ≤ length script = shorter ends (length script - 1) script in
    let whole = ap length cut in
    omega (arith, parts, marks, less, whole)
