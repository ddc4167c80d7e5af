-- Lemmas on the numbers that a pool gives its devices.
use Rattle.std.proofs.Common.{◌≡◌, ℕ, zero, suc, ◌+◌, List, [], ◌∷◌, ◌++◌, Option, Some, None, sym, ap, ◌∙◌, append-nil, arith}
use Rattle.std.specs.List.{flat_map, range_with_len}
use Rattle.std.proofs.lemmas.Grind.{flat_map-append}
use Rattle.bt_disk.specs.Pool.{PooledView}
use Rattle.bt_check.specs.DataFile.{number_of, IsNextOf}
use Rattle.bt_check.specs.declared.data_file.DataFile.{DataFile}

range_more : (a n : ℕ) → range_with_len a (suc n) ≡ range_with_len a n ++ (a + n) ∷ []
range_more a zero = ap (λ k. k ∷ []) (omega arith)
range_more a (suc n) =
    let last : (a + 1) + n ≡ a + suc n = omega arith in
    ap (λ l. a ∷ l) (range_more (a + 1) n ∙ ap (λ k. range_with_len (a + 1) n ++ k ∷ []) last)

-- the numbers so far, and that of the next device
next_number : (before after : ℕ) (found : Option PooledView) → IsNextOf before after found
    → range_with_len 1 before ++ number_of found ≡ range_with_len 1 after
next_number before after None next = append-nil (range_with_len 1 before) ∙ ap (range_with_len 1) (sym next)
next_number before after (Some disk) next =
    let number : disk.number ≡ 1 + before = omega (arith, next.0, next.1) in
    let more : suc before ≡ after = omega (arith, next.0) in
    ap (λ k. range_with_len 1 before ++ k ∷ []) number ∙ sym (range_more 1 before) ∙ ap (range_with_len 1) more

pub numbers_go_on : (before after : ℕ) (files all : List (DataFile PooledView)) (one : DataFile PooledView)
    → all ≡ files ++ one ∷ [] → flat_map (λ d. number_of d.disk) files ≡ range_with_len 1 before → IsNextOf before after one.disk
    → flat_map (λ d. number_of d.disk) all ≡ range_with_len 1 after
numbers_go_on before after files all one pushed numbers next =
    let numbered : DataFile PooledView → List ℕ = λ d. number_of d.disk in
    ap (flat_map numbered) pushed ∙ flat_map-append numbered files (one ∷ []) ∙ ap (λ l. flat_map numbered files ++ l) (append-nil (number_of one.disk))
    ∙ ap (λ l. l ++ number_of one.disk) numbers ∙ next_number before after one.disk next
