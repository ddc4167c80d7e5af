-- Hints that are left one after the other, and runs of marks.
use Rattle.bt_machine.proofs.Base.{[], ◌≡◌, ℕ, zero, suc, ◌+◌, ◌<◌, Bool, true, false, ◌&&◌, ◌==◌, if◌then◌else◌, List, ◌∷◌, ◌++◌, length, take, get_or, flat_map, refl, sym, ap, ◌∙◌, arith, range_with_len, eq-eqb, eqb-true}
use Rattle.std.proofs.lemmas.List.{map-append}
use Rattle.bt_resume.specs.declared.hint.Hint.{Hint}
use Rattle.bt_resume.specs.declared.hint.Hint.TheVariants.{Proof, Marks}
use Rattle.bt_machine.proofs.Lists.{and_true}
use Rattle.bt_machine.specs.Hints.{mark_of, continues, joined_run, add_hint, add_hints}
use Rattle.bt_machine.specs.Blocks.{block_id}
use Rattle.bt_engine_after.specs.declared.marks.FileRun.{FileRun}
use Rattle.bt_engine_after.specs.MarksSteps.{marks_in, run_blocks}
use Rattle.bt_engine_after.proofs.Ranges.{range_more, flat_map_take}

pub add_more : (hints xs ys : List Hint) → add_hints hints (xs ++ ys) ≡ add_hints (add_hints hints xs) ys
add_more hints [] ys = refl
add_more hints (x ∷ xs) ys = add_more (add_hint hints x) xs ys

-- ---- a run is its marks, one after the other

add_some : (next : Hint) (hints : List Hint) (x : Hint) → (h : Hint) × (hs : List Hint) × (add_hint (next ∷ hints) x ≡ h ∷ hs)
add_some next (h ∷ hints) x = (next, add_hint (h ∷ hints) x, refl)
add_some next [] x = by (continues next x) refl
  where
    by : (b : Bool) → continues next x ≡ b → (h : Hint) × (hs : List Hint) × (add_hint (next ∷ []) x ≡ h ∷ hs)
    by true e = (joined_run next x, [], ap (λ t. if t then joined_run next x ∷ [] else next ∷ x ∷ []) e)
    by false e = (next, x ∷ [], ap (λ t. if t then joined_run next x ∷ [] else next ∷ x ∷ []) e)

-- the front stays
in_front : (first next : Hint) (hints : List Hint) (x y : Hint) → add_hint (first ∷ add_hint (next ∷ hints) x) y ≡ first ∷ add_hint (add_hint (next ∷ hints) x) y
in_front first next hints x y =
    let one = add_some next hints x in
    ap (λ hs. add_hint (first ∷ hs) y) one.2 ∙ sym (ap (λ hs. first ∷ add_hint hs y) one.2)

module _ (file a n : ℕ) where
  abbrev run : Hint
  run = Marks file a n

  goes_on : continues (Marks file a n) (Marks file (a + n) 1) ≡ true
  goes_on = ap (λ b. b && (a + n == a + n)) (eq-eqb file file refl) ∙ eq-eqb (a + n) (a + n) refl

  alone : add_hint (Marks file a n ∷ []) (Marks file (a + n) 1) ≡ Marks file a (n + 1) ∷ []
  alone = ap (λ t. if t then Marks file a (n + 1) ∷ [] else Marks file a n ∷ Marks file (a + n) 1 ∷ []) goes_on

  -- after one that it does not continue
  behind : (last : Hint) (b : Bool) → continues last (Marks file a n) ≡ b → continues last (Marks file a (n + 1)) ≡ b
      → ((b ≡ true) → add_hint (joined_run last (Marks file a n) ∷ []) (Marks file (a + n) 1) ≡ joined_run last (Marks file a (n + 1)) ∷ [])
      → add_hint (add_hint (last ∷ []) (Marks file a n)) (Marks file (a + n) 1) ≡ add_hint (last ∷ []) (Marks file a (n + 1))
  behind last true e f joins =
      ap (λ t. add_hint (if t then joined_run last (Marks file a n) ∷ [] else last ∷ Marks file a n ∷ []) (Marks file (a + n) 1)) e ∙ joins refl
      ∙ sym (ap (λ t. if t then joined_run last (Marks file a (n + 1)) ∷ [] else last ∷ Marks file a (n + 1) ∷ []) f)
  behind last false e f joins =
      ap (λ t. add_hint (if t then joined_run last (Marks file a n) ∷ [] else last ∷ Marks file a n ∷ []) (Marks file (a + n) 1)) e ∙ ap (λ hs. last ∷ hs) alone
      ∙ sym (ap (λ t. if t then joined_run last (Marks file a (n + 1)) ∷ [] else last ∷ Marks file a (n + 1) ∷ []) f)

  run_longer : (hints : List Hint) → add_hint (add_hint hints (Marks file a n)) (Marks file (a + n) 1) ≡ add_hint hints (Marks file a (n + 1))
  run_longer [] = alone
  run_longer (Proof key digests ∷ []) = behind (Proof key digests) false refl refl (λ e. absurd cc)
  run_longer (Marks other b c ∷ []) = behind (Marks other b c) (continues (Marks other b c) (Marks file a n)) refl refl (λ on. joined on)
    where
      joined : (other == file && b + c == a) ≡ true → add_hint (Marks other b (c + n) ∷ []) (Marks file (a + n) 1) ≡ Marks other b (c + (n + 1)) ∷ []
      joined on =
          let same = and_true (other == file) on in
          let place : b + (c + n) ≡ a + n = omega (arith, eqb-true (b + c) a same.1) in
          let sum : c + n + 1 ≡ c + (n + 1) = omega arith in
          ap (λ t. if t then Marks other b (c + n + 1) ∷ [] else Marks other b (c + n) ∷ Marks file (a + n) 1 ∷ [])
          (ap (λ t. t && (b + (c + n) == a + n)) same.0 ∙ eq-eqb (b + (c + n)) (a + n) place) ∙ ap (λ x. Marks other b x ∷ []) sum
  run_longer (first ∷ next ∷ hints) =
      in_front first next hints (Marks file a n) (Marks file (a + n) 1) ∙ ap (λ hs. first ∷ hs) (run_longer (next ∷ hints))

pub run_is_marks : (hints : List Hint) (file a n : ℕ) → add_hint hints (Marks file a (suc n)) ≡ add_hints hints (marks_in file (range_with_len a (suc n)))
run_is_marks hints file a zero = refl
run_is_marks hints file a (suc n) =
    let next : suc n + 1 ≡ suc (suc n) = omega arith in
    let mark = Marks file (a + suc n) 1 in
    let range : marks_in file (range_with_len a (suc (suc n))) ≡ marks_in file (range_with_len a (suc n)) ++ Marks file (a + suc n) 1 ∷ [] =
    ap (λ m. marks_in file (range_with_len a m)) (sym next) ∙ ap (marks_in file) (range_more a (suc n)) ∙ map-append (λ i. mark_of (block_id file i)) (range_with_len a (suc n)) ((a + suc n) ∷ []) in
    ap (λ m. add_hint hints (Marks file a m)) (sym next) ∙ sym (run_longer file a (suc n) hints)
    ∙ ap (λ hs. add_hint hs mark) (run_is_marks hints file a n) ∙ sym (add_more hints (marks_in file (range_with_len a (suc n))) (mark ∷ []))
    ∙ ap (add_hints hints) (sym range)

pub run_is : (hints : List Hint) (file first count : ℕ) → 0 < count → add_hint hints (Marks file first count) ≡ add_hints hints (marks_in file (range_with_len first count))
run_is hints file first zero some = absurd (omega arith)
run_is hints file first (suc n) some = run_is_marks hints file first n

-- the marks of one run more
pub runs_more : (old hints : List Hint) (file : ℕ) (runs : List FileRun) (i : ℕ) {run : FileRun} (d : FileRun) → i < length runs → run ≡ get_or runs i d → 0 < run.count
    → hints ≡ add_hints old (marks_in file (flat_map run_blocks (take i runs)))
    → add_hint hints (Marks file run.first run.count) ≡ add_hints old (marks_in file (flat_map run_blocks (take (i + 1) runs)))
runs_more old hints file runs i {run} d lt is some so_far =
    let before = flat_map run_blocks (take i runs) in
    let blocks = flat_map_take run_blocks runs i d lt is in
    run_is hints file run.first run.count some ∙ ap (λ hs. add_hints hs (marks_in file (run_blocks run))) so_far
    ∙ sym (add_more old (marks_in file before) (marks_in file (run_blocks run)))
    ∙ ap (add_hints old) (sym (map-append (λ j. mark_of (block_id file j)) before (run_blocks run)) ∙ ap (marks_in file) (sym blocks))
