-- Blocks that are recalled, one after the other.
use Rattle.bt_machine.proofs.Base.{[], ◌≡◌, ℕ, suc, ◌+◌, Bool, true, false, cond, List, ◌∷◌, ◌++◌, filter, range_with_len, refl, sym, ap, ◌∙◌, BlockState, Facts, value_at}
use Rattle.std.specs.Prelude.{is_some}
use Rattle.std.proofs.lemmas.List.Elements.{filter-append}
use Rattle.bt_store.specs.Review.{recalled}
use Rattle.bt_store.specs.FileStore.{StoreView}
use Rattle.bt_store.specs.Law.{all_recalled}
use Rattle.bt_store.proofs.Judgements.{range_more}

recalled_more : (states : List BlockState) (blocks more : List ℕ) → all_recalled states (blocks ++ more) ≡ all_recalled (all_recalled states blocks) more
recalled_more states [] more = refl
recalled_more states (block ∷ blocks) more = recalled_more (recalled states block) blocks more

-- ---- one block more

module _ (dig : List ℕ → List ℕ) (k : Facts) (states : List BlockState) (first : ℕ) where
  -- those of the first n blocks of a run that are recalled
  abbrev pub after : ℕ → List BlockState
  after n = all_recalled states (filter (λ i. is_some (value_at dig k 0 i)) (range_with_len first n))

  pub after_one : (n block : ℕ) → first + n ≡ block → (b : Bool) → is_some (value_at dig k 0 block) ≡ b
      → after (suc n) ≡ cond b (recalled (after n) block) (after n)
  after_one n block here b known =
      let p : ℕ → Bool = λ i. is_some (value_at dig k 0 i) in
      ap (λ xs. all_recalled states (filter p xs)) (range_more first n)
      ∙ ap (λ xs. all_recalled states xs) (filter-append p (range_with_len first n) ((first + n) ∷ []))
      ∙ recalled_more states (filter p (range_with_len first n)) (filter p ((first + n) ∷ []))
      ∙ ap (λ m. all_recalled (after n) (filter p (m ∷ []))) here
      ∙ ap (λ c. all_recalled (after n) (cond c (block ∷ []) [])) known
      ∙ by b
    where
      by : (b : Bool) → all_recalled (after n) (cond b (block ∷ []) []) ≡ cond b (recalled (after n) block) (after n)
      by true = refl
      by false = refl

-- a store of which the states alone have changed, twice
pub others_kept : {D : Type 0} (old mid new last : StoreView D) → mid ≡ record old { states = mid.states } → new ≡ record mid { states = new.states }
    → last ≡ new → last ≡ record old { states = last.states }
others_kept {D} old mid new last first second same =
    same ∙ second ∙ ap (λ (s : StoreView D). record s { states = new.states }) first ∙ ap (λ (s : StoreView D). record old { states = s.states }) (sym same)
