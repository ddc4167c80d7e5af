-- A hint after others, where a run may continue the last one.
use Rattle.std.proofs.Common.{[], ◌≡◌, ℕ, zero, suc, Bool, true, false, cond, List, ◌∷◌, ◌++◌, length, get_or, refl, sym, ap, ◌∙◌, subst, arith}
use Rattle.std.specs.Prelude.{slice_set}
use Rattle.std.proofs.lemmas.List.{set-get_or}
use Rattle.std.proofs.lemmas.List.Elements.{All-push}
use Rattle.bt_resume.specs.Hint.{IsHint, IsTyped, CanBeRead}
use Rattle.bt_resume.specs.declared.hint.Format.TheVariants.{Two}
use Rattle.bt_resume.specs.declared.hint.Hint.{Hint}
use Rattle.bt_machine.specs.Hints.{continues, joined_run, add_hint}
use Rattle.bt_engine_state.specs.Pending.{AreWritable}

in_front : {A : Type 0} (a : A) (longer : Bool) (xs ys : List A) → a ∷ cond longer xs ys ≡ cond longer (a ∷ xs) (a ∷ ys)
in_front a true xs ys = refl
in_front a false xs ys = refl

added : (hints : List Hint) (hint d : Hint) (n : ℕ) → length hints ≡ suc n
    → add_hint hints hint ≡ cond (continues (get_or hints n d) hint) (slice_set hints n (joined_run (get_or hints n d) hint)) (hints ++ hint ∷ [])
added [] hint d n size = absurd (omega (arith, size))
added (a ∷ []) hint d zero size = refl
added (a ∷ []) hint d (suc n) size = absurd (omega (arith, size))
added (a ∷ b ∷ hints) hint d zero size = absurd (omega (arith, size))
added (a ∷ b ∷ hints) hint d (suc n) size =
    ap (λ xs. a ∷ xs) (added (b ∷ hints) hint d n (omega (arith, size))) ∙ in_front a (continues (get_or (b ∷ hints) n d) hint) _ _

module _ (hints : List Hint) (place : ℕ) (last hint : Hint) (size : length hints ≡ suc place)
    (is_last : last ≡ get_or hints place last) (longer : Bool) (is : longer ≡ continues last hint) where
  by_last : add_hint hints hint ≡ cond longer (slice_set hints place (joined_run last hint)) (hints ++ hint ∷ [])
  by_last =
      subst (λ x. add_hint hints hint ≡ cond (continues x hint) (slice_set hints place (joined_run x hint)) (hints ++ hint ∷ []))
      (sym is_last) (added hints hint last place size)
      ∙ ap (λ t. cond t (slice_set hints place (joined_run last hint)) (hints ++ hint ∷ [])) (sym is)

  module _ (run : Hint) (run_is : run ≡ cond longer (joined_run last hint) last) where
    pub lengthened : longer ≡ true → slice_set hints place run ≡ add_hint hints hint
    lengthened on =
        ap (slice_set hints place) (run_is ∙ ap (λ t. cond t (joined_run last hint) last) on)
        ∙ sym (by_last ∙ ap (λ t. cond t (slice_set hints place (joined_run last hint)) (hints ++ hint ∷ [])) on)

    pub unchanged : longer ≡ false → slice_set hints place run ≡ hints
    unchanged off =
        ap (slice_set hints place) (run_is ∙ ap (λ t. cond t (joined_run last hint) last) off ∙ is_last) ∙ set-get_or hints place last

    pub put_behind : longer ≡ false → slice_set hints place run ++ hint ∷ [] ≡ add_hint hints hint
    put_behind off =
        ap (λ xs. xs ++ hint ∷ []) (unchanged off)
        ∙ sym (by_last ∙ ap (λ t. cond t (slice_set hints place (joined_run last hint)) (hints ++ hint ∷ [])) off)

pub put_first : (hints : List Hint) (hint : Hint) → length hints ≡ 0 → hints ++ hint ∷ [] ≡ add_hint hints hint
put_first [] hint none = refl
put_first (a ∷ hints) hint none = absurd (omega (arith, none))

pub stay_writable : (hints : List Hint) (hint : Hint) → AreWritable hints → CanBeRead hint → IsTyped hint → AreWritable (hints ++ hint ∷ [])
stay_writable hints hint are readable typed = All-push (IsHint Two) hints hint are (record { readable = readable; typed = typed })
