-- Lemmas on settings of devices.
use Rattle.std.proofs.Common.{[], ◌≡◌, ℕ, ◌+◌, Bool, true, false, List, ◌∷◌, ◌++◌, length, Option, refl, sym, ap, ◌∙◌, append_assoc, length-append, arith}
use Rattle.std.specs.Bool.{OnTrue}
use Rattle.std.specs.Borrow.{Bor}
use Rattle.bt_replay.specs.Devices.{Device, SetsAll, unset, one_set, SetsFront}
use Rattle.bt_replay.specs.DevicesSteps.{SetsBy}
use Rattle.bt_replay.specs.Field.{parts_of}
use Rattle.bt_replay.specs.Run.{lines_in}

false_is_true : false ≡ true → ⊥
false_is_true e = cc

-- how far it has come: these settings were made, and the rest is left
pub record IsSetting (first : List (Option Device)) (all : List (List ℕ)) (rest : Option (Bor (List ℕ)))
    (count : ℕ) (devices : List (Option Device)) : Type 0 where
  pub done : List (List ℕ)
  pub parted : all ≡ done ++ lines_in rest
  pub counted : count ≡ length done
  pub set : SetsAll first done devices

pub set_start : (first : List (Option Device)) (rest : Option (Bor (List ℕ)))
    → IsSetting first (lines_in rest) rest 0 first
set_start first rest = record { done = []; parted = refl; counted = refl; set = unset }

pub true_holds : {P : Type 0} (b : Bool) → b ≡ true → OnTrue b P → P
true_holds false e h = absurd (false_is_true e)
true_holds true e h = h

-- the settings and what is left are all lines
pub front_count : (first devices : List (Option Device)) (lines rest : List (List ℕ)) (count : ℕ)
    → SetsFront first lines count rest devices → count + length rest ≡ length lines
front_count first devices lines rest count front =
    let whole = ap length front.parted in
    let len = length-append front.settings rest in
    omega (arith, whole, len, front.counted)

pub set_more : (first mid new : List (Option Device)) (all : List (List ℕ)) (text line : List ℕ)
    (rest more : Option (Bor (List ℕ))) (count next : ℕ) → IsSetting first all rest count mid
    → lines_in rest ≡ parts_of 10 text → parts_of 10 text ≡ line ∷ lines_in more → next ≡ count + 1
    → SetsBy mid line new → IsSetting first all more next new
set_more first mid new all text line rest more count next at here cut is by = record {
  done = at.done ++ line ∷ [];
  parted = at.parted ∙ ap (λ lines. at.done ++ lines) (here ∙ cut) ∙ sym (append_assoc at.done (line ∷ []) (lines_in more));
  counted = let len = length-append at.done (line ∷ []) in omega (arith, is, at.counted, len);
  set = one_set at.done line by.spelled mid new at.set by.spells by.sets;
}
