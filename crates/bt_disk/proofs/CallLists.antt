-- Lists of calls of a device.
use Rattle.std.proofs.Common.{◌≡◌, ℕ, ◌↔◌, List, [], ◌∷◌, ◌++◌, Result, Ok, Err, refl, sym, ap, ◌∙◌, subst}
use Rattle.bt_disk.specs.Limits.{count_after}
use Rattle.bt_disk.specs.Conduct.{Conduct}
use Rattle.bt_disk.specs.History.{History}
use Rattle.bt_disk.specs.Calls.{Call, IsAnswered, AreAnswered, count_after_call, count_after_calls, HasCalls, read_call}

pub answered_then : (a b c : History) (xs ys : List Call) → AreAnswered a xs b → AreAnswered b ys c → AreAnswered a (xs ++ ys) c
answered_then a b c [] ys first second = subst (λ h. AreAnswered h ys c) first second
answered_then a b c (x ∷ xs) ys first second = (first.0, first.1, answered_then first.0 b c xs ys first.2 second)

pub count_then : (count : ℕ) (xs ys : List Call) → count_after_calls count (xs ++ ys) ≡ count_after_calls (count_after_calls count xs) ys
count_then count [] ys = refl
count_then count (x ∷ xs) ys = count_then (count_after_call count x) xs ys

-- no call
pub has_none : {D : Type 0} (conduct : Conduct D) (disk : D) → HasCalls conduct disk [] disk
has_none conduct disk = record { counted = refl; as_honest = (λ h. h, λ h. h); answered = λ h. refl }

-- one call, from what a device promises of it
pub has_one : {D : Type 0} (conduct : Conduct D) (old : D) (call : Call) (new : D)
    → conduct.faults new ≡ count_after_call (conduct.faults old) call → conduct.honest old ↔ conduct.honest new → (conduct.honest old → IsAnswered (conduct.history old) call (conduct.history new))
    → HasCalls conduct old (call ∷ []) new
has_one conduct old call new counted as_honest answered =
    record { counted = counted; as_honest = as_honest; answered = λ h. (conduct.history new, answered h, refl) }

-- some calls, and then others
pub has_then : {D : Type 0} (conduct : Conduct D) (a b c : D) (xs ys : List Call)
    → HasCalls conduct a xs b → HasCalls conduct b ys c → HasCalls conduct a (xs ++ ys) c
has_then conduct a b c xs ys first second =
    record {
      counted = second.counted ∙ ap (λ count. count_after_calls count ys) first.counted ∙ sym (count_then (conduct.faults a) xs ys);
      as_honest = (λ h. second.as_honest.0 (first.as_honest.0 h), λ h. first.as_honest.1 (second.as_honest.1 h));
      answered = λ h. answered_then (conduct.history a) (conduct.history b) (conduct.history c) xs ys (first.answered h) (second.answered (first.as_honest.0 h));
    }

-- a count after a read is that after its call
pub count_read : {E : Type 0} (count at : ℕ) (out : List ℕ) (r : Result ℕ E) → count_after count r ≡ count_after_call count (read_call at out r)
count_read count at out (Ok n) = refl
count_read count at out (Err e) = refl
