-- What reads consume of the bytes that a reader is known to have left.
use Rattle.std.proofs.Common.{◌≡◌, ℕ, ◌+◌, List, ◌++◌, take, drop, Option, None, Some, sym, ap, ◌∙◌, subst, append_assoc}
use Rattle.std.proofs.Math.Seq.{take-add}
use Rattle.std.specs.Io.KnownBytes.{Consumes, Keeps}

Consumes-trans : (a b c : Option (List ℕ)) (bs cs : List ℕ) → Consumes a b bs → Consumes b c cs → Consumes a c (bs ++ cs)
Consumes-trans None b c bs cs p q = tt
Consumes-trans (Some x) None c bs cs p q = absurd p
Consumes-trans (Some x) (Some y) None bs cs p q = absurd q
Consumes-trans (Some x) (Some y) (Some z) bs cs p q = p ∙ ap (λ l. bs ++ l) q ∙ sym (append_assoc bs cs z)

Consumes-kept : (a b c : Option (List ℕ)) (bs : List ℕ) → Consumes a b bs → Keeps b c → Consumes a c bs
Consumes-kept None b c bs p q = tt
Consumes-kept (Some x) None c bs p q = absurd p
Consumes-kept (Some x) (Some y) None bs p q = absurd q
Consumes-kept (Some x) (Some y) (Some z) bs p q = p ∙ ap (λ l. bs ++ l) (sym q)

-- the bytes in front, and then those of another read
pub read_more : (a b c : Option (List ℕ)) (old new : List ℕ) (n m : ℕ) → take n new ≡ take n old → Consumes a b (take n old)
    → Consumes b c (take m (drop n new)) → Consumes a c (take (n + m) new)
read_more a b c old new n m front first next =
    subst (Consumes a c) (sym (take-add n m new ∙ ap (λ l. l ++ take m (drop n new)) front))
    (Consumes-trans a b c (take n old) (take m (drop n new)) first next)

-- the same, where the read consumed none
pub read_none : (a b c : Option (List ℕ)) (old new : List ℕ) (n : ℕ) → take n new ≡ take n old → Consumes a b (take n old) → Keeps b c
    → Consumes a c (take n new)
read_none a b c old new n front first kept = subst (Consumes a c) (sym front) (Consumes-kept a b c (take n old) first kept)
