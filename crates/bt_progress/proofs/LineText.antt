-- Lemmas on texts that are put together, where a format has them one after the other from the right.
use Rattle.std.proofs.Common.{◌≡◌, ℕ, List, ◌++◌, append_assoc}

pub put_three : (old first second last a b c : List ℕ) → first ≡ old ++ a → second ≡ first ++ b → last ≡ second ++ c → last ≡ old ++ (a ++ b ++ c)
put_three old first second last a b c one two three = rw (three, two, one) (simp append_assoc)

pub put_five : (old first second last a b c d e : List ℕ) → first ≡ old ++ a → second ≡ first ++ b → last ≡ second ++ (c ++ (d ++ e))
    → last ≡ old ++ (a ++ b ++ c ++ d ++ e)
put_five old first second last a b c d e one two three = rw (three, two, one) (simp append_assoc)

pub four_put : (a b c d e : List ℕ) → a ++ (b ++ (c ++ (d ++ e))) ≡ a ++ b ++ c ++ d ++ e
four_put a b c d e = simp append_assoc

pub six_put : (a b c d e f g : List ℕ) → a ++ (b ++ (c ++ (d ++ (e ++ (f ++ g))))) ≡ a ++ b ++ c ++ d ++ (e ++ f ++ g)
six_put a b c d e f g = simp append_assoc
