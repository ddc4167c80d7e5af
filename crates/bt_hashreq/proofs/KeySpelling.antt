-- A key's bytes, as they are written one run after the other, and that they tell the key.
use Rattle.std.proofs.Common.{◌≡◌, ℕ, ◌+◌, ◌≤◌, ◌<◌, ◌^◌, List, ◌++◌, length, take, drop, sym, ◌∙◌, ap, refl, arith}
use Rattle.std.specs.Int.{w32, to_be_bytes, from_be_bytes}
use Rattle.std.proofs.lemmas.List.{take_all, take_at, drop_at, length-append}
use Rattle.std.proofs.lemmas.Nat.{from_be_bytes-to_be_bytes_4}
use Rattle.bt_hashreq.specs.Law.{SpellsOneKey}
use Rattle.bt_hashreq.specs.declared.key.HashKey.{HashKey}

-- one run more after the first bytes, which are known
pub one_more : (old new front written run : List ℕ) (at to : ℕ) → written ≡ run → at + length run ≡ to
    → take (at + length written) new ≡ take at old ++ written → take at old ≡ front → take to new ≡ front ++ run
one_more old new front written run at to same end put known =
    sym (ap (λ n. take n new) (ap (λ xs. at + length xs) same ∙ end)) ∙ put ∙ ap (λ xs. xs ++ written) known ∙ ap (λ xs. front ++ xs) same

-- the first bytes are all
pub all_of : (bytes front : List ℕ) (n : ℕ) → length bytes ≡ n → take n bytes ≡ front → bytes ≡ front
all_of bytes front n whole known = let short : length bytes ≤ n = omega arith in sym (take_all n bytes short) ∙ known

-- two lists of two parts each, the first ones of one length
record Parts (p q r s : List ℕ) : Type 0 where
  first : p ≡ q
  second : r ≡ s

parts : (p q r s : List ℕ) → length p ≡ length q → p ++ r ≡ q ++ s → Parts p q r s
parts p q r s same e = record {
  first = sym (take_at p r (length p) refl) ∙ ap (λ xs. take (length p) xs) e ∙ take_at q s (length p) (sym same);
  second = sym (drop_at p r (length p) refl) ∙ ap (λ xs. drop (length p) xs) e ∙ drop_at q s (length p) (sym same);
}

-- four bytes tell their number
number : (n m : ℕ) → n < 2 ^ 32 → m < 2 ^ 32 → to_be_bytes w32 n ≡ to_be_bytes w32 m → n ≡ m
number n m n-fits m-fits e =
    sym (from_be_bytes-to_be_bytes_4 n n-fits) ∙ ap (λ xs. from_be_bytes w32 xs) e ∙ from_be_bytes-to_be_bytes_4 m m-fits

-- after fronts of one length, another number of four bytes
longer : (p q : List ℕ) (n m : ℕ) → length p ≡ length q → length (p ++ to_be_bytes w32 n) ≡ length (q ++ to_be_bytes w32 m)
longer p q n m same = length-append p (to_be_bytes w32 n) ∙ ap (λ k. k + 4) same ∙ sym (length-append q (to_be_bytes w32 m))

key_of : List ℕ → ℕ → ℕ → ℕ → ℕ → HashKey
key_of root base index length layers = record { root = root; base = base; index = index; length = length; layers = layers }

pub spells_one_key : SpellsOneKey
unfolding key_of
spells_one_key a b a-is b-is e =
    let root = a-is.root ∙ sym b-is.root in
    let base = longer a.root b.root a.base b.base root in
    let index = longer (a.root ++ to_be_bytes w32 a.base) (b.root ++ to_be_bytes w32 b.base) a.index b.index base in
    let length = longer (a.root ++ to_be_bytes w32 a.base ++ to_be_bytes w32 a.index) (b.root ++ to_be_bytes w32 b.base ++ to_be_bytes w32 b.index) a.length b.length index in
    let last = parts _ _ _ _ length e in
    let third = parts _ _ _ _ index last.first in
    let second = parts _ _ _ _ base third.first in
    let first = parts _ _ _ _ root second.first in
    ap (λ root. key_of root a.base a.index a.length a.layers) first.first
    ∙ ap (λ n. key_of b.root n a.index a.length a.layers) (number a.base b.base a-is.base b-is.base first.second)
    ∙ ap (λ n. key_of b.root b.base n a.length a.layers) (number a.index b.index a-is.index b-is.index second.second)
    ∙ ap (λ n. key_of b.root b.base b.index n a.layers) (number a.length b.length a-is.length b-is.length third.second)
    ∙ ap (λ n. key_of b.root b.base b.index b.length n) (number a.layers b.layers a-is.layers b-is.layers last.second)
