-- Frames at the front of a list of bytes, and what they tell.
use Rattle.std.proofs.Common.{◌≡◌, ℕ, ◌+◌, ◌<◌, ◌^◌, Option, Some, None, List, ◌∷◌, ◌++◌, length, take, drop, sym, ◌∙◌, ap, refl, arith}
use Rattle.std.specs.Int.{w32, to_be_bytes, from_be_bytes}
use Rattle.std.proofs.lemmas.List.{take_at, drop_at}
use Rattle.std.proofs.lemmas.Nat.{from_be_bytes-to_be_bytes_4}
use Rattle.bt_wire.specs.Message.{Body, body, length_field, frame_spelling}

-- two lists of two parts each, the first ones of one length
pub record Parts (p q r s : List ℕ) : Type 0 where
  pub first : p ≡ q
  pub second : r ≡ s

pub parts : (p q r s : List ℕ) → length p ≡ length q → p ++ r ≡ q ++ s → Parts p q r s
parts p q r s same e = record {
  first = sym (take_at p r (length p) refl) ∙ ap (λ xs. take (length p) xs) e ∙ take_at q s (length p) (sym same);
  second = sym (drop_at p r (length p) refl) ∙ ap (λ xs. drop (length p) xs) e ∙ drop_at q s (length p) (sym same);
}

-- the number that the first four bytes spell
pub first_number : List ℕ → ℕ
first_number bytes = from_be_bytes w32 (take 4 bytes)

pub number_at_front : (n : ℕ) (rest : List ℕ) → n < 2 ^ 32 → first_number (to_be_bytes w32 n ++ rest) ≡ n
unfolding first_number
number_at_front n rest fits = from_be_bytes-to_be_bytes_4 n fits

-- two fronts of four bytes
pub same_number : (n m : ℕ) (r s : List ℕ) → n < 2 ^ 32 → m < 2 ^ 32 → to_be_bytes w32 n ++ r ≡ to_be_bytes w32 m ++ s → n ≡ m
same_number n m r s n-fits m-fits e =
    sym (number_at_front n r n-fits) ∙ ap first_number e ∙ number_at_front m s m-fits

pub behind_number : (n m : ℕ) (r s : List ℕ) → to_be_bytes w32 n ++ r ≡ to_be_bytes w32 m ++ s → r ≡ s
behind_number n m r s e = ap (λ xs. drop 4 xs) e

-- two frames at the front of one list
pub record SameFrame (b c : Option Body) (r s : List ℕ) : Type 0 where
  pub body_is : b ≡ c
  pub rest_is : r ≡ s

pub some_frame : (kind other : ℕ) (p q r s : List ℕ) → 1 + length p < 2 ^ 32 → 1 + length q < 2 ^ 32
    → frame_spelling (body kind p) ++ r ≡ frame_spelling (body other q) ++ s → SameFrame (body kind p) (body other q) r s
some_frame kind other p q r s p-fits q-fits e =
    let size : 1 + length p ≡ 1 + length q = same_number (1 + length p) (1 + length q) (kind ∷ p ++ r) (other ∷ q ++ s) p-fits q-fits e in
    let behind : kind ∷ (p ++ r) ≡ other ∷ (q ++ s) = behind_number (1 + length p) (1 + length q) (kind ∷ p ++ r) (other ∷ q ++ s) e in
    let kinds : kind ≡ other = cc in
    let payloads : p ++ r ≡ q ++ s = cc in
    let split = parts p q r s (omega arith) payloads in
    record { body_is = ap (λ k. body k p) kinds ∙ ap (λ xs. body other xs) split.first; rest_is = split.second }

pub same_frame : (b c : Option Body) (r s : List ℕ) → length_field b < 2 ^ 32 → length_field c < 2 ^ 32
    → frame_spelling b ++ r ≡ frame_spelling c ++ s → SameFrame b c r s
same_frame None None r s b-fits c-fits e = record { body_is = refl; rest_is = behind_number 0 0 r s e }
same_frame None (Some c) r s b-fits c-fits e =
    let zero : 0 ≡ 1 + length c.payload = same_number 0 (1 + length c.payload) r (c.kind ∷ c.payload ++ s) b-fits c-fits e in
    absurd (omega arith)
same_frame (Some b) None r s b-fits c-fits e =
    let zero : 1 + length b.payload ≡ 0 = same_number (1 + length b.payload) 0 (b.kind ∷ b.payload ++ r) s b-fits c-fits e in
    absurd (omega arith)
same_frame (Some b) (Some c) r s b-fits c-fits e = some_frame b.kind c.kind b.payload c.payload r s b-fits c-fits e
