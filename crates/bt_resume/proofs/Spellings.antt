-- How hints are read from their bytes.
use Rattle.std.proofs.Common.{◌≡◌, ℕ, zero, suc, ◌+◌, ◌*◌, ◌^◌, ◌<◌, ◌≤◌, ◌≢◌, List, [], ◌∷◌, ◌++◌, length, take, drop, get_or, All, sym, ap, ◌∙◌, subst, arith}
use Rattle.std.specs.Int.{w32, to_be_bytes}
use Rattle.std.specs.Simd.{first_chunks}
use Rattle.std.proofs.Math.Seq.{take-add}
use Rattle.std.proofs.lemmas.List.{append_assoc, take_at, take-append-drop, length-append, length-take, length-drop, nil_from_length}
use Rattle.std.proofs.lemmas.List.Elements.{All-nil, All-cons}
use Rattle.bt_sparse.specs.Answer.{answer_size}
use Rattle.bt_hashreq.specs.declared.key.HashKey.{HashKey}
use Rattle.bt_hashreq.specs.Key.{key_spelling, IsKey}
use Rattle.bt_hashreq.specs.Claim.{HasShape}
use Rattle.bt_hashreq.proofs.KeySpelling.{spells_one_key}
use Rattle.bt_resume.specs.declared.hint.Format.{Format}
use Rattle.bt_resume.specs.declared.hint.Format.TheVariants.{One, Two}
use Rattle.bt_resume.specs.declared.hint.Hint.TheVariants.{Proof, Marks}
use Rattle.bt_resume.specs.Hint.{joined, IsRun, BeginsNoHint}
use Rattle.bt_resume.specs.OneSpelling.{key_size, joined_length, same_number}
use Rattle.bt_resume.specs.Reader.{IsFirst}

abbrev IsWhole : List ℕ → Type 0
IsWhole digest = length digest ≡ 32

-- ---- digests, one after the other

pub joined_chunks : (k : ℕ) (bytes : List ℕ) → length bytes ≡ 32 * k → joined (first_chunks 32 k bytes) ≡ bytes
joined_chunks zero bytes size = sym (nil_from_length bytes (omega (arith, size)))
joined_chunks (suc k) bytes size =
    ap (λ xs. take 32 bytes ++ xs) (joined_chunks k (drop 32 bytes) (omega (arith, size, length-drop 32 bytes))) ∙ take-append-drop 32 bytes

pub whole_chunks : (k : ℕ) (bytes : List ℕ) → length bytes ≡ 32 * k → All IsWhole (first_chunks 32 k bytes)
whole_chunks zero bytes size = All-nil IsWhole
whole_chunks (suc k) bytes size =
    All-cons IsWhole (take 32 bytes) _ (omega (arith, size, length-take 32 bytes)) (whole_chunks k (drop 32 bytes) (omega (arith, size, length-drop 32 bytes)))

-- ---- reading a proof

-- A key that begins the bytes of a proof, but has no shape or too few bytes after it.
pub no_proof : (f : Format) (bytes : List ℕ) (key : HashKey) → take 1 bytes ≡ 80 ∷ [] → IsKey key → key_spelling key ≡ take 48 (drop 1 bytes)
    → (HasShape key → length bytes < 49 + 32 * answer_size key.length key.layers) → BeginsNoHint f bytes
no_proof One bytes key kind is spelled short (Marks i b n) rest hint e =
    absurd (omega (arith, ap (λ xs. get_or xs 0 0) (sym kind ∙ ap (λ xs. take 1 xs) e)))
no_proof Two bytes key kind is spelled short (Marks i b n) rest hint e =
    absurd (omega (arith, ap (λ xs. get_or xs 0 0) (sym kind ∙ ap (λ xs. take 1 xs) e)))
no_proof f bytes key kind is spelled short (Proof k ds) rest hint e =
    let inner : drop 1 bytes ≡ key_spelling k ++ (joined ds ++ rest) = ap (λ xs. drop 1 xs) e ∙ append_assoc (key_spelling k) (joined ds) rest in
    let same : key ≡ k = spells_one_key key k is hint.typed.0
    (spelled ∙ ap (λ xs. take 48 xs) inner ∙ take_at (key_spelling k) (joined ds ++ rest) 48 (key_size k hint.typed.0)) in
    let shape : HasShape key = subst HasShape (sym same) hint.readable.0 in
    let count : length ds ≡ answer_size key.length key.layers = hint.readable.1 ∙ ap (λ (h : HashKey). answer_size h.length h.layers) (sym same) in
    let size : length bytes ≡ suc (length ((key_spelling k ++ joined ds) ++ rest)) = ap length e in
    absurd (omega (
      arith,
      short shape,
      size,
      count,
      length-append (key_spelling k ++ joined ds) rest,
      length-append (key_spelling k) (joined ds),
      key_size k hint.typed.0,
      joined_length ds hint.typed.1,
    ))

pub found_proof : (f : Format) (bytes : List ℕ) (key : HashKey) (ds : List (List ℕ)) (n : ℕ) → take 1 bytes ≡ 80 ∷ [] → IsKey key → HasShape key
    → key_spelling key ≡ take 48 (drop 1 bytes) → n ≡ answer_size key.length key.layers → joined ds ≡ take (32 * n) (drop 49 bytes)
    → All IsWhole ds → 49 + 32 * n ≤ length bytes → IsFirst f bytes (Proof key ds) (49 + 32 * n)
found_proof f bytes key ds n kind is shape spelled count digests whole inside =
    let size : length (joined ds) ≡ 32 * n = ap length digests ∙ omega (arith, length-take (32 * n) (drop 49 bytes), length-drop 49 bytes) in
    let as_many : length ds ≡ n = omega (arith, size, joined_length ds whole) in
    let front : take 49 bytes ≡ 80 ∷ key_spelling key = take-add 1 48 bytes ∙ ap (λ xs. xs ++ take 48 (drop 1 bytes)) kind ∙ ap (λ xs. 80 ∷ xs) (sym spelled) in
    record {
      is_hint = record { readable = (shape, as_many ∙ count); typed = (is, whole) };
      size = omega (arith, size, length-append (key_spelling key) (joined ds), key_size key is);
      spelled = take-add 49 (32 * n) bytes ∙ ap (λ xs. xs ++ take (32 * n) (drop 49 bytes)) front ∙ ap (λ xs. 80 ∷ (key_spelling key ++ xs)) (sym digests);
    }

-- ---- reading a run

-- The bytes of a run whose first block and count are those of none.
pub no_run : (bytes : List ℕ) (first count : ℕ) → take 1 bytes ≢ 80 ∷ [] → first < 2 ^ 32 → count < 2 ^ 32
    → to_be_bytes w32 first ≡ take 4 (drop 5 bytes) → to_be_bytes w32 count ≡ take 4 (drop 9 bytes) → ¬ IsRun first count → BeginsNoHint Two bytes
no_run bytes first count kind first-fits count-fits first-is count-is none (Proof k ds) rest hint e = absurd (kind (ap (λ xs. take 1 xs) e))
no_run bytes first count kind first-fits count-fits first-is count-is none (Marks i b n) rest hint e =
    let same : first ≡ b = same_number first b first-fits hint.typed.1 (first-is ∙ ap (λ xs. take 4 (drop 5 xs)) e) in
    let as_many : count ≡ n = same_number count n count-fits hint.typed.2 (count-is ∙ ap (λ xs. take 4 (drop 9 xs)) e) in
    absurd (none (record { some = omega (arith, hint.readable.some, as_many); within = omega (arith, hint.readable.within, same, as_many) }))
