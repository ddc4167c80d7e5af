-- Facts of lists.
use Rattle.bt_meta.proofs.Base.{◌≡◌, Bool, true, false, List, [], ◌∷◌, ◌++◌, suc, arith, inl, inr, map, filter, cases_Bool, All, AllPairs, list_any, or_parts, All-nil, All-cons, All-head, All-tail, All-append, AllPairs-cons}

module _ {A : Type 0} (P : A → Type 0) where
  pub All-front : (xs ys : List A) → All P (xs ++ ys) → All P xs
  All-front [] ys h = All-nil P
  All-front (x ∷ xs) ys h = All-cons P x _ (All-head P x _ h) (All-front xs ys (All-tail P x _ h))

  pub All-back : (xs ys : List A) → All P (xs ++ ys) → All P ys
  All-back [] ys h = h
  All-back (x ∷ xs) ys h = All-back xs ys (All-tail P x _ h)

pub none_of : {A : Type 0} (test : A → Bool) (xs : List A) → list_any test xs ≡ false → All (λ x. test x ≡ false) xs
none_of test [] h = All-nil (λ x. test x ≡ false)
none_of test (x ∷ xs) h = let p = or_parts _ _ h in All-cons (λ y. test y ≡ false) x _ p.0 (none_of test xs p.1)

module _ {A B : Type 0} (test : B → Bool) (f : A → B) where
  pub none_mapped : (xs : List A) → list_any test (map f xs) ≡ false → All (λ x. test (f x) ≡ false) xs
  none_mapped [] h = All-nil (λ x. test (f x) ≡ false)
  none_mapped (x ∷ xs) h = let p = or_parts _ _ h in All-cons (λ y. test (f y) ≡ false) x _ p.0 (none_mapped xs p.1)

  -- so of those that are kept
  pub none_kept : (keep : A → Bool) (xs : List A) → list_any test (map f (filter keep xs)) ≡ false → All (λ x. keep x ≡ true → test (f x) ≡ false) xs
  none_kept keep [] h = All-nil (λ x. keep x ≡ true → test (f x) ≡ false)
  none_kept keep (x ∷ xs) h = elim (cases_Bool (keep x)) [
    | inl kept ↦ let p = or_parts _ _ (rw kept at h) in All-cons (λ y. keep y ≡ true → test (f y) ≡ false) x _ (λ k. p.0) (none_kept keep xs p.1)
    | inr out ↦ All-cons (λ y. keep y ≡ true → test (f y) ≡ false) x _ (λ k. cc) (none_kept keep xs (rw out at h))
  ]

pub pairs_append : {A : Type 0} (R : A → A → Type 0) (xs ys : List A) → AllPairs R xs → AllPairs R ys → All (λ x. All (R x) ys) xs → AllPairs R (xs ++ ys)
pairs_append R [] ys h k cross = k
pairs_append R (x ∷ xs) ys h k cross =
    AllPairs-cons R x _
    (All-append (R x) xs ys (λ i d within. h 0 (suc i) d (omega arith) (omega arith)) (All-head (λ z. All (R z) ys) x _ cross))
    (pairs_append R xs ys (λ i j d lt within. h (suc i) (suc j) d (omega arith) (omega arith)) k (All-tail (λ z. All (R z) ys) x _ cross))
