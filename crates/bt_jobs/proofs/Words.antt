-- The words of a command, one after the other.
use Rattle.std.proofs.Common.{◌≡◌, ℕ, List, [], ◌∷◌, ◌++◌, ap, ◌∙◌, append_assoc}

pub words_joined : (check part which line input dir : List ℕ) (info w0 w1 w2 w3 w4 w5 w6 w7 : List (List ℕ)) → w0 ≡ [] → w1 ≡ w0 ++ check ∷ []
    → w2 ≡ w1 ++ part ∷ [] → w3 ≡ w2 ++ which ∷ [] → w4 ≡ w3 ++ info → w5 ≡ w4 ++ line ∷ [] → w6 ≡ w5 ++ input ∷ [] → w7 ≡ w6 ++ dir ∷ []
    → w7 ≡ check ∷ part ∷ which ∷ (info ++ (line ∷ input ∷ dir ∷ []))
words_joined check part which line input dir info w0 w1 w2 w3 w4 w5 w6 w7 e0 e1 e2 e3 e4 e5 e6 e7 =
    let three : w3 ≡ check ∷ part ∷ which ∷ [] =
    e3 ∙ ap (λ l. l ++ which ∷ []) (e2 ∙ ap (λ l. l ++ part ∷ []) (e1 ∙ ap (λ l. l ++ check ∷ []) e0)) in
    let four : w4 ≡ check ∷ part ∷ which ∷ info = e4 ∙ ap (λ l. l ++ info) three in
    e7 ∙ ap (λ l. l ++ dir ∷ []) (e6 ∙ ap (λ l. l ++ input ∷ []) (e5 ∙ ap (λ l. l ++ line ∷ []) four))
    ∙ ap (λ l. check ∷ part ∷ which ∷ l) (append_assoc (info ++ line ∷ []) (input ∷ []) (dir ∷ []) ∙ append_assoc info (line ∷ []) (input ∷ dir ∷ []))
