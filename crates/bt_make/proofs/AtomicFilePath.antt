-- Lemmas on the path of a file beside another.
use Rattle.std.proofs.Common.{◌≡◌, ℕ, ◌++◌, List, codes, take, drop, sym, subst, ◌∙◌, ap, arith}
use Rattle.std.proofs.lemmas.List.{take-append-drop, append_assoc}
use Rattle.std.proofs.lemmas.Str.Pattern.{drop_at_char}
use Rattle.std.specs.Str.Pattern.{HasCharAt}
use Rattle.bt_make.specs.AtomicFileSteps.{IsSibling, IsFileName, in_folder}

pub sibling_in : (path name : List ℕ) (i j : ℕ) (folder text : List ℕ) → folder ≡ take i path → HasCharAt 47 path i j → IsFileName (drop j path)
    → text ≡ folder ++ (codes "/" ++ name) → IsSibling path name text
sibling_in path name i j folder text front slash last same =
    let rest : drop i path ≡ codes "/" ++ drop j path = drop_at_char 47 path i j slash (omega arith) in
    let joined : path ≡ folder ++ codes "/" ++ drop j path =
    sym (take-append-drop i path) ∙ ap (λ l. take i path ++ l) rest ∙ ap (λ l. l ++ (codes "/" ++ drop j path)) (sym front)
    ∙ sym (append_assoc folder (codes "/") (drop j path)) in
    subst (IsSibling path name) (sym (same ∙ sym (append_assoc folder (codes "/") name))) (in_folder folder (drop j path) joined last)
