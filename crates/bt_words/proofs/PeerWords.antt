-- Lemmas on words that name peers.
use Rattle.std.proofs.Common.{◌≡◌, ◌≢◌, ℕ, ◌+◌, ◌<◌, ◌==◌, ◌++◌, take, drop, map, zero, suc, take-append-drop, List, [], ◌∷◌, length, get_or, Option, None, Some, IfNone, refl, sym, ap, subst, ◌∙◌, arith, length-append}
use Rattle.std.proofs.Math.Seq.{get_or-append_seam}
use Rattle.std.proofs.lemmas.Str.Parse.{digit_at}
use Rattle.std.proofs.lemmas.Str.Pattern.{NoCharPasses-char, drop_at_char}
use Rattle.std.proofs.lemmas.List.{map-append, take_more}
use Rattle.std.specs.Borrow.{Bor}
use Rattle.std.specs.List.{AllZip}
use Rattle.std.specs.Str.{NoCharPasses}
use Rattle.std.specs.Str.Pattern.{HasCharAt}
use Rattle.bt_words.specs.Values.{IsNumber, IsPeerWord}
use Rattle.bt_words.specs.declared.peer.Peer.{Peer}

pub none_always : {A : Type 0} (r : Option A) (P : Type 0) → P → IfNone r P
none_always None P p = p
none_always (Some x) P p = tt

-- no byte is a colon
abbrev pub HasNoColon : List ℕ → Type 0
HasNoColon text = (i : ℕ) → i < length text → get_or text i 0 ≢ 58

pub digits_have_none : (digits : List ℕ) (n : ℕ) → IsNumber 16 digits n → HasNoColon digits
digits_have_none digits n is = λ i below colon. let digit = digit_at digits i is.digits.1 below in absurd (omega (arith, digit.0, digit.1, colon))

pub has_one : (text front back : List ℕ) → text ≡ front ++ 58 ∷ back → ¬ HasNoColon text
has_one text front back spelled none =
    let long : length text ≡ length front + length (58 ∷ back) = ap length spelled ∙ length-append front (58 ∷ back) in
    let here : get_or text (length front) 0 ≡ 58 = ap (λ t. get_or t (length front) 0) spelled ∙ get_or-append_seam front 58 back 0 in
    none (length front) (omega arith) here

-- a word has one last colon
pub same_parts : (a x b y : List ℕ) → a ++ 58 ∷ x ≡ b ++ 58 ∷ y → HasNoColon x → HasNoColon y → (a ≡ b) × (x ≡ y)
same_parts [] x [] y e none_x none_y = let tails : x ≡ y = cc in (refl, tails)
same_parts [] x (d ∷ b) y e none_x none_y = let tails : x ≡ b ++ 58 ∷ y = cc in absurd (has_one x b y tails none_x)
same_parts (c ∷ a) x [] y e none_x none_y = let tails : y ≡ a ++ 58 ∷ x = cc in absurd (has_one y a x tails none_y)
same_parts (c ∷ a) x (d ∷ b) y e none_x none_y =
    let heads : c ≡ d = cc in
    let tails : a ++ 58 ∷ x ≡ b ++ 58 ∷ y = cc in
    let rest = same_parts a x b y tails none_x none_y in
    (ap (λ h. h ∷ a) heads ∙ ap (λ t. d ∷ t) rest.0, rest.1)

pub no_colon : (word : List ℕ) → HasNoColon word → (peer : Peer) → ¬ IsPeerWord word peer
no_colon word none peer is = has_one word peer.host.now is.digits is.spelled none

pub no_host : (word host digits : List ℕ) → word ≡ host ++ 58 ∷ digits → HasNoColon digits → host ≡ [] → (peer : Peer) → ¬ IsPeerWord word peer
no_host word host digits spelled none empty peer is =
    let same = same_parts host digits peer.host.now is.digits (sym spelled ∙ is.spelled) none (digits_have_none is.digits peer.port is.port) in
    is.named (sym same.0 ∙ empty)

pub no_port : (word host digits : List ℕ) → word ≡ host ++ 58 ∷ digits → HasNoColon digits → ((n : ℕ) → ¬ IsNumber 16 digits n) → (peer : Peer)
    → ¬ IsPeerWord word peer
no_port word host digits spelled lacks none peer is =
    let same = same_parts host digits peer.host.now is.digits (sym spelled ∙ is.spelled) lacks (digits_have_none is.digits peer.port is.port) in
    none peer.port (subst (λ t. IsNumber 16 t peer.port) (sym same.1) is.port)

-- what `rsplit_once` says of a word, by its bytes
pub cut_at : (word host digits : List ℕ) (i j : ℕ) → NoCharPasses (λ d. d == 58) (drop j word) → HasCharAt 58 word i j → host ≡ take i word
    → digits ≡ drop j word → (word ≡ host ++ 58 ∷ digits) × HasNoColon digits
cut_at word host digits i j none at front back = (
  sym (take-append-drop i word) ∙ ap (λ t. take i word ++ t) (drop_at_char 58 word i j at (omega arith)) ∙ ap (λ t. take i word ++ 58 ∷ t) (sym back)
      ∙ ap (λ t. t ++ 58 ∷ digits) (sym front),
  λ k below. NoCharPasses-char 58 digits k (subst (NoCharPasses (λ d. d == 58)) (sym back) none) (omega arith) below,
)

pub uncut : (word : List ℕ) → NoCharPasses (λ d. d == 58) word → HasNoColon word
uncut word none = λ k below. NoCharPasses-char 58 word k none (omega arith) below

-- ---- several words

zip_more : {A B : Type 0} (R : A → B → Type 0) (xs : List A) (ys : List B) (x : A) (y : B) → AllZip R xs ys → R x y → AllZip R (xs ++ x ∷ []) (ys ++ y ∷ [])
zip_more R [] [] x y all is = (is, tt)
zip_more R [] (b ∷ ys) x y all is = absurd all
zip_more R (a ∷ xs) [] x y all is = absurd all
zip_more R (a ∷ xs) (b ∷ ys) x y all is = (all.0, zip_more R xs ys x y all.1 is)

-- one word more names one peer more
pub peers_more : (words : List (Bor (List ℕ))) (peers : List Peer) (i : ℕ) (d : Bor (List ℕ)) (peer : Peer) → i < length words
    → AllZip IsPeerWord (map (λ word. word.now) (take i words)) peers → IsPeerWord (get_or words i d).now peer
    → AllZip IsPeerWord (map (λ word. word.now) (take (i + 1) words)) (peers ++ peer ∷ [])
peers_more words peers i d peer below all is =
    rw (take_more words i d below, map-append (λ (word : Bor (List ℕ)). word.now) (take i words) (get_or words i d ∷ []))
    (zip_more IsPeerWord (map (λ word. word.now) (take i words)) peers (get_or words i d).now peer all is)

-- a word that names none leaves no peers
pub no_peers : (words : List (Bor (List ℕ))) (i : ℕ) (d : Bor (List ℕ)) → i < length words → ((peer : Peer) → ¬ IsPeerWord (get_or words i d).now peer)
    → (peers : List Peer) → ¬ AllZip IsPeerWord (map (λ word. word.now) words) peers
no_peers [] i d below none peers all = absurd (omega arith)
no_peers (w ∷ words) i d below none [] all = all
no_peers (w ∷ words) zero d below none (p ∷ peers) all = none p all.0
no_peers (w ∷ words) (suc i) d below none (p ∷ peers) all = no_peers words i d (omega arith) none peers all.1
