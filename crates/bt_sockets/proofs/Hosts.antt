-- The text of a host that writes an IP address: no such address begins with a bracket.
use Rattle.std.proofs.Common.{◌≡◌, ◌≢◌, ◌<◌, ◌≤◌, ℕ, Bool, true, false, Bor, Option, Some, None, MatchOption, List, [], ◌∷◌, ◌++◌, length, take, drop, get_or, decimal, refl, sym, ◌∙◌, ap, subst, arith, inl, inr, append_assoc, length-append}
use Rattle.std.proofs.lemmas.Bool.{false≢true}
use Rattle.std.proofs.lemmas.Fmt.{decimal_is_IsNumeral}
use Rattle.std.proofs.lemmas.List.{take_at}
use Rattle.std.specs.Prelude.{codes}
use Rattle.std.specs.Char.{digit_value}
use Rattle.std.specs.Str.Parse.{IsNumeral}
use Rattle.std.specs.declared.net.ip_addr.IpAddr.{IpAddr}
use Rattle.std.specs.declared.net.ip_addr.IpAddr.TheVariants as Ip
use Rattle.std.specs.declared.net.ipv6_addr.Ipv6Addr.{Ipv6Addr}
use Rattle.std.specs.Net.Grammar.{IsDotted, IsGroups, IsColonHex, IsIpv6Text, IsIpText}
use Rattle.bt_sockets.specs.StreamSteps.{bracketed, Writes, IsTextOf}

-- a bracket is no digit
digit : (radix c : ℕ) → radix ≤ 36 → digit_value c < radix → c ≡ 91 → ⊥
digit radix c few is same =
    let bracket : digit_value 91 < radix = subst (λ (n : ℕ). digit_value n < radix) same is in
    omega (arith, bracket, few)

number : (radix : ℕ) (digits rest xs : List ℕ) → radix ≤ 36 → IsNumeral radix digits → digits ++ rest ≡ 91 ∷ xs → ⊥
number radix [] rest xs few is_number same = omega (arith, is_number.0)
number radix (c ∷ digits) rest xs few is_number same = digit radix c few is_number.1.0 (ap (λ (l : List ℕ). get_or l 0 0) same)

numbers : (one two three four xs : List ℕ) → IsNumeral 10 one → one ++ codes "." ++ two ++ codes "." ++ three ++ codes "." ++ four ≡ 91 ∷ xs → ⊥
numbers [] two three four xs is_number same = omega (arith, is_number.0)
numbers (c ∷ one) two three four xs is_number same =
    digit 10 c (omega arith) is_number.1.0 (ap (λ (l : List ℕ). get_or l 0 0) same)

dotted : (text octets xs : List ℕ) → IsDotted text octets → text ≡ 91 ∷ xs → ⊥
dotted text octets xs is_dotted same =
    numbers (decimal is_dotted.a) (decimal is_dotted.b) (decimal is_dotted.c) (decimal is_dotted.d) xs
    (decimal_is_IsNumeral is_dotted.a (omega (arith, is_dotted.fit.0))).0 (sym is_dotted.spelled ∙ same)

groups : (ipv4 : Bool) (text segments xs : List ℕ) → 0 < length segments → IsGroups ipv4 text segments → text ≡ 91 ∷ xs → ⊥
groups ipv4 text [] xs some are_groups same = omega (arith, some)
groups ipv4 text (s ∷ segments) xs some (inl g) same = number 16 g.0 g.1 xs (omega arith) g.3.0.0 (sym g.2 ∙ same)
groups ipv4 text (s ∷ segments) xs some (inr g) same = dotted g.0 g.1 xs g.4 (sym g.3 ∙ same)

before_colon : (segments text rest xs : List ℕ) → IsGroups false text segments → get_or rest 0 0 ≡ 58 → text ++ rest ≡ 91 ∷ xs → ⊥
before_colon [] text rest xs none colon same =
    let first : get_or rest 0 0 ≡ 91 = ap (λ (l : List ℕ). get_or l 0 0) (subst (λ (t : List ℕ). t ++ rest ≡ 91 ∷ xs) none same) in
    omega (arith, colon, first)
before_colon (s ∷ segments) text rest xs (inl g) colon same =
    let split : text ++ rest ≡ g.0 ++ (g.1 ++ rest) = ap (λ (t : List ℕ). t ++ rest) g.2 ∙ append_assoc g.0 g.1 rest in
    number 16 g.0 (g.1 ++ rest) xs (omega arith) g.3.0.0 (sym split ∙ same)
before_colon (s ∷ segments) text rest xs (inr g) colon same = false≢true g.2

colon_hex : (text segments xs : List ℕ) → IsColonHex text segments → text ≡ 91 ∷ xs → ⊥
colon_hex text segments xs (inl whole) same = groups true text segments xs (omega (arith, whole.1)) whole.0 same
colon_hex text segments xs (inr elided) same =
    let split = sym (append_assoc elided.head_text (codes "::") elided.tail_text) ∙ sym elided.spelled in
    before_colon elided.head elided.head_text (codes "::" ++ elided.tail_text) xs elided.head_groups refl (split ∙ same)

same_inside : (one other : List ℕ) → bracketed one ≡ bracketed other → one ≡ other
same_inside one other same =
    let inside : one ++ 93 ∷ [] ≡ other ++ 93 ∷ [] = ap (λ (l : List ℕ). drop 1 l) same in
    let size : length one ≡ length other
    = omega (arith, length-append one (93 ∷ []), length-append other (93 ∷ []), ap length inside) in
    sym (take_at one (93 ∷ []) (length one) refl) ∙ ap (λ (l : List ℕ). take (length one) l) inside ∙ take_at other (93 ∷ []) (length one) (sym size)

pub text_is : (host text written : List ℕ) (ip : IpAddr) → IsTextOf host text → Writes host written ip → text ≡ written
text_is host text written (Ip.V4 a) (inl b) w = absurd (dotted written _ (text ++ 93 ∷ []) w.0 (sym w.1 ∙ b.2))
text_is host text written (Ip.V4 a) (inr b) w = b.1 ∙ w.1
text_is host text written (Ip.V6 a) (inl b) (spelled, inl plain) = absurd (colon_hex written _ (text ++ 93 ∷ []) spelled (sym plain ∙ b.2))
text_is host text written (Ip.V6 a) (inl b) (spelled, inr inside) = same_inside text written (sym b.2 ∙ inside)
text_is host text written (Ip.V6 a) (inr b) (spelled, inl plain) = b.1 ∙ plain
text_is host text written (Ip.V6 a) (inr b) (spelled, inr inside) = absurd (b.0 written a spelled inside)

pub spells : (host written : List ℕ) (ip : IpAddr) → Writes host written ip → IsIpText written ip
spells host written (Ip.V4 a) w = w.0
spells host written (Ip.V6 a) w = w.0

-- ---- how the code finds it

pub not_begun : (host : List ℕ) → ((rest : List ℕ) → host ≢ 91 ∷ rest) → (text : List ℕ) → host ≢ bracketed text
not_begun host none text same = none (text ++ 93 ∷ []) same

pub inside : (host behind : List ℕ) (r : Option (Bor (List ℕ))) → host ≡ 91 ∷ behind
    → MatchOption r ((front : List ℕ) → behind ≢ front ++ 93 ∷ []) (λ x. behind ≡ x.now ++ 93 ∷ [])
    → MatchOption r ((text : List ℕ) → host ≢ bracketed text) (λ x. host ≡ bracketed x.now)
inside host behind None begun none = λ text same. none text (ap (λ (l : List ℕ). drop 1 l) (sym begun ∙ same))
inside host behind (Some x) begun ended = begun ∙ ap (λ (l : List ℕ). 91 ∷ l) ended

pub no_address : (host text : List ℕ) → host ≡ bracketed text → ((a : Ipv6Addr) → ¬ (IsIpv6Text text a)) → IsTextOf host host
no_address host text same none =
    inr (
      λ inner a spelled inner_same.
          none a (subst (λ (t : List ℕ). IsIpv6Text t a) (same_inside inner text (sym inner_same ∙ same)) spelled),
      refl,
    )
