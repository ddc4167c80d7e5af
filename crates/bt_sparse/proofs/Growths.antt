-- Claimed nodes are put into a tree.
use Rattle.std.proofs.Common.{◌≡◌, ◌≢◌, ℕ, ◌+◌, ◌*◌, ◌/◌, ◌%◌, ◌<◌, ◌≤◌, ◌↔◌, inl, inr, IsTrue, Bool, true, false, cond, List, [], length, take, get_or, Option, Some, None, refl, sym, ap, ◌∙◌, arith}
use mir.Val.{bool_byte}
use Rattle.std.specs.FinMap as finite
use Rattle.std.specs.List.{All}
use Rattle.std.specs.Option.{is_some}
use Rattle.std.proofs.lemmas.Bool.{cases_lt, false≢true}
use Rattle.std.proofs.lemmas.List.Elements.{All-nil, All-more, All-weaker}
use Rattle.bt_tree.specs.TreeShape.{real_width}
use Rattle.bt_sparse.specs.declared.claim.Claim.{Claim}
use Rattle.bt_sparse.specs.declared.expansion.ClaimedPair.{ClaimedPair}
use Rattle.bt_sparse.specs.Page.{page_length}
use Rattle.bt_sparse.specs.LayerPages.{table_length}
use Rattle.bt_sparse.specs.NodeMap.{Nodes, digest_at, Layers, HasPlace, KeepsPlaces}
use Rattle.bt_sparse.specs.Claim.{Claims}
use Rattle.bt_sparse.specs.ExpansionSteps.{IsPairOf}
use Rattle.bt_sparse.specs.AcceptanceSteps.{IsPut, IsAdded, AgreesAt, IsGrown, IsGrownBy, HasPlaces}
use Rattle.bt_sparse.proofs.NodeMaps.{node_total, digest_at_new, digest_at_cases, digest_at_kept}
use Rattle.bt_sparse.proofs.Claims.{one_digest}

put_size : (old : Nodes) (layer i : ℕ) (d : List ℕ) (is_new : Bool) → (IsTrue is_new ↔ (digest_at old layer i ≡ None))
    → finite.len (finite.insert old (layer, i) d) ≡ finite.len old + bool_byte is_new
put_size old layer i d true h = finite.len-insert node_total old (layer, i) d ∙ rw (h.0 refl) refl
put_size old layer i d false h = finite.len-insert node_total old (layer, i) d ∙ go (digest_at old layer i) (λ e. false≢true (h.1 e))
  where
    go : (o : Option (List ℕ)) → o ≢ None → cond (is_some o) (finite.len old) (finite.len old + 1) ≡ finite.len old + 0
    go None e = absurd (e refl)
    go (Some v) e = omega arith

one_bit : (b : Bool) → bool_byte b ≤ 1
one_bit true = omega arith
one_bit false = omega arith

pub put_real : (n layer i : ℕ) (d : List ℕ) (old new : Nodes) (is_new : Bool) (count : ℕ) → i < real_width n layer → length d ≡ 32
    → (IsTrue is_new ↔ (digest_at old layer i ≡ None)) → new ≡ finite.insert old (layer, i) d → count ≡ bool_byte is_new → IsPut n layer i d old new count
put_real n layer i d old new is_new count real size h e k = record {
  length_is = size;
  covers = λ _. e;
  past = λ le. absurd (omega arith);
  size_is = rw (e, k) (put_size old layer i d is_new h);
  one = rw k (one_bit is_new);
}

-- what one digest adds
pub record IsOneMore (dig : List ℕ → List ℕ) (c : Claim) (n layer i : ℕ) (d : List ℕ) (start old new : Nodes) (count more : ℕ) : Type 0 where
  pub grown : IsGrown dig c n start new (count + more)
  pub here : i < real_width n layer → digest_at new layer i ≡ Some d
  pub kept : (l j : ℕ) (e : List ℕ) → digest_at old l j ≡ Some e → digest_at new l j ≡ Some e

one_more : {dig : List ℕ → List ℕ} {c : Claim} {n layer i : ℕ} {d : List ℕ} {start old new : Nodes} {count more : ℕ} → AgreesAt dig start c
    → IsGrown dig c n start old count → Claims dig c layer i d → IsPut n layer i d old new more → IsOneMore dig c n layer i d start old new count more
one_more {n = n} {layer = layer} {i = i} {d = d} {old = old} agrees h claim put = elim (cases_lt i (real_width n layer)) [
  | inl real ↦
      let one : (f : List ℕ) → digest_at old layer i ≡ Some f → f ≡ d = λ f at. elim (h.only layer i f at) [
        | inl was ↦ agrees layer i d f claim was
        | inr came ↦ one_digest came.0 claim
      ] in
      let stays : (l j : ℕ) (f : List ℕ) → digest_at old l j ≡ Some f → digest_at (finite.insert old (layer, i) d) l j ≡ Some f =
      λ l j f at. digest_at_kept old layer i l j d f (λ p q. one f (rw (sym p, sym q) at)) at in
      let size = put.size_is in
      rw (put.covers real) record {
        grown = record {
          kept = λ l j f was. stays l j f (h.kept l j f was);
          only = λ l j f at. elim (digest_at_cases old layer i l j d f at) [
            | inl is ↦ inr (rw (is.0, is.1, is.2) claim, rw (is.0, is.1) real)
            | inr was ↦ h.only l j f was
          ];
          sizes = λ all l j f at. elim (digest_at_cases old layer i l j d f at) [ inl is ↦ ap length is.2 ∙ put.length_is | inr was ↦ h.sizes all l j f was ];
          size_is = omega (arith, h.size_is, size, ap finite.len (put.covers real));
        };
        here = λ _. digest_at_new old layer i d;
        kept = stays;
      }
  | inr past ↦ rw (put.past past) record {
    grown = record { kept = h.kept; only = h.only; sizes = h.sizes; size_is = omega (arith, h.size_is, put.size_is, ap finite.len (put.past past)) };
    here = λ real. absurd (omega arith);
    kept = λ l j f at. at;
  }
]

-- nothing is added yet
pub none_more : {dig : List ℕ → List ℕ} {c : Claim} {n : ℕ} {start : Nodes} → IsGrownBy dig c n start start 0 []
none_more {n = n} {start = start} = record {
  grown = record { kept = λ l j f was. was; only = λ l j f at. inl at; sizes = λ all. all; size_is = omega arith };
  added = All-nil (IsAdded n start);
}

-- a pair is added
pub pair_more : {dig : List ℕ → List ℕ} {c : Claim} {n : ℕ} {start old mid new : Nodes} {count a b : ℕ} (pairs : List ClaimedPair) (i : ℕ) (d : ClaimedPair)
    → i < length pairs → All (IsPairOf dig c) pairs → AgreesAt dig start c → IsGrownBy dig c n start old count (take i pairs)
    → IsPut n (get_or pairs i d).layer (2 * (get_or pairs i d).index) (get_or pairs i d).left old mid a
    → IsPut n (get_or pairs i d).layer (2 * (get_or pairs i d).index + 1) (get_or pairs i d).right mid new b
    → IsGrownBy dig c n start new (count + a + b) (take (i + 1) pairs)
pair_more {n = n} {old = old} {new = new} pairs i d lt all agrees h left right =
    let claimed = all i d lt in
    let first = one_more agrees h.grown claimed.left left in
    let second = one_more agrees first.grown claimed.right right in
    record {
      grown = second.grown;
      added = All-more (IsAdded n new) pairs i d lt
          (All-weaker (IsAdded n old) (IsAdded n new) (λ q was. record {
            left = λ real. second.kept _ _ _ (first.kept _ _ _ (was.left real));
            right = λ real. second.kept _ _ _ (first.kept _ _ _ (was.right real));
          }) (take i pairs) h.added)
          record { left = λ real. second.kept _ _ _ (first.here real); right = second.here };
    }

-- ---- the pages of a claim's nodes
pub place_stays : (old new : Layers) (layer i : ℕ) → KeepsPlaces old new → HasPlace old layer i → HasPlace new layer i
place_stays old new layer i kept h = omega (arith, kept layer (i / table_length) (i % table_length / page_length), h)

-- a page with places for the left node of one more pair and all others of its layer has them for the pair
pub places_more : (n : ℕ) (old new : Layers) (pairs : List ClaimedPair) (i : ℕ) (d : ClaimedPair) → i < length pairs → KeepsPlaces old new
    → All (HasPlaces n old) (take i pairs) → (let p = get_or pairs i d in 2 * p.index < real_width n p.layer
    → (j : ℕ) → j / page_length ≡ 2 * p.index / page_length → j < real_width n p.layer → HasPlace new p.layer j)
    → All (HasPlaces n new) (take (i + 1) pairs)
places_more n old new pairs i d lt kept all here = All-more (HasPlaces n new) pairs i d lt (All-weaker (HasPlaces n old) (HasPlaces n new) (λ p was. record {
  left = λ real. place_stays old new p.layer (2 * p.index) kept (was.left real);
  right = λ real. place_stays old new p.layer (2 * p.index + 1) kept (was.right real);
}) (take i pairs) all) record { left = λ real. here real _ refl real; right = λ real. here (omega arith) _ (omega arith) real }
