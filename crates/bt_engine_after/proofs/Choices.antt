-- Who is served, by the keys of the peers that are chosen and by the machine.
use Rattle.bt_machine.proofs.Base.{[], inl, inr, ◌≡◌, ℕ, ◌==◌, Bool, true, false, List, ◌∷◌, Contains, refl, sym, ap, ◌∙◌, eqb-true, eq-eqb, PeerKey}
use Rattle.std.specs.List.{list_any}
use Rattle.bt_book.specs.Choking.{IsChoice, HaveOwnKeys, is_chosen}
use Rattle.bt_book.specs.declared.choking.Standing.{Standing}
use Rattle.bt_book.proofs.Ranks.{same_peer, same_standing}
use Rattle.bt_machine.proofs.Lists.{contains_none, contains_cases, here, later}

-- a key is among others
abbrev is_among : PeerKey → List PeerKey → Bool
is_among key keys = list_any (λ k. k.0 == key.0) keys

among_then : (key k : PeerKey) (keys : List PeerKey) (b : Bool) → (k.0 == key.0) ≡ b → is_among key keys ≡ true → is_among key (k ∷ keys) ≡ true
among_then key k keys true is more = rw is refl
among_then key k keys false is more = rw is more

is_among_true : (key : PeerKey) (keys : List PeerKey) → Contains keys key → is_among key keys ≡ true
is_among_true key [] c = absurd (contains_none c)
is_among_true key (k ∷ keys) c = elim (contains_cases keys c) [
  | inl same ↦ rw (eq-eqb k.0 key.0 (ap (λ (x : PeerKey). x.0) same)) refl
  | inr more ↦ among_then key k keys (k.0 == key.0) refl (is_among_true key keys more)
]

contains_by : (key k : PeerKey) (keys : List PeerKey) (b : Bool) → (k.0 == key.0) ≡ b → is_among key (k ∷ keys) ≡ true
    → (is_among key keys ≡ true → Contains keys key) → Contains (k ∷ keys) key
contains_by key k keys true is e rest = here keys (same_peer k key (eqb-true k.0 key.0 is))
contains_by key k keys false is e rest = later k keys (rest (rw is at e))

is_contained : (key : PeerKey) (keys : List PeerKey) → is_among key keys ≡ true → Contains keys key
is_contained key [] e = absurd cc
is_contained key (k ∷ keys) e = contains_by key k keys (k.0 == key.0) refl e (is_contained key keys)

-- the keys are those of the chosen peers
module _ (standings : List Standing) (turn : ℕ) (keys : List PeerKey) (own : HaveOwnKeys standings) (choice : IsChoice standings turn keys) (s : Standing)
    (listed : Contains standings s) where
  chosen_then : is_among s.peer keys ≡ true → is_chosen standings turn s ≡ true
  chosen_then e =
      let t = choice.only s.peer (is_contained s.peer keys e) in
      let same = same_standing standings t.0 s own t.1 listed (ap (λ (k : PeerKey). k.0) t.2) in
      ap (is_chosen standings turn) (sym same) ∙ t.3

  same_choice : (among chosen : Bool) → is_among s.peer keys ≡ among → is_chosen standings turn s ≡ chosen → is_among s.peer keys ≡ is_chosen standings turn s
  same_choice true chosen a c = a ∙ sym (chosen_then a)
  same_choice false true a c = is_among_true s.peer keys (choice.all s listed c) ∙ sym c
  same_choice false false a c = a ∙ sym c

  pub is_same : is_among s.peer keys ≡ is_chosen standings turn s
  is_same = same_choice (is_among s.peer keys) (is_chosen standings turn s) refl refl
