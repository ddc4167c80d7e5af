-- A list or a dictionary in the bytes, part by part.
use Rattle.bt_bencode.proofs.Base.{◌≡◌, ◌≢◌, ℕ, suc, ◌+◌, ◌-◌, ◌<◌, ◌⊎◌, List, [], ◌∷◌, ◌++◌, length, take, drop, get_or, refl, sym, ap, ◌∙◌, arith, Some, unwrap_or, IsTrue, ◌↔◌, Vec, nat_cmp, is_lt, slice_cmp, take_more, take_all, Data, list, dictionary, data_of, items_of, entries_of, Fault, key_order, too_deep, StringStops, Stops, last_key_of, EndsBefore, at_max_nesting, in_item, in_key, at_key, in_value, Spans, FaultFrom, ReadsValue, ReadsString, Value}
use Rattle.bt_bencode.specs.Spelling.{items_spelling, entries_spelling}
use Rattle.bt_bencode.specs.Doc.{nesting_of, HasAscendingKeys, HasSmallIntegers, IsCanonicalWithin}
use Rattle.bt_bencode.proofs.ValueData.{items_spelling-push, entries_spelling-push}
use Rattle.bt_bencode.proofs.ReadRanges.{drop_first, drop_byte, spans_byte, spans_join}
use Rattle.bt_bencode.proofs.ReadingLaws.{less_decides}

list-push : {n : ℕ} (vs : List Value) (v : Value) → 0 < n → IsCanonicalWithin n (list (items_of vs)) → IsCanonicalWithin (n - 1) (data_of v)
    → IsCanonicalWithin n (list (items_of (vs ++ v ∷ [])))
unfolding nesting_of HasAscendingKeys HasSmallIntegers
list-push [] v some so_far here = record { nesting = omega (arith, here.nesting); keys = (here.keys, tt); integers = (here.integers, tt) }
list-push (w ∷ vs) v some so_far here =
    let rest = list-push vs v some (record { nesting = omega (arith, so_far.nesting); keys = so_far.keys.1; integers = so_far.integers.1 }) here in
    record { nesting = omega (arith, so_far.nesting, rest.nesting); keys = (so_far.keys.0, rest.keys); integers = (so_far.integers.0, rest.integers) }

dictionary-push : {n : ℕ} (es : List (Vec ℕ × Value)) (e : Vec ℕ × Value) → 0 < n → IsCanonicalWithin n (dictionary (entries_of es))
    → EndsBefore (entries_of es) e.0.items → IsCanonicalWithin (n - 1) (data_of e.1) → IsCanonicalWithin n (dictionary (entries_of (es ++ e ∷ [])))
unfolding nesting_of HasAscendingKeys HasSmallIntegers
dictionary-push [] e some so_far last here =
    record { nesting = omega (arith, here.nesting); keys = (tt, here.keys, tt); integers = (here.integers, tt) }
dictionary-push (f ∷ []) e some so_far last here =
    record {
      nesting = omega (arith, here.nesting, so_far.nesting);
      keys = (last, so_far.keys.1, (tt, here.keys, tt));
      integers = (so_far.integers.0, (here.integers, tt));
    }
dictionary-push (f ∷ g ∷ es) e some so_far last here =
    let rest = dictionary-push (g ∷ es) e some
    (record { nesting = omega (arith, so_far.nesting); keys = so_far.keys.2; integers = so_far.integers.1 }) last here in
    record {
      nesting = omega (arith, so_far.nesting, rest.nesting);
      keys = (so_far.keys.0, so_far.keys.1, rest.keys);
      integers = (so_far.integers.0, rest.integers);
    }

-- the parts so far, with the byte that begins them
pub record PartsTo (n : ℕ) (bytes : List ℕ) (at next : ℕ) (text : List ℕ) (d : Data) : Type 0 where
  pub spans : Spans bytes at next text
  pub canonical : IsCanonicalWithin n d

abbrev pub ItemsTo : ℕ → List ℕ → ℕ → ℕ → List Value → Type 0
ItemsTo n bytes at next vs = PartsTo n bytes at next (108 ∷ items_spelling (items_of vs)) (list (items_of vs))

abbrev pub EntriesTo : ℕ → List ℕ → ℕ → ℕ → List (Vec ℕ × Value) → Type 0
EntriesTo n bytes at next es = PartsTo n bytes at next (100 ∷ entries_spelling (entries_of es)) (dictionary (entries_of es))

module _ (n : ℕ) (bytes : List ℕ) (at : ℕ) where
  pub too_deep_at : {opening : ℕ} → n ≡ 0 → at < length bytes → get_or bytes at 0 ≡ opening → (opening ≡ 108) ⊎ (opening ≡ 100)
      → FaultFrom (Stops n) bytes at too_deep at
  too_deep_at {opening} none lt first which =
      (omega arith, rw (none, drop_byte _ at lt first) (at_max_nesting opening (drop (at + 1) bytes) which))

  pub begun : 0 < n → at < length bytes
      → (get_or bytes at 0 ≡ 108 → ItemsTo n bytes at (at + 1) []) × (get_or bytes at 0 ≡ 100 → EntriesTo n bytes at (at + 1) [])
  unfolding items_spelling entries_spelling nesting_of HasAscendingKeys HasSmallIntegers
  begun some lt = (
    λ first. record { spans = spans_byte lt first; canonical = record { nesting = omega arith; keys = tt; integers = tt } },
    λ first. record { spans = spans_byte lt first; canonical = record { nesting = omega arith; keys = tt; integers = tt } },
  )

  module _ (next : ℕ) where
    pub list_more : (vs : List Value) {ws : _} (v : Value) {end : ℕ} → 0 < n → ItemsTo n bytes at next vs → ReadsValue (n - 1) bytes next end (data_of v)
        → ws ≡ vs ++ v ∷ [] → ItemsTo n bytes at end ws
    list_more vs v some so_far read is = rw (is, items_spelling-push vs v) (record {
      spans = spans_join so_far.spans read.spans;
      canonical = list-push vs v some so_far.canonical read.canonical;
    })

    pub dictionary_more : (es : List (Vec ℕ × Value)) {fs : _} (key : Vec ℕ) (v : Value) {colon end : ℕ} → 0 < n → EntriesTo n bytes at next es
        → ReadsString bytes next colon key.items → EndsBefore (entries_of es) key.items → ReadsValue (n - 1) bytes colon end (data_of v)
        → fs ≡ es ++ (key, v) ∷ [] → EntriesTo n bytes at end fs
    dictionary_more es key v some so_far string last read is = rw (is, entries_spelling-push es (key, v)) (record {
      spans = spans_join so_far.spans (spans_join string read.spans);
      canonical = dictionary-push es (key, v) some so_far.canonical last read.canonical;
    })

-- what stops a reading after the parts so far
module _ {n : ℕ} (bytes : List ℕ) (at next : ℕ) (deep : n ≡ suc (n - 1)) where
  parts_stop : {text d f rest : _} → PartsTo n bytes at next text d
      → (IsCanonicalWithin (suc (n - 1)) d → Stops (suc (n - 1)) (text ++ drop next bytes) f rest) → Stops n (drop at bytes) f rest
  parts_stop so_far stops = rw (← so_far.spans.spelled, deep) (stops (rw deep at so_far.canonical))

  pub list_stops : (vs : List Value) → ItemsTo n bytes at next vs → get_or bytes next 0 ≢ 101 → (f : Fault) (rest : List ℕ)
      → Stops (n - 1) (drop next bytes) f rest → Stops n (drop at bytes) f rest
  list_stops vs so_far going f rest stops =
      parts_stop so_far (λ canonical. in_item (n - 1) (items_of vs) _ f rest canonical (rw (drop_first next bytes) going) stops)

  module _ (es : List (Vec ℕ × Value)) (so_far : EntriesTo n bytes at next es) where
    pub key_stops : get_or bytes next 0 ≢ 101 → (f : Fault) (rest : List ℕ) → StringStops (drop next bytes) f rest → Stops n (drop at bytes) f rest
    key_stops going f rest stops =
        parts_stop so_far (λ canonical. in_key (n - 1) (entries_of es) _ f rest canonical (rw (drop_first next bytes) going) stops)

    module _ (key : List ℕ) (colon : ℕ) (string : ReadsString bytes next colon key) where
      pub order_stops : ¬ EndsBefore (entries_of es) key → FaultFrom (Stops n) bytes at key_order next
      order_stops order = (
        so_far.spans.inside,
        parts_stop so_far (λ canonical. rw (← string.spelled) (at_key (n - 1) (entries_of es) key (drop colon bytes) canonical order)),
      )

      pub value_stops : EndsBefore (entries_of es) key → (f : Fault) (rest : List ℕ) → Stops (n - 1) (drop colon bytes) f rest
          → Stops n (drop at bytes) f rest
      value_stops order f rest stops = parts_stop so_far
          (λ canonical. rw (← string.spelled) (in_value (n - 1) (entries_of es) key (drop colon bytes) f rest canonical order stops))

last_key-push : (es : List (Vec ℕ × Value)) (e : Vec ℕ × Value) → last_key_of (entries_of (es ++ e ∷ [])) ≡ Some e.0.items
last_key-push [] e = refl
last_key-push (f ∷ es) e = ap (λ k. Some (unwrap_or k f.0.items)) (last_key-push es e)

-- whether a key may follow, by the last of the entries
pub last_decides : (es : List (Vec ℕ × Value)) {e : _} (key : List ℕ) → 0 < length es → e ≡ get_or es (length es - 1) e
    → IsTrue (is_lt (slice_cmp nat_cmp e.0.items key)) ↔ EndsBefore (entries_of es) key
last_decides es {e} key some is =
    let whole : length es - 1 + 1 ≡ length es = omega arith in
    let parts : es ≡ take (length es - 1) es ++ e ∷ [] =
    sym (ap (λ x. take (length es - 1) es ++ x ∷ []) is ∙ sym (take_more _ _ e (omega arith)) ∙ ap (λ k. take k es) whole
    ∙ take_all _ _ (omega arith)) in
    let last : last_key_of (entries_of es) ≡ Some e.0.items = ap (λ xs. last_key_of (entries_of xs)) parts ∙ last_key-push _ e in
    rw last (less_decides _)
