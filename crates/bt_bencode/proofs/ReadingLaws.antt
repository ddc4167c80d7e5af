-- A reading of values, step by step: the text alone determines what it gives. So what stops a reading stops it once,
-- and only where no canonical value begins, and a text begins with one value at most.
use Rattle.bt_bencode.proofs.Base.{◌≡◌, ◌≢◌, ℕ, zero, suc, ◌^◌, ◌<◌, ◌≤◌, Bool, true, false, List, [], ◌∷◌, ◌++◌, length, get_or, drop, refl, ap, arith, append_assoc, length-append, ◌+◌, inl, inr, take, sym, ◌∙◌, subst, length-drop, IsTrue, if◌then◌else◌, Option, None, Some, IfSome, unwrap_or, IsAsciiDigit, is_ascii_digit, nat_cmp, is_lt, slice_cmp, eqb, ne_eqb, Data, integer, string, list, dictionary, Items, no_items, item, Entries, no_entries, entry, string_spelling, items_spelling, entries_spelling, Fault, truncated, bad_byte, key_order, too_deep, trailing, Decides, take-append_seam, append-nil, NumeralStops, last_key_of, EndsBefore, StringStops, in_length, in_bytes, Stops, in_integer, out_of_range, in_string, at_max_nesting, in_item, in_key, at_key, in_value, IsFirstFault, in_the_value, behind_the_value, IsValueEnd}
use Rattle.bt_bencode.specs.Spelling.{spelling_of}
use Rattle.bt_bencode.specs.Doc.{IsBefore, first_key_of, nesting_of, items_nesting, entries_nesting, HasAscendingKeys, ItemsHaveAscendingKeys, EntriesAscend, HasSmallIntegers, IsCanonicalWithin}
use Rattle.bt_bencode.specs.Law.{IsRepresentable, ItemsAreRepresentable, EntriesAreRepresentable, NoProperPrefix, BeginsOnce, FirstFaultIsOne, FirstFaultRefuses}
use Rattle.bt_bencode.proofs.Representable.{string_is_longer, representable, items_representable, entries_representable}
use Rattle.bt_bencode.proofs.Reading.{Outcome, read, stopped, after, digit_decides, read_string, string_read, read_integer, integer_read, string_digit, denied, integer_stops, range_stops, string_stops}
use Rattle.std.specs.declared.cmp.Ordering.{Ordering}
use Rattle.std.specs.declared.cmp.Ordering.TheVariants.{Less, Equal, Greater}
use Rattle.bt_bencode.specs.Number.{at_end as numeral_at_end}
use Rattle.bt_bencode.specs.Reader.{at_end, at_other}

-- what is to be read: a value of nesting at most n, or the rest of a list or a dictionary, and what is done with it
pub data Job : Type 0 where
  final : Data → Job
  value : ℕ → (Data → Job) → Job
  items : ℕ → (Items → Job) → Job
  entries : ℕ → Option (List ℕ) → (Entries → Job) → Job

-- the reading is over, or another job goes on with the rest
pub data Next : Type 0 where
  ends : Outcome Data → Next
  on : Job → List ℕ → Next

abbrev halt : Fault → List ℕ → Next
halt f rest = ends (stopped f rest)

-- a list or a dictionary, where one may begin
abbrev pub opened : ℕ → (ℕ → Job) → List ℕ → Next
opened zero inside text = halt too_deep text
opened (suc n) inside text = on (inside n) (drop 1 text)

-- whether the key may stand after the one before, where keys have to ascend
abbrev pub may_follow : Bool → Option (List ℕ) → List ℕ → Bool
may_follow false before key = true
may_follow true None key = true
may_follow true (Some last) key = is_lt (slice_cmp nat_cmp last key)

abbrev pub step : Bool → Job → List ℕ → Next
step ordered (final d) text = ends (read d text)
step ordered (value n next) text =
    if eqb (get_or text 0 0) 105 then after (read_integer (drop 1 text)) halt (λ z rest. on (next (integer z)) rest)
    else if eqb (get_or text 0 0) 108 then opened n (λ m. items m (λ ds. next (list ds))) text
    else if eqb (get_or text 0 0) 100 then opened n (λ m. entries m None (λ es. next (dictionary es))) text
    else if is_ascii_digit (get_or text 0 0) then after (read_string text) halt (λ s rest. on (next (string s)) rest)
    else if eqb (length text) 0 then halt truncated text else halt bad_byte text
step ordered (items n next) text =
    if eqb (get_or text 0 0) 101 then on (next no_items) (drop 1 text) else on (value n (λ d. items n (λ ds. next (item d ds)))) text
step ordered (entries n before next) text =
    if eqb (get_or text 0 0) 101 then on (next no_entries) (drop 1 text)
    else after (read_string text) halt (λ key rest. if may_follow ordered before key
    then on (value n (λ d. entries n (Some key) (λ es. next (entry key d es)))) rest else halt key_order text)

-- the steps from here end with this outcome
pub data Gives (ordered : Bool) (o : Outcome Data) : Next → Type 0 where
  there : (p : Outcome Data) → p ≡ o → Gives ordered o (ends p)
  onward : (job : Job) (text : List ℕ) → Gives ordered o (step ordered job text) → Gives ordered o (on job text)

pub gives_once : {ordered o p next : _} → Gives ordered o next → Gives ordered p next → o ≡ p
gives_once (there q is) (there q' is') = cc
gives_once (onward job text a) (onward job' text' b) = gives_once a b

pub go : {ordered o job text : _} → Gives ordered o (step ordered job text) → Gives ordered o (on job text)
go {job = job} {text = text} later = onward job text later

pub string_begins : (ordered : Bool) (n : ℕ) (next : Data → Job) (text : List ℕ) → IsAsciiDigit (get_or text 0 0)
    → step ordered (value n next) text ≡ after (read_string text) halt (λ s rest. on (next (string s)) rest)
string_begins ordered n next text digit = rw (
  ne_eqb (get_or text 0 0) 105 (λ is. omega (arith, digit.1)),
  ne_eqb (get_or text 0 0) 108 (λ is. omega (arith, digit.1)),
  ne_eqb (get_or text 0 0) 100 (λ is. omega (arith, digit.1)),
  (digit_decides _).1 digit,
) refl

-- the last key of the entries, or the one before where there are none
abbrev pub last_from : Option (List ℕ) → Entries → Option (List ℕ)
last_from before no_entries = before
last_from before (entry key d es) = last_from (Some key) es

-- the key stands after the one before
abbrev pub Follows : Option (List ℕ) → List ℕ → Type 0
Follows before key = IfSome before (λ last. IsBefore last key)

follows_read : (ordered : Bool) (before : Option (List ℕ)) (key : List ℕ) → (IsTrue ordered → Follows before key) → IsTrue (may_follow ordered before key)
follows_read false before key follows = refl
follows_read true None key follows = refl
follows_read true (Some last) key follows = ap is_lt (follows refl)

pub first_of_all : (es : Entries) → IfSome (first_key_of es) (Follows None)
first_of_all no_entries = tt
first_of_all (entry key d es) = tt

-- neither a value nor a key begins with e
pub no_e : (s rest : List ℕ) → length s < 2 ^ 64 → get_or (string_spelling s ++ rest) 0 0 ≢ 101
no_e s rest fits is = omega (arith, is, (string_digit s rest fits).1)

no_end : (d : Data) (rest : List ℕ) → IsRepresentable d → get_or (spelling_of d ++ rest) 0 0 ≢ 101
unfolding spelling_of IsRepresentable
no_end (string s) rest fits = no_e s rest fits
no_end _ rest fits = λ is. omega (arith, is)

module _ (ordered : Bool) (o : Outcome Data) where
  mutual
    unfolding spelling_of nesting_of HasAscendingKeys IsRepresentable

    pub value_read : (d : Data) (n : ℕ) {next : Data → Job} {rest : List ℕ} → nesting_of d ≤ n → (IsTrue ordered → HasAscendingKeys d)
        → IsRepresentable d → Gives ordered o (on (next d) rest) → Gives ordered o (on (value n next) (spelling_of d ++ rest))
    value_read (integer z) n deep keys fits later = go (rw (append_assoc _ _ _, integer_read z fits) later)
    value_read (string s) n deep keys fits later =
        go (rw (string_begins _ _ _ _ (string_digit s _ fits), string_read fits) later)
    value_read (list ds) zero deep keys fits later = absurd (omega arith)
    value_read (list ds) (suc n) deep keys fits later =
        go (rw (append_assoc _ _ _) (items_read ds _ (omega arith) keys fits (λ onto is. go (rw is later))))
    value_read (dictionary es) zero deep keys fits later = absurd (omega arith)
    value_read (dictionary es) (suc n) deep keys fits later =
        go (rw (append_assoc _ _ _) (entries_read es _ (omega arith) keys (λ is. first_of_all es) fits
        (λ onto is. go (rw is later))))

    pub items_read : (ds : Items) {n : ℕ} {next : Items → Job} (rest : List ℕ) → items_nesting ds ≤ n
        → (IsTrue ordered → ItemsHaveAscendingKeys ds) → ItemsAreRepresentable ds
        → ((onto : Items → Job) → onto no_items ≡ next ds → Gives ordered o (on (items n onto) rest))
        → Gives ordered o (on (items n next) (items_spelling ds ++ rest))
    items_read no_items {next} rest deep keys fits later = later next refl
    items_read (item d ds) {n} rest deep keys fits later =
        go (rw (append_assoc (spelling_of d) (items_spelling ds) rest, ne_eqb _ 101 (no_end d (items_spelling ds ++ rest) fits.0))
        (value_read d n (omega arith) (λ is. (keys is).0) fits.0 (items_read ds rest (omega arith) (λ is. (keys is).1) fits.1 later)))

    pub entries_read : (es : Entries) {n : ℕ} {before : Option (List ℕ)} {next : Entries → Job} (rest : List ℕ) → entries_nesting es ≤ n
        → (IsTrue ordered → EntriesAscend es) → (IsTrue ordered → IfSome (first_key_of es) (Follows before)) → EntriesAreRepresentable es
        → ((onto : Entries → Job) → onto no_entries ≡ next es → Gives ordered o (on (entries n (last_from before es) onto) rest))
        → Gives ordered o (on (entries n before next) (entries_spelling es ++ rest))
    entries_read no_entries {next} rest deep keys follows fits later = later next refl
    entries_read (entry key d es) {n} {before} rest deep keys follows fits later =
        let more = spelling_of d ++ (entries_spelling es ++ rest) in
        go (rw (
          append_assoc (string_spelling key ++ spelling_of d) (entries_spelling es) rest,
          append_assoc (string_spelling key) (spelling_of d) (entries_spelling es ++ rest),
          ne_eqb _ 101 (no_e key more fits.0),
          string_read fits.0,
          follows_read ordered before key follows,
        ) (value_read d n (omega arith) (λ is. (keys is).1) fits.1
        (entries_read es rest (omega arith) (λ is. (keys is).2) (λ is. (keys is).0) fits.2 later)))

pub less_decides : (o : Ordering) → Decides (is_lt o) (o ≡ Less)
less_decides Less = (λ _. refl, λ _. refl)
less_decides Equal = (λ is. cc, λ is. cc)
less_decides Greater = (λ is. cc, λ is. cc)

last_from_some : (key : List ℕ) (es : Entries) → last_from (Some key) es ≡ Some (unwrap_or (last_key_of es) key)
last_from_some key no_entries = refl
last_from_some key (entry other d es) = last_from_some other es

follow_decides : (es : Entries) (key : List ℕ) → Decides (may_follow true (last_from None es) key) (EndsBefore es key)
follow_decides no_entries key = (λ _. tt, λ _. refl)
follow_decides (entry k d es) key = rw (last_from_some k es) (less_decides _)

-- what is read after whole entries
dictionary_read : {n next es : _} (more : List ℕ) {o : _} → IsCanonicalWithin (suc n) (dictionary es)
    → length (entries_spelling es ++ more) < 2 ^ 64
    → ((onto : Entries → Job) → Gives true o (on (entries n (last_from None es) onto) more))
    → Gives true o (on (value (suc n) next) (100 ∷ (entries_spelling es ++ more)))
unfolding nesting_of HasAscendingKeys HasSmallIntegers
dictionary_read {es} more {o} canonical short later = go (entries_read true o es more (omega (arith, canonical.nesting))
    (λ _. canonical.keys) (λ _. first_of_all es)
    (entries_representable es canonical.integers (omega (arith, length-append (entries_spelling es) more))) (λ onto is. later onto))

-- the lengths of a key and of what comes after it
key_short : (done : Entries) (key more : List ℕ) → length (entries_spelling done ++ (string_spelling key ++ more)) < 2 ^ 64
    → (length key < 2 ^ 64) × (length more < 2 ^ 64)
key_short done key more short =
    let outer = length-append (entries_spelling done) (string_spelling key ++ more) in
    let inner = length-append (string_spelling key) more in
    (omega (arith, outer, inner, string_is_longer key), omega (arith, outer, inner))

stops_given : {n next text f rest : _} → length text < 2 ^ 64 → Stops n text f rest
    → Gives true (stopped f rest) (on (value n next) text)
unfolding nesting_of HasAscendingKeys HasSmallIntegers
stops_given short (at_end n) = go (there _ refl)
stops_given short (at_other n t some i l d digit) =
    go (rw (ne_eqb _ 105 i, ne_eqb _ 108 l, ne_eqb _ 100 d, denied _ (digit_decides _) digit, ne_eqb (length t) 0 (omega arith)) (there _ refl))
stops_given short (in_integer n negative more f rest whole stops) =
    go (rw (integer_stops whole stops) (there _ refl))
stops_given short (out_of_range n negative ds more numeral no_lead out) =
    go (rw (range_stops _ _ _ numeral no_lead out) (there _ refl))
stops_given {next} short (in_string n t f rest digit stops) =
    go (rw (string_begins true n next t digit, string_stops stops) (there _ refl))
stops_given short (at_max_nesting opening more (inl is)) = go (rw is (there _ refl))
stops_given short (at_max_nesting opening more (inr is)) = go (rw is (there _ refl))
stops_given short (in_item n done more f rest canonical going stops) =
    let parts = length-append (items_spelling done) more in
    go (items_read true _ done more (omega (arith, canonical.nesting)) (λ _. canonical.keys)
    (items_representable done canonical.integers (omega (arith, parts)))
    (λ onto is. go (rw (ne_eqb _ 101 going) (stops_given (omega (arith, parts)) stops))))
stops_given short (in_key n done more f rest canonical going stops) =
    dictionary_read more canonical (omega arith) (λ onto. go (rw (ne_eqb _ 101 going, string_stops stops) (there _ refl)))
stops_given short (at_key n done key more canonical order) =
    let fits = key_short done key more (omega arith) in
    dictionary_read _ canonical (omega arith) (λ onto. go (rw (
      ne_eqb _ 101 (no_e key more fits.0),
      string_read fits.0,
      denied _ (follow_decides done key) order,
    ) (there _ refl)))
stops_given short (in_value n done key more f rest canonical order stops) =
    let fits = key_short done key more (omega arith) in
    dictionary_read _ canonical (omega arith) (λ onto. go (rw (
      ne_eqb _ 101 (no_e key more fits.0),
      string_read fits.0,
      (follow_decides done key).1 order,
    ) (stops_given fits.1 stops)))

-- a canonical value of nesting at most n begins a text that fits memory
canonical_given : {n d more text : _} → length text < 2 ^ 64 → IsCanonicalWithin n d → spelling_of d ++ more ≡ text
    → Gives true (read d more) (on (value n final) text)
canonical_given {n} {d} {more} short canonical spelled =
    let fits = representable d canonical.integers (omega (arith, length-append (spelling_of d) more, ap length spelled)) in
    subst (λ t. Gives true (read d more) (on (value n final) t)) spelled
    (value_read true _ d n canonical.nesting (λ _. canonical.keys) fits (go (there _ refl)))

same_spelling : {d e x y : _} → IsRepresentable d → IsRepresentable e → spelling_of d ++ x ≡ spelling_of e ++ y → (d ≡ e) × (x ≡ y)
same_spelling {d} {e} {y} p q spelled =
    let n = nesting_of d + nesting_of e in
    let same = gives_once (value_read false _ d n (omega arith) (λ is. cc) p (go (there _ refl)))
    (subst (λ t. Gives false (read e y) (on (value n final) t)) (sym spelled)
    (value_read false _ e n (omega arith) (λ is. cc) q (go (there _ refl)))) in
    (cc, cc)

pub no_proper_prefix : NoProperPrefix
no_proper_prefix d e rest fits fits' h = (same_spelling fits fits' (h ∙ sym (append-nil _))).1

pub begins_once : BeginsOnce
begins_once d e rest more fits fits' h = (same_spelling fits fits' h).0

-- nothing is left where the input ends too early, and bytes after the value stop no reading of the value
abbrev EndsOrStays : Fault → List ℕ → Type 0
EndsOrStays truncated rest = rest ≡ []
EndsOrStays trailing rest = ⊥
EndsOrStays _ rest = Unit {0}

numeral_fault : {negative stop text f rest : _} → NumeralStops negative stop text f rest → EndsOrStays f rest
numeral_fault (numeral_at_end digits no_lead) = refl
numeral_fault _ = tt

string_fault : {text f rest : _} → StringStops text f rest → EndsOrStays f rest
string_fault (in_length f rest stops) = numeral_fault stops
string_fault (in_bytes ds more parts numeral no_lead short) = refl

value_fault : {n text f rest : _} → Stops n text f rest → EndsOrStays f rest
value_fault (at_end n) = refl
value_fault (in_integer n negative more f rest whole stops) = numeral_fault stops
value_fault (in_string n t f rest digit stops) = string_fault stops
value_fault (in_item n done more f rest canonical going stops) = value_fault stops
value_fault (in_key n done more f rest canonical going stops) = string_fault stops
value_fault (in_value n done key more f rest canonical order stops) = value_fault stops
value_fault _ = tt

pub truncated_at_end : {bytes : _} (f : Fault) (offset : ℕ) → IsFirstFault bytes f offset → f ≡ truncated → offset ≡ length bytes
truncated_at_end {bytes} _ _ (in_the_value f offset inside stops) is =
    let none : drop offset bytes ≡ [] = rw is at (value_fault stops) in
    omega (arith, ap length none, length-drop offset bytes)
truncated_at_end _ _ (behind_the_value e offset canonical lt spelled) is = cc

pub trailing_behind_value : {bytes : _} (f : Fault) (offset : ℕ) → IsFirstFault bytes f offset → f ≡ trailing → IsValueEnd bytes offset
trailing_behind_value _ _ (in_the_value f offset inside stops) is = absurd (rw is at (value_fault stops))
trailing_behind_value {bytes} _ _ (behind_the_value e offset canonical lt spelled) is =
    let size : length (spelling_of e) ≡ offset =
    omega (arith, ap length spelled, length-append (spelling_of e) (drop offset bytes), length-drop offset bytes) in
    record {
      value = e;
      canonical = canonical;
      spelled = sym (take-append_seam _ _) ∙ ap (λ t. take (length (spelling_of e)) t) spelled ∙ ap (λ k. take k bytes) size;
      followed = lt;
    }

-- the fault that an outcome is of all the bytes, and which of them are left
abbrev fault_of : Outcome Data → Fault × List ℕ
fault_of (read d rest) = (trailing, rest)
fault_of (stopped f rest) = (f, rest)

-- what a reading of the bytes gives where they have this first fault
given : {bytes f offset : _} → length bytes < 2 ^ 64 → IsFirstFault bytes f offset
    → (o : Outcome Data) × Gives true o (on (value 128 final) bytes) × (fault_of o ≡ (f, drop offset bytes)) × (offset ≤ length bytes)
given {bytes} short (in_the_value f offset inside stops) = (stopped f (drop offset bytes), stops_given short stops, refl, inside)
given {bytes} short (behind_the_value d offset canonical lt spelled) =
    (read d (drop offset bytes), canonical_given short canonical spelled, refl, omega arith)

pub first_fault_is_one : FirstFaultIsOne
first_fault_is_one bytes f g n m short a b =
    let one = given short a in
    let other = given short b in
    let same = sym one.2 ∙ ap fault_of (gives_once one.1 other.1) ∙ other.2 in
    (ap (λ p. p.0) same, omega (arith, one.3, other.3, ap (λ p. length p.1) same, length-drop n bytes, length-drop m bytes))

-- a fault refuses every canonical value
pub none_spells : FirstFaultRefuses
none_spells bytes f offset short fault d canonical is =
    let one = given short fault in
    let whole = canonical_given short canonical (append-nil _ ∙ is) in
    let same = sym one.2 ∙ ap fault_of (gives_once one.1 whole) in
    omega (arith, (trailing_behind_value f offset fault (ap (λ p. p.0) same)).followed, ap (λ p. length p.1) same, length-drop offset bytes)
