-- Reads of the one block or the two that a span lies in.
use Rattle.bt_machine.proofs.Base.{◌≡◌, ◌≢◌, ℕ, ◌+◌, ◌-◌, ◌*◌, ◌/◌, ◌%◌, ◌≤◌, ◌⊎◌, inl, inr, List, [], ◌∷◌, ◌++◌, length, take, drop, map, flat_map, Option, Some, None, Ok, Err, refl, sym, ap, ◌∙◌, subst, arith, slice_set, Contains, cond, nat_eq, range_with_len, append-nil, All, IsPlace, Span, Facts, BlockRead, given, failed, call_of, IsRight, BlockState, Missing, block_length, Metainfo, IsLawfulFile, eq-eqb, take-append-add, length-take-le, take-take}
use Rattle.std.specs.Prelude.{IfSome}
use Rattle.std.proofs.lemmas.Bool.{ne_eqb, cases_eq}
use Rattle.std.proofs.lemmas.List.Elements.{All-get_or}
use Rattle.std.proofs.lemmas.Slice.{take-put_mid}
use borrow.Rule.Slice.PartMut.{put_mid, mid_of, mid_len}
use Rattle.bt_tree.specs.Limits.{max_file_length}
use Rattle.bt_disk.specs.Calls.{HasCalls}
use Rattle.bt_disk.proofs.CallLists.{has_then}
use Rattle.bt_store.specs.FileStore.{StoreView}
use Rattle.bt_store.specs.SingleBlock.{Lends, right, damaged as lent_damaged, fault as lent_fault, IsLent}
use Rattle.bt_store.specs.declared.error.ReadError.TheVariants.{Damaged as ReadDamaged, Device as ReadDevice}
use Rattle.bt_machine.proofs.Lists.{contains_none, contains_cases, here, later}
use Rattle.bt_engine_messages.specs.declared.serving.ReadFault.{ReadFault}
use Rattle.bt_engine_messages.specs.declared.serving.ReadFault.TheVariants.{Damaged, Device}
use Rattle.bt_machine.specs.Spans.{spanned_blocks, first_block, last_block}
use Rattle.bt_engine_messages.specs.SpansSteps.{IsShortSpan}
use Rattle.bt_engine_messages.specs.ServingSteps.{one_or_two, IsReadRight, IsReadWrong, AreReadRight, StopAtFault, Finds, damaged, fault, SendsSpan}
use Rattle.bt_disk.specs.Conduct.{Conduct}

-- ---- what a read of a marked block comes to

lends_right : {dig : List ℕ → List ℕ} {k : Facts} {i : ℕ} {out : List ℕ} {states : List BlockState} {reads : List BlockRead} {n : ℕ} {new : List BlockState}
    → Lends dig k i out states reads (Ok n) new
    → (reads ≡ given i (take n out) ∷ []) × (new ≡ states) × IsRight dig k i (take n out) × (n ≡ block_length k.file_length i)
lends_right (right n marked whole r) = (refl, refl, r, whole)

lends_damaged : {dig : List ℕ → List ℕ} {k : Facts} {i : ℕ} {out : List ℕ} {states : List BlockState} {reads : List BlockRead} {new : List BlockState}
    → Lends dig k i out states reads (Err ReadDamaged) new
    → (bytes : List ℕ) × (reads ≡ given i bytes ∷ []) × (new ≡ slice_set states i Missing) × ¬ IsRight dig k i bytes
lends_damaged (lent_damaged bytes marked wrong) = (bytes, refl, refl, wrong)

lends_fault : {dig : List ℕ → List ℕ} {k : Facts} {i : ℕ} {out : List ℕ} {states : List BlockState} {reads : List BlockRead} {new : List BlockState}
    → Lends dig k i out states reads (Err ReadDevice) new → (reads ≡ failed i ∷ []) × (new ≡ states)
lends_fault (lent_fault marked) = (refl, refl)

abbrev view_of : {D : Type 0} → ℕ → D → List BlockState → StoreView D
view_of size disk states = record { file_length = size; disk = disk; states = states }

others_stay : {D : Type 0} (old new : StoreView D) → new.file_length ≡ old.file_length → new.states ≡ old.states
    → new ≡ record old { disk = new.disk }
others_stay old new size states =
    ap (λ n. view_of n new.disk new.states) size ∙ ap (λ s. view_of old.file_length new.disk s) states

pub one_is : (a b : ℕ) → a ≡ b → one_or_two a b ≡ a ∷ []
one_is a b e = ap (λ t. cond t (a ∷ []) (a ∷ b ∷ [])) (eq-eqb a b e)

pub two_is : (a b : ℕ) → a ≢ b → one_or_two a b ≡ a ∷ b ∷ []
two_is a b apart = ap (λ t. cond t (a ∷ []) (a ∷ b ∷ [])) (ne_eqb a b apart)

one_element : (P : ℕ → Type 0) (a : ℕ) → P a → (i : ℕ) → Contains (a ∷ []) i → P i
one_element P a x i c = elim (contains_cases [] c) [ inl same ↦ subst P same x | inr none ↦ absurd (contains_none none) ]

-- the bytes of two blocks
abbrev either : ℕ → List ℕ → List ℕ → ℕ → List ℕ
either a x y i = cond (nat_eq i a) x y

same_calls : {D : Type 0} {conduct : Conduct D} (n : ℕ) (old new : StoreView D) {reads : List BlockRead} (read : BlockRead)
    → n ≡ old.file_length → reads ≡ read ∷ [] → HasCalls conduct old.disk (map (call_of old.file_length) reads) new.disk
    → HasCalls conduct old.disk (call_of n read ∷ []) new.disk
same_calls {conduct = conduct} n old new read size e calls =
    subst (λ n. HasCalls conduct old.disk (call_of n read ∷ []) new.disk) (sym size)
    (subst (λ rs. HasCalls conduct old.disk (map (call_of old.file_length) rs) new.disk) e calls)

module _ {D : Type 0} {conduct : Conduct D} {dig : List ℕ → List ℕ} {k : Facts} where
  pub read_right : {i n : ℕ} {out : List ℕ} {old new : StoreView D} → k.file_length ≡ old.file_length
      → (reads : List BlockRead) × IsLent conduct dig k i out old reads (Ok n) new
      → IsReadRight conduct dig k i (take n out) old new
  read_right {i} {n} {out} {old} {new} size l =
      let a = lends_right l.1.answer in
      record {
        calls = same_calls k.file_length old new (given i (take n out)) size a.0 l.1.calls;
        right = a.2;
        others = others_stay old new l.1.same_file a.1;
      }

  pub read_damaged : {i : ℕ} {out : List ℕ} {old new : StoreView D} → k.file_length ≡ old.file_length
      → (reads : List BlockRead) × IsLent conduct dig k i out old reads (Err ReadDamaged) new
      → IsReadWrong conduct dig k i (Damaged i) old new
  read_damaged {i} {out} {old} {new} size l =
      let a = lends_damaged l.1.answer in
      record {
        read = given i a.0;
        calls = same_calls k.file_length old new (given i a.0) size a.1 l.1.calls;
        finds = damaged a.0 refl a.3 refl a.2;
        same_file = l.1.same_file;
      }

  pub read_failed : {i : ℕ} {out : List ℕ} {old new : StoreView D} → k.file_length ≡ old.file_length
      → (reads : List BlockRead) × IsLent conduct dig k i out old reads (Err ReadDevice) new
      → IsReadWrong conduct dig k i Device old new
  read_failed {i} {out} {old} {new} size l =
      let a = lends_fault l.1.answer in
      record {
        read = failed i;
        calls = same_calls k.file_length old new (failed i) size a.0 l.1.calls;
        finds = fault refl refl a.1;
        same_file = l.1.same_file;
      }

  -- ---- the one block or the two that stand between a first and a last

  pub one_block : {a : ℕ} {bytes : List ℕ} {old new : StoreView D} (b : ℕ) → a ≡ b → IsReadRight conduct dig k a bytes old new
      → AreReadRight conduct dig k (one_or_two a b) bytes old new
  one_block {a} {bytes} {old} {new} b same r = subst (λ l. AreReadRight conduct dig k l bytes old new) (sym (one_is a b same)) (record {
    bytes = λ _. bytes;
    reads = given a bytes ∷ [];
    calls = r.calls;
    right = record { made = refl; right = one_element (λ i. IsRight dig k i bytes) a r.right };
    together = sym (append-nil bytes);
    others = r.others;
  })

  pub two_blocks : {a b : ℕ} {x y : List ℕ} {old mid new : StoreView D} → a ≢ b
      → IsReadRight conduct dig k a x old mid → IsReadRight conduct dig k b y mid new
      → AreReadRight conduct dig k (one_or_two a b) (x ++ y) old new
  two_blocks {a} {b} {x} {y} {old} {mid} {new} apart r s =
      let on_a : either a x y a ≡ x = ap (λ t. cond t x y) (eq-eqb a a refl) in
      let on_b : either a x y b ≡ y = ap (λ t. cond t x y) (ne_eqb b a (λ e. apart (sym e))) in
      subst (λ l. AreReadRight conduct dig k l (x ++ y) old new) (sym (two_is a b apart)) (record {
        bytes = either a x y;
        reads = given a x ∷ given b y ∷ [];
        calls = has_then conduct old.disk mid.disk new.disk (call_of k.file_length (given a x) ∷ []) (call_of k.file_length (given b y) ∷ []) r.calls s.calls;
        right = record {
          made = ap (λ l. given a l ∷ given b y ∷ []) (sym on_a) ∙ ap (λ l. given a (either a x y a) ∷ given b l ∷ []) (sym on_b);
          right = λ i c. elim (contains_cases (b ∷ []) c) [
            | inl same ↦ subst (λ i. IsRight dig k i (either a x y i)) same (subst (λ l. IsRight dig k a l) (sym on_a) r.right)
            | inr more ↦ one_element (λ i. IsRight dig k i (either a x y i)) b (subst (λ l. IsRight dig k b l) (sym on_b) s.right) i more
          ];
        };
        together = ap (λ l. x ++ l) (sym (append-nil y)) ∙ ap (λ l. l ++ (y ++ [])) (sym on_a) ∙ ap (λ l. either a x y a ++ (l ++ [])) (sym on_b);
        others = s.others ∙ ap (λ (v : StoreView D). view_of v.file_length new.disk v.states) r.others;
      })

  pub first_fails : {a : ℕ} {found : ReadFault} {old new : StoreView D} (b : ℕ) → IsReadWrong conduct dig k a found old new
      → StopAtFault conduct dig k (one_or_two a b) found old new
  first_fails {a} {found} {old} {new} b r = elim (cases_eq a b) [
    | inl same ↦ subst (λ l. StopAtFault conduct dig k l found old new) (sym (one_is a b same)) (wrong [])
    | inr apart ↦ subst (λ l. StopAtFault conduct dig k l found old new) (sym (two_is a b apart)) (wrong (b ∷ []))
  ]
    where
      wrong : (rest : List ℕ) → StopAtFault conduct dig k (a ∷ rest) found old new
      wrong rest = record {
        before = [];
        block = a;
        after = rest;
        bytes = λ _. [];
        reads = [];
        read = r.read;
        parts = refl;
        right = record { made = refl; right = λ i c. absurd (contains_none c) };
        calls = r.calls;
        finds = r.finds;
        same_file = r.same_file;
      }

  pub second_fails : {a b : ℕ} {x : List ℕ} {found : ReadFault} {old mid new : StoreView D} → a ≢ b
      → IsReadRight conduct dig k a x old mid → IsReadWrong conduct dig k b found mid new
      → StopAtFault conduct dig k (one_or_two a b) found old new
  second_fails {a} {b} {x} {found} {old} {mid} {new} apart r s =
      subst (λ l. StopAtFault conduct dig k l found old new) (sym (two_is a b apart)) (record {
        before = a ∷ [];
        block = b;
        after = [];
        bytes = λ _. x;
        reads = given a x ∷ [];
        read = s.read;
        parts = refl;
        right = record { made = refl; right = one_element (λ i. IsRight dig k i x) a r.right };
        calls = has_then conduct old.disk mid.disk new.disk (call_of k.file_length (given a x) ∷ []) (call_of k.file_length s.read ∷ []) r.calls s.calls;
        finds = subst (λ states. Finds dig k b s.read found states new.states) (ap (λ (v : StoreView D). v.states) r.others) s.finds;
        same_file = s.same_file ∙ ap (λ (v : StoreView D). v.file_length) r.others;
      })

-- the second read goes after the first
pub both_parts : (a more : ℕ) (xs ys : List ℕ) → 32768 ≤ length xs → a ≤ 16384 → more ≤ 16384
    → length ys ≡ length (mid_of a (length xs - a) xs)
    → take (a + more) (put_mid a (length xs - a) xs ys) ≡ take a xs ++ take more ys
both_parts a more xs ys room low few same =
    let rest = length xs - a in
    let inside : a ≤ length xs = omega arith in
    let part : length (mid_of a (length xs - a) xs) ≡ length xs - a = mid_len a (length xs) xs (omega arith) in
    let enough : more ≤ length ys = omega arith in
    let less : a + more ≤ a + length ys = omega arith in
    let size = length-take-le a xs inside in
    sym (take-take (a + more) (a + length ys) (put_mid a rest xs ys) less)
    ∙ ap (λ l. take (a + more) l) (take-put_mid a rest xs ys (a + length ys) refl inside)
    ∙ ap (λ n. take (n + more) (take a xs ++ ys)) (sym size)
    ∙ take-append-add (take a xs) ys more

-- ---- the blocks of a span

range_is : (a b : ℕ) → (b ≡ a) ⊎ (b ≡ a + 1) → range_with_len a (b + 1 - a) ≡ one_or_two a b
range_is a b (inl e) =
    let count : b + 1 - a ≡ 1 = omega arith in
    ap (λ n. range_with_len a n) count ∙ sym (one_is a b (sym e))
range_is a b (inr e) =
    let count : b + 1 - a ≡ 2 = omega arith in
    ap (λ n. range_with_len a n) count ∙ ap (λ i. a ∷ i ∷ []) (sym e) ∙ sym (two_is a b (λ same. absurd (omega arith)))

near : (start count : ℕ) → 1 ≤ count → count ≤ 16384
    → ((start + count - 1) / 16384 ≡ start / 16384) ⊎ ((start + count - 1) / 16384 ≡ start / 16384 + 1)
near start count some few = elim (cases_eq ((start + count - 1) / 16384) (start / 16384)) [
  | inl e ↦ inl e
  | inr apart ↦ inr (omega arith)
]

has_first : (a b : ℕ) → Contains (one_or_two a b) a
has_first a b = elim (cases_eq a b) [
  | inl same ↦ subst (λ l. Contains l a) (sym (one_is a b same)) (here [] refl)
  | inr apart ↦ subst (λ l. Contains l a) (sym (two_is a b apart)) (here (b ∷ []) refl)
]

has_last : (a b : ℕ) → Contains (one_or_two a b) b
has_last a b = elim (cases_eq a b) [
  | inl same ↦ subst (λ l. Contains l b) (sym (one_is a b same)) (here [] same)
  | inr apart ↦ subst (λ l. Contains l b) (sym (two_is a b apart)) (later a (b ∷ []) (here [] refl))
]

module _ {span : Span} (short : IsShortSpan span) where
  spanned_is : spanned_blocks span ≡ one_or_two (first_block span) (last_block span)
  spanned_is = range_is (first_block span) (last_block span) (near span.start span.length short.some short.few)

  pub spans_first : Contains (spanned_blocks span) (first_block span)
  spans_first = subst (λ l. Contains l (first_block span)) (sym spanned_is) (has_first (first_block span) (last_block span))

  pub spans_last : Contains (spanned_blocks span) (last_block span)
  spans_last = subst (λ l. Contains l (last_block span)) (sym spanned_is) (has_last (first_block span) (last_block span))

  module _ {first last : ℕ} (is_first : first ≡ first_block span) (is_last : last ≡ last_block span) where
    spanned_by : one_or_two first last ≡ spanned_blocks span
    spanned_by = ap (λ i. one_or_two i last) is_first ∙ ap (λ i. one_or_two (first_block span) i) is_last ∙ sym spanned_is

    module _ {D : Type 0} {conduct : Conduct D} {dig : List ℕ → List ℕ} {k : Facts} {old new : StoreView D} where
      pub stops_span : {found : ReadFault} → StopAtFault conduct dig k (one_or_two first last) found old new
          → StopAtFault conduct dig k (spanned_blocks span) found old new
      stops_span {found} r = subst (λ l. StopAtFault conduct dig k l found old new) spanned_by r

      pub sends_span : {all sent : List ℕ} → AreReadRight conduct dig k (one_or_two first last) all old new
          → sent ≡ take span.length (drop (span.start % 16384) all) → SendsSpan conduct dig k span sent old new
      sends_span {all} r cut =
          let whole = subst (λ l. AreReadRight conduct dig k l all old new) spanned_by r in
          let offset : span.start % 16384 ≡ span.start - 16384 * (span.start / 16384) = omega arith in
          record {
            bytes = whole.bytes;
            reads = whole.reads;
            calls = whole.calls;
            right = whole.right;
            cut = cut ∙ ap (λ l. take span.length (drop (span.start % 16384) l)) whole.together
                ∙ ap (λ n. take span.length (drop n (flat_map whole.bytes (spanned_blocks span)))) offset;
            others = whole.others;
          }

-- ---- where a range lies

pub place_is_short : (torrent : Metainfo) (piece begin count : ℕ) (o : Option Span) → All (IsLawfulFile torrent.piece_length) torrent.files
    → IfSome o (IsPlace torrent piece begin count) → IfSome o IsShortSpan
place_is_short torrent piece begin count None all place = place
place_is_short torrent piece begin count (Some span) all place =
    let lawful = All-get_or (IsLawfulFile torrent.piece_length) torrent.files span.file place.file place.listed all in
    let short : place.file.length ≤ max_file_length = subst (λ f. f.length ≤ max_file_length) (place.found place.file) lawful.short in
    record { some = omega (arith, place.all, place.some); few = omega (arith, place.all, place.block); inside = omega (arith, place.all, place.in_file) }
