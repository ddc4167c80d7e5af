-- What has become whole and complete is among the pieces and files of the blocks that notes say are marked.
use Rattle.bt_machine.proofs.Base.{[], ◌≡◌, ◌≢◌, ℕ, zero, suc, ◌+◌, ◌*◌, ◌/◌, ◌<◌, ◌≤◌, ◌⊎◌, inl, inr, Bool, true, false, not, ◌&&◌, List, ◌∷◌, ◌++◌, length, map, filter, Option, Some, None, refl, sym, ap, ◌∙◌, subst, arith, slice_get, Contains, if◌then◌else◌, range_with_len, option_map, option_map_or, option_and_then, AllPairs-filter, eqb-true, eq-eqb, Metainfo, total_pieces, IsLawful, BlockState, Missing, Waiting, Marked, BlockId}
use Rattle.std.specs.Prelude.{◌==◌, filter_map, flat_map, cond}
use Rattle.std.specs.List.{list_all, cons_option}
use Rattle.std.specs.Option.{option_to_list}
use Rattle.bt_book.specs.Blocks.{IsBefore, IsFrom}
use Rattle.bt_wire.specs.declared.message.Message.TheVariants.{Have}
use Rattle.bt_meta.specs.PieceBlocks.{HasBlock}
use Rattle.bt_store.specs.BlockStates.{is_marked}
use Rattle.bt_machine.specs.State.{EngineState, FileState}
use Rattle.bt_machine.specs.Blocks.{block_id, states_of, state_at, piece_of, all_blocks, is_marked_in, is_in_piece, is_whole, is_complete, has_become, file_numbers, new_whole_pieces, new_complete_files}
use Rattle.bt_machine.specs.Shape.{IsShaped}
use Rattle.bt_machine.specs.declared.answer.Note.{Note}
use Rattle.bt_machine.specs.declared.answer.Note.TheVariants.{Marked as NowMarked, Complete}
use Rattle.bt_machine.specs.Output.{haves, sent_to}
use Rattle.bt_machine.proofs.Lists.{here, later, contains_none, contains_cases, contains_filter, filter_contains, contains_map, contains_flat_map, flat_map_contains, range_limits, range_contains, and_true, some_below, get_some, some_is}
use Rattle.bt_machine.proofs.Pairs.{Pairs, to_pairs, from_pairs, some_at, contains_some}
use Rattle.bt_machine.proofs.Changes.{piece_is_whole}
use Rattle.bt_engine_after.proofs.Blocks.{stands}
use Rattle.bt_engine_after.proofs.PieceOrder.{rises, in_torrent}
use Rattle.bt_engine.specs.NewsSteps.{IsNotedBefore, TellMarks, marked_piece, marked_file, without_repeats, numbers_in, haves_by, complete_by}
use Rattle.bt_engine.proofs.MarkNotes.{pairs_flat_map}

-- ---- the numbers of notes

number_there : (o : Option ℕ) (n : ℕ) → option_map_or (λ p. p == n) o false ≡ true → o ≡ Some n
number_there None n e = absurd cc
number_there (Some p) n e = ap (λ m. Some m) (eqb-true p n e)

number_apart : (o : Option ℕ) (n : ℕ) → option_map_or (λ p. p == n) o false ≡ false → (l : ℕ) → o ≡ Some l → l ≢ n
number_apart None n e l is same = absurd cc
number_apart (Some p) n e l is same = absurd (let yes = eq-eqb p n (some_is is ∙ same) in cc)

its_number : (o : Option ℕ) {k : ℕ} → Contains (option_to_list o) k → o ≡ Some k
its_number None c = absurd (contains_none c)
its_number (Some n) c = elim (contains_cases [] c) [ inl same ↦ ap (λ m. Some m) same | inr none ↦ absurd (contains_none none) ]

module _ (f : Note → Option ℕ) where
  abbrev number : Note → List ℕ
  number note = option_to_list (f note)

  numbers_are : (notes : List Note) → filter_map f notes ≡ flat_map number notes
  numbers_are [] = refl
  numbers_are (m ∷ notes) = ap (λ ns. cons_option (f m) ns) (numbers_are notes) ∙ by (f m)
    where
      by : (o : Option ℕ) → cons_option o (flat_map number notes) ≡ option_to_list o ++ flat_map number notes
      by None = refl
      by (Some n) = refl

  -- each is the number of a note
  picked : (notes : List Note) {k : ℕ} → Contains (filter_map f notes) k → (note : Note) × Contains notes note × (f note ≡ Some k)
  picked notes {k} c =
      let m = contains_flat_map number notes (subst (λ ns. Contains ns k) (numbers_are notes) c) in (m.0, m.1, its_number (f m.0) m.2)

  -- each number of a note is there
  pick : (notes : List Note) {note : Note} {k : ℕ} → Contains notes note → f note ≡ Some k → Contains (filter_map f notes) k
  pick notes {note} {k} c is =
      subst (λ ns. Contains ns k) (sym (numbers_are notes)) (flat_map_contains number notes c (subst (λ o. Contains (option_to_list o) k) (sym is) (here [] refl)))

  picked_in_order : (notes : List Note) → Pairs (λ m n. (k l : ℕ) → f m ≡ Some k → f n ≡ Some l → k ≤ l) notes → Pairs (λ k l. k ≤ l) (filter_map f notes)
  picked_in_order notes p =
      subst (λ ns. Pairs (λ k l. k ≤ l) ns) (sym (numbers_are notes))
      (pairs_flat_map (λ m n. (k l : ℕ) → f m ≡ Some k → f n ≡ Some l → k ≤ l) (λ k l. k ≤ l) number notes p (λ note c. single (f note))
      (λ m n k l below c d. below k l (its_number (f m) c) (its_number (f n) d)))
    where
      single : (o : Option ℕ) → Pairs (λ k l. k ≤ l) (option_to_list o)
      single None = tt
      single (Some n) = (λ l c. absurd (contains_none c), tt)

-- ---- without those that equal the last one before them

abbrev kept : Bool → Option ℕ → ℕ → List ℕ → List ℕ
kept repeats last n ns = if repeats then without_repeats last ns else n ∷ without_repeats (Some n) ns

-- each is one of the numbers
kept_from : (last : Option ℕ) (ns : List ℕ) {k : ℕ} → Contains (without_repeats last ns) k → Contains ns k
kept_from last [] c = c
kept_from last (n ∷ ns) {k} c = by (λ l c. kept_from l ns c) (option_map_or (λ m. m == n) last false) c
  where
    by : ((l : Option ℕ) → Contains (without_repeats l ns) k → Contains ns k) → (t : Bool) → Contains (kept t last n ns) k → Contains (n ∷ ns) k
    by more true c = later n ns (more last c)
    by more false c = elim (contains_cases (without_repeats (Some n) ns) c) [ inl same ↦ here ns same | inr rest ↦ later n ns (more (Some n) rest) ]

-- each of the numbers is there, but for the last one before them
kept_to : (last : Option ℕ) (ns : List ℕ) {k : ℕ} → Contains ns k → (last ≡ Some k) ⊎ Contains (without_repeats last ns) k
kept_to last [] c = absurd (contains_none c)
kept_to last (n ∷ ns) {k} c = by (λ l c. kept_to l ns c) (option_map_or (λ m. m == n) last false) refl
  where
    by : ((l : Option ℕ) → Contains ns k → (l ≡ Some k) ⊎ Contains (without_repeats l ns) k) → (t : Bool)
        → option_map_or (λ m. m == n) last false ≡ t → (last ≡ Some k) ⊎ Contains (kept t last n ns) k
    by more true is = elim (contains_cases ns c) [ inl same ↦ inl (number_there last n is ∙ ap (λ m. Some m) same) | inr rest ↦ more last rest ]
    by more false is = elim (contains_cases ns c) [
      | inl same ↦ inr (here (without_repeats (Some n) ns) same)
      | inr rest ↦ elim (more (Some n) rest) [
        | inl e ↦ inr (here (without_repeats (Some n) ns) (some_is e))
        | inr there ↦ inr (later n (without_repeats (Some n) ns) there)
      ]
    ]

abbrev AreFrom : Option ℕ → List ℕ → Type 0
AreFrom last ns = (l k : ℕ) → last ≡ Some l → Contains ns k → l ≤ k

abbrev Rise : Option ℕ → List ℕ → Type 0
Rise last ns = Pairs (λ k l. k < l) ns × ((l k : ℕ) → last ≡ Some l → Contains ns k → l < k)

-- where the numbers do not fall, those that are left rise, from above the last one
kept_rise : (last : Option ℕ) (ns : List ℕ) → Pairs (λ k l. k ≤ l) ns → AreFrom last ns → Rise last (without_repeats last ns)
kept_rise last [] p from = (tt, λ l k e c. absurd (contains_none c))
kept_rise last (n ∷ ns) p from = by (λ l above. kept_rise l ns p.1 above) (option_map_or (λ m. m == n) last false) refl
  where
    by : ((l : Option ℕ) → AreFrom l ns → Rise l (without_repeats l ns)) → (t : Bool) → option_map_or (λ m. m == n) last false ≡ t
        → Rise last (kept t last n ns)
    by after true is = after last (λ l k e c. from l k e (later n ns c))
    by after false is =
        let rest = after (Some n) (λ l k e c. subst (λ m. m ≤ k) (some_is e) (p.0 k c)) in (
          (λ k c. rest.1 n k refl c, rest.0),
          λ l k e c.
              let low = from l n e (here ns refl) in
              let apart = number_apart last n is l e in
              let above : l < n = omega (arith, low, apart) in
              elim (contains_cases (without_repeats (Some n) ns) c) [
                | inl same ↦ omega (arith, above, same)
                | inr more ↦ (let up = rest.1 n k refl more in omega (arith, above, up))
              ],
        )

-- ---- what holds now and did not hold before

same_numbers : (xs ys : List ℕ) → Pairs (λ k l. k < l) xs → Pairs (λ k l. k < l) ys → ((z : ℕ) → Contains xs z → Contains ys z)
    → ((z : ℕ) → Contains ys z → Contains xs z) → xs ≡ ys
same_numbers [] [] p q to back = refl
same_numbers [] (y ∷ ys) p q to back = absurd (contains_none (back y (here ys refl)))
same_numbers (x ∷ xs) [] p q to back = absurd (contains_none (to x (here xs refl)))
same_numbers (x ∷ xs) (y ∷ ys) p q to back =
    let same : x ≡ y = elim (contains_cases ys (to x (here xs refl))) [
      | inl e ↦ sym e
      | inr more ↦ elim (contains_cases xs (back y (here ys refl))) [
        | inl e ↦ e
        | inr other ↦ (let up = p.0 y other in let down = q.0 x more in absurd (omega (arith, up, down)))
      ]
    ] in
    ap (λ w. w ∷ xs) same ∙ ap (λ ws. y ∷ ws) (same_numbers xs ys p.1 q.1
    (λ z c. elim (contains_cases ys (to z (later x xs c))) [ inl e ↦ (let up = p.0 z c in absurd (omega (arith, up, e, same))) | inr more ↦ more ])
    (λ z c. elim (contains_cases xs (back z (later y ys c))) [ inl e ↦ (let up = q.0 z c in absurd (omega (arith, up, e, same))) | inr more ↦ more ]))

range_in_order : (a n : ℕ) → Pairs (λ i j. i < j) (range_with_len a n)
range_in_order a zero = tt
range_in_order a (suc n) = (λ y c. (let from = (range_limits (a + 1) n c).0 in omega arith), range_in_order (a + 1) n)

not_so : (b : Bool) → not b ≡ true → b ≡ false
not_so true e = absurd cc
not_so false e = refl

-- a test of numbers that is met now and was not met before, where each of those is the number of a note
become : (holds : EngineState → ℕ → Bool) (old new : EngineState) (f : Note → Option ℕ) (n : ℕ) (notes : List Note)
    → Pairs (λ a b. (k l : ℕ) → f a ≡ Some k → f b ≡ Some l → k ≤ l) notes
    → ((note : Note) (k : ℕ) → Contains notes note → f note ≡ Some k → (holds old k ≡ false) × (k < n))
    → ((k : ℕ) → k < n → holds new k ≡ true → holds old k ≡ false → (note : Note) × Contains notes note × (f note ≡ Some k))
    → filter (has_become holds old new) (range_with_len 0 n) ≡ filter (holds new) (numbers_in f notes)
become holds old new f n notes up before after =
    let xs = range_with_len 0 n in
    let ys = numbers_in f notes in
    same_numbers (filter (has_become holds old new) xs) (filter (holds new) ys)
    (to_pairs (λ k l. k < l) _ (AllPairs-filter (λ k l. k < l) (has_become holds old new) xs (from_pairs (λ k l. k < l) xs (range_in_order 0 n))))
    (to_pairs (λ k l. k < l) _ (AllPairs-filter (λ k l. k < l) (holds new) ys (from_pairs (λ k l. k < l) ys (kept_rise None (filter_map f notes) (picked_in_order f notes up) (λ l k e c. absurd cc)).0)))
    (λ k c.
    let of = contains_filter (has_become holds old new) xs c in
    let both = and_true (holds new k) of.1 in
    let lim = range_limits 0 n of.0 in
    let noted = after k (omega (arith, lim)) both.0 (not_so (holds old k) both.1) in
    elim (kept_to None (filter_map f notes) (pick f notes noted.1 noted.2)) [ inl e ↦ absurd cc | inr there ↦ filter_contains (holds new) ys there both.0 ])
    (λ k c.
    let of = contains_filter (holds new) ys c in
    let note = picked f notes (kept_from None (filter_map f notes) of.0) in
    let was = before note.0 k note.1 note.2 in
    filter_contains (has_become holds old new) xs (range_contains n was.1)
    (ap (λ b. b && not (holds old k)) of.1 ∙ ap not was.0))

not_then : (b : Bool) → (b ≡ true → ⊥) → b ≡ false
not_then true wrong = absurd (wrong refl)
not_then false wrong = refl

-- ---- blocks that are not marked

some_fails : {X : Type 0} (test : X → Bool) (xs : List X) → list_all test xs ≡ false → (x : X) × Contains xs x × (test x ≡ false)
some_fails test [] e = absurd cc
some_fails test (x ∷ xs) e = by (λ e. some_fails test xs e) (test x) refl e
  where
    by : (list_all test xs ≡ false → (y : _) × Contains xs y × (test y ≡ false)) → (t : Bool) → test x ≡ t → (t && list_all test xs) ≡ false
        → (y : _) × Contains (x ∷ xs) y × (test y ≡ false)
    by more true is e = let m = more e in (m.0, later x xs m.1, m.2)
    by more false is e = (x, here xs refl, is)

all_true : {X : Type 0} (test : X → Bool) (xs : List X) {x : X} → list_all test xs ≡ true → Contains xs x → test x ≡ true
all_true test [] e c = absurd (contains_none c)
all_true test (y ∷ xs) e c =
    let both = and_true (test y) e in
    elim (contains_cases xs c) [ inl same ↦ ap test (sym same) ∙ both.0 | inr more ↦ all_true test xs both.1 more ]

marked_is : (x : BlockState) → is_marked x ≡ true → x ≡ Marked
marked_is Missing e = absurd cc
marked_is Waiting e = absurd cc
marked_is Marked e = refl

to_state : (o : Option FileState) (i : ℕ) {x : BlockState} → slice_get (option_map_or (λ f. f.states) o []) i ≡ Some x
    → option_and_then (λ f. slice_get f.states i) o ≡ Some x
to_state None zero e = absurd cc
to_state None (suc i) e = absurd cc
to_state (Some f) i e = e

of_state : (o : Option FileState) (i : ℕ) {x : BlockState} → option_and_then (λ f. slice_get f.states i) o ≡ Some x
    → slice_get (option_map_or (λ f. f.states) o []) i ≡ Some x
of_state None i e = absurd cc
of_state (Some f) i e = e

file_below : (s : EngineState) (o : Option FileState) (file i : ℕ) {x : BlockState} → slice_get s.files file ≡ o
    → option_and_then (λ f. slice_get f.states i) o ≡ Some x → file < length s.files
file_below s None file i at e = absurd cc
file_below s (Some f) file i at e = some_below s.files file at

is_among : (s : EngineState) {b : BlockId} → Contains (all_blocks s) b → b.block < length (states_of s b.file)
is_among s {b} c =
    let y = contains_flat_map (λ file. map (block_id file) (range_with_len 0 (length (states_of s file)))) (file_numbers s) c in
    let z = contains_map (block_id y.0) (range_with_len 0 (length (states_of s y.0))) y.2 in
    let below = (range_limits 0 (length (states_of s y.0)) z.1).1 in
    rw (← z.2) (omega arith)

-- what is told of each number that meets a test
told : {X : Type 0} (test : ℕ → Bool) (tell : ℕ → List X) (ns : List ℕ) → flat_map (λ n. if test n then tell n else []) ns ≡ flat_map tell (filter test ns)
told test tell [] = refl
told test tell (n ∷ ns) = ap (λ xs. (if test n then tell n else []) ++ xs) (told test tell ns) ∙ by (test n)
  where
    by : (t : Bool) → (if t then tell n else []) ++ flat_map tell (filter test ns) ≡ flat_map tell (cond t (n ∷ filter test ns) (filter test ns))
    by true = refl
    by false = refl

each_one : (files : List ℕ) → flat_map (λ file. Complete file ∷ []) files ≡ map (λ file. Complete file) files
each_one [] = refl
each_one (f ∷ fs) = ap (λ ns. Complete f ∷ ns) (each_one fs)

-- ---- the notes of an event

piece_of_note : (torrent : Metainfo) (note : Note) {k : ℕ} → marked_piece torrent note ≡ Some k
    → (b : BlockId) × (note ≡ NowMarked b) × (piece_of torrent b ≡ Some k)
piece_of_note torrent (NowMarked b) e = (b, refl, e)
piece_of_note torrent _ e = absurd cc

file_of_note : (note : Note) {k : ℕ} → marked_file note ≡ Some k → (b : BlockId) × (note ≡ NowMarked b) × (b.file ≡ k)
file_of_note (NowMarked b) e = (b, refl, some_is e)
file_of_note _ e = absurd cc

module _ {old new : EngineState} {notes : List Note} (t : TellMarks old new notes) where
  -- such a block is one of the engine that is now
  there : (b : BlockId) → b.block < length (states_of old b.file) → (x : BlockState) × (state_at new b ≡ Some x)
  there b lt =
      let x = get_some (states_of new b.file) b.block (omega (arith, lt, t.sizes b.file)) in
      (x.0, to_state (slice_get new.files b.file) b.block x.1)

  noted_there : (b : BlockId) → Contains notes (NowMarked b) → (x : BlockState) × (state_at new b ≡ Some x)
  noted_there b c = there b (some_below (states_of old b.file) b.block (of_state (slice_get old.files b.file) b.block (t.unmarked b c).here))

  was_not : (b : BlockId) → is_marked_in old b ≡ false → state_at old b ≢ Some Marked
  was_not b e same = absurd (let now = ap (λ o. option_map_or is_marked o false) same in cc)

  noted_before : Pairs IsNotedBefore notes
  noted_before = to_pairs IsNotedBefore notes t.in_order

  rising : (f : Note → Option ℕ) (xs : List Note) → ((note : Note) → Contains xs note → Contains notes note)
      → ((m n : Note) (k l : ℕ) → Contains notes m → Contains notes n → IsNotedBefore m n → f m ≡ Some k → f n ≡ Some l → k ≤ l)
      → Pairs IsNotedBefore xs → Pairs (λ a b. (k l : ℕ) → f a ≡ Some k → f b ≡ Some l → k ≤ l) xs
  rising f [] inside keep p = tt
  rising f (m ∷ xs) inside keep p = (
    λ n c k l e g. keep m n k l (inside m (here xs refl)) (inside n (later m xs c)) (p.0 n c) e g,
    rising f xs (λ n c. inside n (later m xs c)) keep p.1,
  )

  -- ---- files

  file_inside : (note : Note) (k : ℕ) → Contains notes note → marked_file note ≡ Some k → k < length new.files
  file_inside note k c e =
      let b = file_of_note note e in
      let x = noted_there b.0 (subst (Contains notes) b.1 c) in
      subst (λ n. n < length new.files) b.2 (file_below new (slice_get new.files b.0.file) b.0.file b.0.block refl x.1)

  complete_news : new_complete_files old new ≡ filter (is_complete new) (numbers_in marked_file notes)
  complete_news =
      become is_complete old new marked_file (length new.files) notes
      (rising marked_file notes (λ n c. c) (λ m n k l own theirs before e f.
      let b = file_of_note m e in
      let c = file_of_note n f in
      not_above b.0 c.0 (before b.0 c.0 b.1 c.1) b.2 c.2) noted_before)
      (λ note k c e.
      let b = file_of_note note e in
      let was = t.unmarked b.0 (subst (Contains notes) b.1 c) in (
        not_then (is_complete old k) (λ all. was.not_marked (marked_is was.state (all_true is_marked (states_of old k) all
            (contains_some (states_of old k) b.0.block (subst (λ n. slice_get (states_of old n) b.0.block ≡ Some was.state) b.2
            (of_state (slice_get old.files b.0.file) b.0.block was.here)))))),
        file_inside note k c e,
      ))
      (λ k lt now was.
      let x = some_fails is_marked (states_of old k) was in
      let i = some_at (states_of old k) x.1 in
      let b = block_id k i.0 in
      let y = get_some (states_of new k) i.0 (omega (arith, some_below (states_of old k) i.0 i.1, t.sizes k)) in
      let marked = marked_is y.0 (all_true is_marked (states_of new k) now (contains_some (states_of new k) i.0 y.1)) in (
        NowMarked b,
        t.told b (to_state (slice_get new.files k) i.0 (y.1 ∙ ap (λ z. Some z) marked))
            (λ same. absurd (let own = of_state (slice_get old.files k) i.0 same in let off = x.2 in let is : x.0 ≡ Marked = some_is (sym i.1 ∙ own) in let no = ap is_marked is in cc)),
        refl,
      ))
    where
      not_above : (b c : BlockId) {k l : ℕ} → IsBefore b c → b.file ≡ k → c.file ≡ l → k ≤ l
      not_above b c (inl lt) e f = omega (arith, lt, e, f)
      not_above b c (inr at) e f = omega (arith, at.0, e, f)

  -- the files of which is told have become complete
  pub complete_told : map (λ file. Complete file) (new_complete_files old new) ≡ complete_by new notes
  complete_told =
      sym (each_one (new_complete_files old new)) ∙ ap (λ (files : List ℕ). flat_map (λ file. Complete file ∷ []) files) complete_news
      ∙ sym (told (is_complete new) (λ file. Complete file ∷ []) (numbers_in marked_file notes))

  -- ---- pieces

  module _ (shaped : IsShaped new.torrent new) where
    pub has_block : (b : BlockId) → Contains notes (NowMarked b) → HasBlock new.torrent b.file b.block
    has_block b c = (let x = noted_there b c in stands new shaped b x.1)

    -- the piece that it lies in, by the file that it is in
    lies : (b : BlockId) {k : ℕ} (h : HasBlock new.torrent b.file b.block) → piece_of new.torrent b ≡ Some k
        → k ≡ h.entry.first_piece + 16384 * b.block / new.torrent.piece_length
    lies b h e = sym (some_is (ap (option_map (λ f. f.first_piece + 16384 * b.block / new.torrent.piece_length)) (sym h.found) ∙ e))

    module _ (lawful : IsLawful new.torrent.piece_length new.torrent.files) where
      pub piece_inside : (note : Note) (k : ℕ) → Contains notes note → marked_piece new.torrent note ≡ Some k → k < total_pieces new.torrent
      piece_inside note k c e =
          let b = piece_of_note new.torrent note e in
          let h = has_block b.0 (subst (Contains notes) b.1 c) in
          in_torrent new.torrent lawful.piece lawful.laid_out b.0 k (record { has = h; is = lies b.0 h b.2 })

      whole_news : new_whole_pieces old new ≡ filter (is_whole new) (numbers_in (marked_piece new.torrent) notes)
      whole_news =
          become is_whole old new (marked_piece new.torrent) (total_pieces new.torrent) notes
          (rising (marked_piece new.torrent) notes (λ n c. c) (λ m n k l own theirs before e f.
          let b = piece_of_note new.torrent m e in
          let c = piece_of_note new.torrent n f in
          let h = has_block b.0 (subst (Contains notes) b.1 own) in
          let i = has_block c.0 (subst (Contains notes) c.1 theirs) in
          rises new.torrent lawful.piece lawful.laid_out b.0 c.0 k l (record { has = h; is = lies b.0 h b.2 }) (record { has = i; is = lies c.0 i c.2 })
          (from_before (before b.0 c.0 b.1 c.1))) noted_before)
          (λ note k c e.
          let b = piece_of_note new.torrent note e in
          let was = t.unmarked b.0 (subst (Contains notes) b.1 c) in
          let inside = some_below (states_of old b.0.file) b.0.block (of_state (slice_get old.files b.0.file) b.0.block was.here) in (
            not_then (is_whole old k) (λ all.
                let marked = (piece_is_whole old k).0 all b.0 inside (ap (λ m. piece_of m b.0) (sym t.same_torrent) ∙ b.2) in
                was.not_marked (some_is (sym was.here ∙ marked))),
            piece_inside note k c e,
          ))
          (λ k lt now was.
          let x = some_fails (is_marked_in old) (filter (is_in_piece old.torrent k) (all_blocks old)) was in
          let of = contains_filter (is_in_piece old.torrent k) (all_blocks old) x.1 in
          let b = x.0 in
          let in_it = ap (λ m. piece_of m b) t.same_torrent ∙ number_there (piece_of old.torrent b) k of.1 in
          let inside = is_among old of.0 in (
            NowMarked b,
            t.told b ((piece_is_whole new k).0 now b (omega (arith, inside, t.sizes b.file)) in_it) (was_not b x.2),
            in_it,
          ))
        where
          from_before : {b c : BlockId} → IsBefore b c → IsFrom b c
          from_before (inl lt) = inl lt
          from_before (inr at) = inr (at.0, omega (arith, at.1))

      -- the pieces of which is told have become whole
      pub haves_told : haves old new ≡ haves_by new notes
      haves_told =
          ap (λ (pieces : List ℕ). flat_map (λ piece. map (λ p. sent_to p (Have piece)) new.peers) pieces) whole_news
          ∙ sym (told (is_whole new) (λ piece. map (λ p. sent_to p (Have piece)) new.peers) (numbers_in (marked_piece new.torrent) notes))
