-- Passages one after the other: what is remembered, and what it is used for.
use Rattle.std.proofs.Common.{◌≡◌, ◌⊎◌, ◌≤◌, ◌+◌, ◌-◌, ℕ, Bool, true, false, cond, ◌&&◌, List, [], ◌∷◌, ◌++◌, take, drop, length, get_or, not, refl, sym, ◌∙◌, ap, arith, subst, Contains, count_by, nat_lt, inl, inr}
use Rattle.std.specs.Prelude.{filter}
use Rattle.std.proofs.lemmas.List.{take-append-drop}
use Rattle.std.proofs.lemmas.Bool.Decides.{nat_tests}
use Rattle.std.proofs.lemmas.List.Elements.{Contains-append_right, Contains-append_left, Contains-append_cases, All-contains, All-contains_itself, All-filter, All-weaker}
use Rattle.std.proofs.lemmas.List.Filters.{sum_by-filter_both}
use Rattle.std.proofs.lemmas.List.Sums.{sum_by-append, sum_by-cons}
use Rattle.bt_wire.specs.declared.message.Ask.{Ask}
use Rattle.bt_wire.specs.declared.message.Message.{Message}
use Rattle.bt_wire.specs.declared.message.Message.TheVariants.{Piece}
use Rattle.bt_meta.specs.Torrent.{Metainfo}
use Rattle.bt_connection.specs.ShortBlocks.{short_blocks_of, IsShortBlock, ask_of}
use Rattle.bt_connection.specs.Padding.{Memory, new_memory, is_ask, with_asked, without, filled, IsTaken, ComesIn, GoesOut, request, exact, piece, other}
use Rattle.bt_connection.proofs.MessageParts.{place_in, bytes_in, answer_range}
use Rattle.bt_connection.proofs.LastBlocks.{short_blocks_are}
use Rattle.bt_connection.specs.Law.{Passage, comes, goes, Passes, Pass, RemembersShortBlocks, IsFilledAtEnd, ZerosLieBehindTheEnd, is_at, is_padded_request, is_piece_at, data_length, asks_at, pads_at, PadsWhatWasAsked}

-- ---- only requests for short blocks are remembered

in_drop : (n : ℕ) (xs : List Ask) (x : Ask) → Contains (drop n xs) x → Contains xs x
in_drop n xs x there =
    subst (λ (ys : List Ask). Contains ys x) (take-append-drop n xs) (Contains-append_right (take n xs) (drop n xs) x there)

in_one : (y x : Ask) → Contains (y ∷ []) x → y ≡ x
in_one y x (k, inside, is) =
    let first : k ≡ 0 = omega arith in
    subst (λ (n : ℕ). get_or (y ∷ []) n x ≡ x) first is

module _ (blocks : List Ask) where
  abbrev AreThere : List Ask → Type 0
  AreThere asked = (ask : Ask) → Contains asked ask → Contains blocks ask

  one_more : (xs : List Ask) (n : ℕ) (ask : Ask) → AreThere xs → Contains blocks ask → AreThere (drop n xs ++ ask ∷ [])
  one_more xs n ask all is x there = elim (Contains-append_cases (drop n xs) (ask ∷ []) x there) [
    | inl old ↦ all x (in_drop n xs x old)
    | inr new ↦ subst (λ (a : Ask). Contains blocks a) (in_one ask x new) is
  ]

  one_less : (xs ys : List Ask) (ask : Ask) → AreThere xs → IsTaken xs ask ys → AreThere ys
  one_less xs ys ask all t x there =
      let here : Contains (t.before ++ t.after) x = subst (λ (l : List Ask). Contains l x) t.now there in
      let was : Contains (t.before ++ ask ∷ t.after) x = elim (Contains-append_cases t.before t.after x here) [
        | inl left ↦ Contains-append_left t.before (ask ∷ t.after) x left
        | inr right ↦ Contains-append_right t.before (ask ∷ t.after) x (Contains-append_right (ask ∷ []) t.after x right)
      ] in
      all x (subst (λ (l : List Ask). Contains l x) (sym t.was) was)

  others : (xs : List Ask) (ask : Ask) → AreThere xs → AreThere (without xs ask)
  others xs ask all x there =
      let before = All-weaker (Contains xs) (Contains blocks) all xs (All-contains_itself xs) in
      All-contains (Contains blocks) (without xs ask) x (All-filter (λ y. not (is_ask ask y)) (Contains blocks) xs before) there

  kept : (old new : Memory) → new ≡ old → AreThere old → AreThere new
  kept old new same all = subst (λ (m : Memory). AreThere m) (sym same) all

  step_in : (old new : Memory) (m given : Message) → AreThere old → ComesIn blocks old m given new → AreThere new
  step_in old new m given all (request ask asks given-is new-is) =
      subst (λ (xs : List Ask). AreThere xs) (sym new-is) (one_more (without old ask) _ ask (others old ask all) asks.0)
  step_in old new m given all (exact ask asks given-is new-is) = kept (without old ask) new new-is (others old ask all)
  step_in old new m given all (other _ given-is new-is) = kept old new new-is all

  step_out : (old new : Memory) (m given : Message) → AreThere old → GoesOut blocks old m given new → AreThere new
  step_out old new m given all (piece ask bytes answers taken given-is) = one_less old new ask all taken
  step_out old new m given all (other _ given-is new-is) = kept old new new-is all

  step : (p : Passage) (old new : Memory) → AreThere old → Passes blocks old p new → AreThere new
  step (comes m given) old new all passes = step_in old new m given all passes
  step (goes m given) old new all passes = step_out old new m given all passes

  steps : (passages : List Passage) (old new : Memory) → AreThere old → Pass blocks old passages new → AreThere new
  steps [] old new all same = kept old new same all
  steps (p ∷ passages) old new all (mid, first, others) = steps passages mid new (step p old mid all first) others

pub remembers : RemembersShortBlocks
remembers blocks passages now ask pass there = steps blocks passages new_memory now (λ other no. absurd (omega (arith, no.1))) pass ask there

-- ---- a piece that is filled ends where its file ends

zeros_at_end : (torrent : Metainfo) (old new : Memory) (p b : ℕ) (bytes : List ℕ) (given : Message)
    → GoesOut (short_blocks_of torrent) old (Piece p b bytes) given new → (given ≡ Piece p b bytes) ⊎ IsFilledAtEnd torrent p b bytes given
zeros_at_end torrent old new p b bytes given (piece ask run answers taken given-is) =
    let same = answers.message in
    let range = answer_range p b bytes run ask same answers.whole in
    let short : IsShortBlock torrent (ask_of p b (length bytes))
    = (short_blocks_are torrent _).0 (subst (λ (a : Ask). Contains (short_blocks_of torrent) a) (sym range) answers.short) in
    let whole = short.whole.length in
    let count = short.short in
    let inside = short.whole.has.inside in
    inr (record {
      short = short;
      end = omega (arith, whole, count, inside);
      filled = given-is ∙ sym (ap (λ (m : Message). Piece (place_in m).piece (place_in m).begin (filled (bytes_in m))) same);
    })
zeros_at_end torrent old new p b bytes given (other _ given-is new-is) = inl given-is

pub zeros_behind : ZerosLieBehindTheEnd
zeros_behind torrent old new p b bytes given out = zeros_at_end torrent old new p b bytes given out

-- ---- pieces are filled as often as the peer asked for it, at most

module _ (p b : ℕ) where
  abbrev held : List Ask → ℕ
  held asked = count_by (is_at p b) asked

  held_append : (xs ys : List Ask) → held (xs ++ ys) ≡ held xs + held ys
  held_append xs ys = sum_by-append (λ a. cond (is_at p b a) 1 0) xs ys

  held_cons : (x : Ask) (xs : List Ask) → held (x ∷ xs) ≡ cond (is_at p b x) 1 0 + held xs
  held_cons x xs = sum_by-cons (λ a. cond (is_at p b a) 1 0) x xs

  held_more : (xs : List Ask) (n : ℕ) (ask : Ask) → held (drop n xs ++ ask ∷ []) ≤ cond (is_at p b ask) 1 0 + held xs
  held_more xs n ask =
      let all : held (take n xs) + held (drop n xs) ≡ held xs = sym (held_append (take n xs) (drop n xs)) ∙ ap held (take-append-drop n xs) in
      omega (arith, all, held_append (drop n xs) (ask ∷ []), held_cons ask [])

  held_others : (xs : List Ask) (ask : Ask) → held (without xs ask) ≤ held xs
  held_others xs ask =
      let parts : held (filter (is_ask ask) xs) + held (without xs ask) ≡ held xs
      = sum_by-filter_both (is_ask ask) (λ y. not (is_ask ask y)) (λ y. refl) (λ a. cond (is_at p b a) 1 0) xs in
      omega (arith, parts)

  held_less : (xs ys : List Ask) (ask : Ask) (t : IsTaken xs ask ys) → cond (is_at p b ask) 1 0 + held ys ≡ held xs
  held_less xs ys ask t =
      let one : held ys ≡ held t.before + held t.after = ap held t.now ∙ held_append t.before t.after in
      let all : held xs ≡ held t.before + held (ask ∷ t.after) = ap held t.was ∙ held_append t.before (ask ∷ t.after) in
      omega (arith, one, all, held_cons ask t.after)

  and_less : (x y : Bool) → cond {A = ℕ} (x && y) 1 0 ≤ cond y 1 0
  and_less true y = omega arith
  and_less false y = omega arith

  not_less : (n : ℕ) (y : Bool) → cond {A = ℕ} (nat_lt n n && y) 1 0 ≡ 0
  not_less n y = grind (arith, nat_tests)

  module _ (blocks : List Ask) where
    tally_in : (old new : Memory) (m given : Message) → ComesIn blocks old m given new
        → held new ≤ cond (is_padded_request p b m) 1 0 + held old
    tally_in old new m given (request ask asks given-is new-is) =
        let rest : Memory = without old ask in
        let now : held new ≡ held (with_asked rest ask) = ap held new-is in
        let asked : cond {A = ℕ} (is_padded_request p b m) 1 0 ≡ cond (is_at p b ask) 1 0 = ap (λ (n : Message). cond {A = ℕ} (is_padded_request p b n) 1 0) asks.1 in
        omega (arith, now, asked, held_more rest (length rest - 1023) ask, held_others old ask)
    tally_in old new m given (exact ask asks given-is new-is) =
        let now : held new ≡ held (without old ask) = ap held new-is in
        omega (arith, now, held_others old ask)
    tally_in old new m given (other _ given-is new-is) = let same : held new ≡ held old = ap held new-is in omega (arith, same)

    tally_out : (old new : Memory) (m given : Message) → GoesOut blocks old m given new
        → cond (nat_lt (data_length m) (data_length given) && is_piece_at p b m) 1 0 + held new ≤ held old
    tally_out old new m given (piece ask bytes answers taken given-is) =
        let here : cond {A = ℕ} (is_piece_at p b m) 1 0 ≡ cond (is_at p b ask) 1 0 = ap (λ (n : Message). cond {A = ℕ} (is_piece_at p b n) 1 0) answers.message in
        omega (arith, here, held_less old new ask taken, and_less (nat_lt (data_length m) (data_length given)) (is_piece_at p b m))
    tally_out old new m given (other _ given-is new-is) =
        let same : held new ≡ held old = ap held new-is in
        let zero : cond {A = ℕ} (nat_lt (data_length m) (data_length given) && is_piece_at p b m) 1 0 ≡ 0
        = ap (λ (n : Message). cond {A = ℕ} (nat_lt (data_length m) (data_length n) && is_piece_at p b m) 1 0) given-is ∙ not_less (data_length m) (is_piece_at p b m) in
        omega (arith, same, zero)

    tally_step : (x : Passage) (old new : Memory) → Passes blocks old x new
        → cond (pads_at p b x) 1 0 + held new ≤ cond (asks_at p b x) 1 0 + held old
    tally_step (comes m given) old new passes = omega (arith, tally_in old new m given passes)
    tally_step (goes m given) old new passes = omega (arith, tally_out old new m given passes)

    tallies : (passages : List Passage) (old new : Memory) → Pass blocks old passages new
        → count_by (pads_at p b) passages + held new ≤ count_by (asks_at p b) passages + held old
    tallies [] old new same = let kept : held new ≡ held old = ap held same in omega (arith, kept)
    tallies (x ∷ passages) old new (mid, first, others) =
        omega (
          arith,
          tally_step x old mid first,
          tallies passages mid new others,
          sum_by-cons (λ y. cond {A = ℕ} (pads_at p b y) 1 0) x passages,
          sum_by-cons (λ y. cond {A = ℕ} (asks_at p b y) 1 0) x passages,
        )

pub pads_asked : PadsWhatWasAsked
pads_asked blocks passages now p b pass = omega (arith, tallies p b blocks passages new_memory now pass)
