-- What is said of each number of an event's notes, one note after the other.
use Rattle.bt_machine.proofs.Base.{[], ◌≡◌, ℕ, ◌+◌, ◌<◌, ◌≤◌, Bool, true, false, List, ◌∷◌, ◌++◌, length, map, flat_map, drop, get_or, Option, Some, None, refl, sym, ap, ◌∙◌, arith, slice_get, if◌then◌else◌, option_map_or, range_with_len, append-nil, length-append, get_or_append_left, get_or-range_with_len, length-range_with_len, total_pieces}
use Rattle.std.specs.Prelude.{◌==◌, filter_map}
use Rattle.std.specs.List.{cons_option}
use Rattle.std.specs.Option.{option_or}
use Rattle.std.proofs.Common.{append_assoc, add-one}
use Rattle.std.proofs.Math.Seq.{drop-cons}
use Rattle.std.proofs.lemmas.List.{drop_all}
use Rattle.bt_book.specs.Book.{BookState}
use Rattle.bt_wire.specs.declared.message.Message.TheVariants.{Have}
use Rattle.bt_machine.specs.declared.answer.Frame.TheVariants.{Message as message_frame}
use Rattle.bt_machine.specs.declared.answer.Note.{Note}
use Rattle.bt_machine.specs.State.{EngineState}
use Rattle.bt_machine.specs.Blocks.{is_whole, piece_numbers}
use Rattle.bt_machine.specs.Output.{Sent, sent_to}
use Rattle.bt_machine.proofs.Lists.{some_is}
use Rattle.bt_engine_state.specs.Parts.{peer_of}
use Rattle.bt_engine_state.specs.Ties.{AreUnmarked}
use Rattle.bt_engine_state.specs.declared.peer.Peer.{Peer}
use Rattle.bt_engine_state.proofs.Lists.{get_mapped, get_at}
use Rattle.bt_engine_state.proofs.Wholes.{wholes_are}
use Rattle.bt_engine.specs.NewsSteps.{unless_last, without_repeats}

-- the number that is left is the note's
pub unless_some : (o last : Option ℕ) {k : ℕ} → unless_last o last ≡ Some k → o ≡ Some k
unless_some None last e = absurd cc
unless_some (Some n) last {k} e = by (option_map_or (λ m. m == n) last false) e
  where
    by : (t : Bool) → (if t then None else Some n) ≡ Some k → Some n ≡ Some k
    by true e = absurd cc
    by false e = e

-- ---- what is said of the numbers of notes

-- of numbers the first is left, where it is another than the last one before it
first_left : (o last : Option ℕ) (ns : List ℕ)
    → without_repeats last (cons_option o ns) ≡ cons_option (unless_last o last) (without_repeats (option_or (unless_last o last) last) ns)
first_left None last ns = refl
first_left (Some n) last ns = by (option_map_or (λ m. m == n) last false)
  where
    by : (t : Bool) → (if t then without_repeats last ns else n ∷ without_repeats (Some n) ns)
        ≡ cons_option (if t then None else Some n) (without_repeats (option_or (if t then None else Some n) last) ns)
    by true = refl
    by false = refl

module _ {X : Type 0} (tell : ℕ → List X) (f : Note → Option ℕ) where
  -- what is said of notes after this last number
  abbrev pub said : Option ℕ → List Note → List X
  said last notes = flat_map tell (without_repeats last (filter_map f notes))

  module _ (last : Option ℕ) (notes : List Note) where
    module _ (i : ℕ) (d : Note) (items all : List X) (lt : i < length notes) where
      first : {o : Option ℕ} → unless_last (f (get_or notes i d)) last ≡ o
          → without_repeats last (filter_map f (drop i notes)) ≡ cons_option o (without_repeats (option_or o last) (filter_map f (drop (i + 1) notes)))
      first is =
          ap (λ (ns : List Note). without_repeats last (filter_map f ns)) (drop-cons notes i d lt)
          ∙ ap (λ n. without_repeats last (cons_option (f (get_or notes i d)) (filter_map f (drop n notes)))) (sym (add-one i))
          ∙ first_left (f (get_or notes i d)) last (filter_map f (drop (i + 1) notes))
          ∙ ap (λ o. cons_option o (without_repeats (option_or o last) (filter_map f (drop (i + 1) notes)))) is

      -- nothing is said of this note
      pub skipped : unless_last (f (get_or notes i d)) last ≡ None → items ++ said last (drop i notes) ≡ all → items ++ said last (drop (i + 1) notes) ≡ all
      skipped none e = ap (λ (ns : List ℕ). items ++ flat_map tell ns) (sym (first none)) ∙ e

      -- what is to be said of its number is said
      pub taken : (new : List X) (k : ℕ) → unless_last (f (get_or notes i d)) last ≡ Some k → new ≡ items ++ tell k
          → items ++ said last (drop i notes) ≡ all → new ++ said (Some k) (drop (i + 1) notes) ≡ all
      taken new k some is e =
          let rest = said (Some k) (drop (i + 1) notes) in
          ap (λ xs. xs ++ rest) is ∙ append_assoc items (tell k) rest ∙ ap (λ (ns : List ℕ). items ++ flat_map tell ns) (sym (first some)) ∙ e

    -- no note is left
    pub finished : (i : ℕ) (items all : List X) → length notes ≤ i → items ++ said last (drop i notes) ≡ all → items ≡ all
    finished i items all past e =
        sym (append-nil items) ∙ ap (λ ns. items ++ said last ns) (sym (drop_all i notes past)) ∙ e

-- ---- haves

-- a have of the piece to this peer
abbrev pub have_to : ℕ → Peer → Sent
have_to piece p = (p.key, message_frame (Have piece))

pub haves_alike : (book : BookState) (piece : ℕ) (peers : List Peer) → map (have_to piece) peers ≡ map (λ p. sent_to p (Have piece)) (map (peer_of book) peers)
haves_alike book piece [] = refl
haves_alike book piece (p ∷ ps) = ap (λ xs. have_to piece p ∷ xs) (haves_alike book piece ps)

range_at : (n i : ℕ) → i < n → slice_get (range_with_len 0 n) i ≡ Some i
range_at n i lt =
    get_at (range_with_len 0 n) i 0 (omega (arith, length-range_with_len 0 n)) ∙ ap (λ k. Some k) (get_or-range_with_len 0 n i 0 lt ∙ (let e : 0 + i ≡ i = omega arith in e))

-- the count of a piece's unmarked blocks says whether it is whole
pub whole_is : (s : EngineState) (counts : List ℕ) (piece : ℕ) {n : ℕ} → AreUnmarked s counts → piece < total_pieces s.torrent
    → slice_get counts piece ≡ Some n → is_whole s piece ≡ (n == 0)
whole_is s counts piece {n} are lt at =
    some_is (sym (get_mapped (is_whole s) (piece_numbers s) piece (range_at (total_pieces s.torrent) piece lt))
    ∙ ap (λ (bs : List Bool). slice_get bs piece) (sym (wholes_are s counts are)) ∙ get_mapped (λ m. m == 0) counts piece at)

-- ---- a list that grows while its first elements are looked at

pub record Begins (old new : List Note) : Type 0 where
  pub more : List Note
  pub is : new ≡ old ++ more

pub begins_then : {old new then_ : List Note} (more : List Note) → Begins old new → then_ ≡ new ++ more → Begins old then_
begins_then {old} more b e = record {
  more = b.more ++ more;
  is = e ∙ ap (λ ns. ns ++ more) b.is ∙ append_assoc old b.more more;
}

pub begins_long : {old new : List Note} → Begins old new → length old ≤ length new
begins_long {old} b = omega (arith, ap (λ (ns : List Note). length ns) b.is, length-append old b.more)

pub begins_at : {old new : List Note} (i : ℕ) (d : Note) → Begins old new → i < length old → get_or new i d ≡ get_or old i d
begins_at {old} i d b lt = ap (λ ns. get_or ns i d) b.is ∙ get_or_append_left old b.more d i lt
