-- What a message that is a request or a piece says of its parts.
use Rattle.std.proofs.Common.{◌≡◌, ◌<◌, ℕ, suc, List, [], ◌∷◌, ◌++◌, take, drop, length, refl, sym, ◌∙◌, ap, arith, Contains, remove, length-take}
use Rattle.std.proofs.lemmas.List.{get_or-take, take-append-drop}
use Rattle.std.proofs.Math.Seq.{drop-cons}
use Rattle.bt_wire.specs.declared.message.Ask.{Ask}
use Rattle.bt_wire.specs.declared.message.Message.{Message}
use Rattle.bt_wire.specs.declared.message.Message.TheVariants.{Request, Piece}
use Rattle.bt_connection.specs.ShortBlocks.{ask_of}
use Rattle.bt_connection.specs.Padding.{IsTaken}
use Rattle.bt_connection.specs.PaddingSteps.{IsFirstAt}

abbrev pub ask_in : Message → Ask
ask_in (Request ask) = ask
ask_in _ = ask_of 0 0 0

abbrev pub place_in : Message → Ask
place_in (Piece piece begin bytes) = ask_of piece begin 0
place_in _ = ask_of 0 0 0

abbrev pub bytes_in : Message → List ℕ
bytes_in (Piece piece begin bytes) = bytes
bytes_in _ = []

-- an answer has the place and the length of its request
pub answer_range : (piece begin : ℕ) (bytes others : List ℕ) (ask : Ask) → Piece piece begin bytes ≡ Piece ask.piece ask.begin others
    → length others ≡ ask.length → ask_of piece begin (length bytes) ≡ ask
answer_range piece begin bytes others ask same whole =
    ap (λ (m : Message). ask_of (place_in m).piece (place_in m).begin (length (bytes_in m))) same ∙ ap (λ n. ask_of ask.piece ask.begin n) whole

-- the request that stands first is there, and is taken out
pub is_there : (asked : List Ask) (ask : Ask) (i : ℕ) → IsFirstAt asked ask i → Contains asked ask
is_there asked ask i at = (i, at.inside, at.there ask)

not_before : (asked : List Ask) (ask : Ask) (i : ℕ) → IsFirstAt asked ask i → ¬ Contains (take i asked) ask
not_before asked ask i at found =
    let inside : found.0 < i = omega (arith, found.1, length-take i asked) in
    at.first found.0 ask (omega arith) inside (sym (get_or-take i asked found.0 ask inside) ∙ found.2)

pub is_taken : (asked : List Ask) (ask : Ask) (i : ℕ) → IsFirstAt asked ask i → IsTaken asked ask (remove asked i)
is_taken asked ask i at = record {
  before = take i asked;
  after = drop (suc i) asked;
  was = sym (take-append-drop i asked) ∙ ap (λ (xs : List Ask). take i asked ++ xs) (drop-cons asked i ask at.inside)
      ∙ ap (λ (a : Ask). take i asked ++ a ∷ drop (suc i) asked) (at.there ask);
  first = not_before asked ask i at;
  now = refl;
}
