-- A peer that knows of no padding.
use Rattle.std.proofs.Common.{◌≡◌, ◌≢◌, ℕ, true, false, not, List, length, refl, sym, ◌∙◌, ap, subst, arith, Contains}
use Rattle.std.proofs.lemmas.Bool.Decides.{nat_tests}
use Rattle.std.proofs.lemmas.List.Elements.{All-contains, filter_passes}
use Rattle.bt_wire.specs.declared.message.Ask.{Ask}
use Rattle.bt_wire.specs.declared.message.Message.{Message}
use Rattle.bt_wire.specs.declared.message.Message.TheVariants.{Request, Piece}
use Rattle.bt_connection.specs.ShortBlocks.{ask_of}
use Rattle.bt_connection.specs.Padding.{Memory, new_memory, is_ask, without, AsksPadded, ComesIn, GoesOut, request, exact, piece, other}
use Rattle.bt_connection.specs.Law.{IsSame, IsPlain, PlainPassesThrough}
use Rattle.bt_connection.proofs.MessageParts.{ask_in, answer_range}

itself : (ask : Ask) → is_ask ask ask ≡ true
itself ask = grind (arith, nat_tests)

-- what is taken back is remembered no more
gone : (asked : Memory) (ask : Ask) → ¬ Contains (without asked ask) ask
gone asked ask there =
    let passes : not (is_ask ask ask) ≡ true
    = All-contains (λ y. not (is_ask ask y) ≡ true) (without asked ask) ask (filter_passes (λ y. not (is_ask ask y)) asked) there in
    let no : false ≡ true = ap not (sym (itself ask)) ∙ passes in
    cc

module _ (blocks : List Ask) where
  plain_in : (old new : Memory) (m given : Message) → ((ask : Ask) → ¬ AsksPadded blocks m ask) → ComesIn blocks old m given new
      → IsPlain blocks old m given new
  plain_in old new m given unasked (request ask asks given-is new-is) = absurd (unasked ask asks)
  plain_in old new m given unasked (exact ask asks given-is new-is) = record {
    message = given-is;
    none = λ empty. new-is ∙ ap (λ (xs : Memory). without xs ask) empty;
    memory = λ unasked-too. absurd (unasked-too ask asks);
  }
  plain_in old new m given unasked (other _ given-is new-is) = record { message = given-is; none = λ empty. new-is ∙ empty; memory = λ _. new-is }

  plain_out : (new : Memory) (m given : Message) → GoesOut blocks new_memory m given new → IsSame new_memory m given new
  plain_out new m given (piece ask bytes answers taken given-is) = let none = answers.remembered in absurd (omega (arith, none.1))
  plain_out new m given (other _ given-is new-is) = record { message = given-is; memory = new-is }

  -- after a request without padding for a short block none for it is remembered
  unremembered : (old mid : Memory) (ask : Ask) (asked : Message) → ask.length ≢ 16384 → ComesIn blocks old (Request ask) asked mid
      → Contains blocks ask → ¬ Contains mid ask
  unremembered old mid ask asked short (request long asks given-is mid-is) here there = short (ap (λ (m : Message). (ask_in m).length) asks.1)
  unremembered old mid ask asked short (exact same asks given-is mid-is) here there =
      let one : same ≡ ask = sym (ap ask_in asks.1) in
      gone old ask (subst (λ (xs : Memory). Contains xs ask) (mid-is ∙ ap (without old) one) there)
  unremembered old mid ask asked short (other none given-is mid-is) here there = none.1 ask (here, refl)

  plain_answer : (old mid new : Memory) (ask : Ask) (bytes : List ℕ) (asked given : Message) → ask.length ≢ 16384 → length bytes ≡ ask.length
      → ComesIn blocks old (Request ask) asked mid → GoesOut blocks mid (Piece ask.piece ask.begin bytes) given new
      → given ≡ Piece ask.piece ask.begin bytes
  plain_answer old mid new ask bytes asked given short whole comes (piece found run answers taken given-is) =
      let one : found ≡ ask
      = sym (answer_range ask.piece ask.begin bytes run found answers.message answers.whole) ∙ ap (λ n. ask_of ask.piece ask.begin n) whole in
      let here = subst (λ (a : Ask). Contains blocks a) one answers.short in
      absurd (unremembered old mid ask asked short comes here (subst (λ (a : Ask). Contains mid a) one answers.remembered))
  plain_answer old mid new ask bytes asked given short whole comes (other _ given-is new-is) = given-is

pub plain : PlainPassesThrough
plain = record { incoming = plain_in; outgoing = plain_out; answer = plain_answer }
