use Rattle.std.proofs.Common.{◌≡◌, ◌+◌, ◌++◌, Option, Some, None, List, ℕ, take, drop, length, refl, sym, ◌∙◌, ap, subst, Contains}
use Rattle.bt_wire.specs.Event.{IsSent}
use Rattle.bt_wire.specs.Message.{message_spelling}
use Rattle.bt_wire.specs.declared.message.Ask.{Ask}
use Rattle.bt_wire.specs.declared.message.Message.TheVariants.{Request}
use Rattle.bt_connection.specs.ShortBlocks.{ask_of, padded}
use Rattle.bt_connection.specs.Padding.{Memory, with_asked, without}
use Rattle.bt_connection.specs.Translation.{Gives}
use Rattle.bt_connection.specs.declared.translation.Side.TheVariants.{Peer}
use Rattle.bt_connection.proofs.Giving.{request_passes, request_exact, request_shortened, shortened}
use Rattle.bt_connection.proofs.padding.Padding.incoming.Goals as goal

abbrev length_in : Option Ask → ℕ
length_in (Some ask) = ask.length
length_in None = 0

-- the request names the block's place, and this length
named : (ask short : Ask) (n : ℕ) → short.piece ≡ ask.piece → short.begin ≡ ask.begin → ask.length ≡ n
    → ask_of ask.piece ask.begin ask.length ≡ ask_of short.piece short.begin n
named ask short n piece begin long =
    ap (λ p. ask_of p ask.begin ask.length) (sym piece) ∙ ap (λ b. ask_of short.piece b ask.length) (sym begin)
    ∙ ap (λ m. ask_of short.piece short.begin m) long

pub returns-in_default-at : goal.returns-in_default-at
returns-in_default-at c =
    let ask : Ask = c.in-Some.ask in
    request_passes c.streams_have_one_reading.ensures c.args.blocks.now c.args.self.now c.args.frame.now ask
    (subst (λ (xs : List ℕ). IsSent (Request ask) xs) c.as_slice.ensures.value c.in-Some.ensures.some)
    (λ short there same.
    let found : None ≡ Some short
    = sym c.in_default-at.is ∙ c.at.ensures.only short there (ap (λ (a : Ask). a.piece) (sym same)) (ap (λ (a : Ask). a.begin) (sym same)) in
    cc)
    (λ there. let found : None ≡ Some ask = sym c.in_default-at.is ∙ c.at.ensures.only ask there refl refl in cc)

pub returns-then-ask : goal.returns-then-ask
returns-then-ask c =
    let short : Ask = c.in-Some-at.short in
    let ask : Ask = c.in-Some.ask in
    let old : Memory = c.args.self.now in
    let frame : List ℕ = c.args.frame.now in
    let sent : IsSent (Request ask) frame = subst (λ (xs : List ℕ). IsSent (Request ask) xs) c.as_slice.ensures.value c.in-Some.ensures.some in
    let same : ask ≡ padded short = named ask short 16384 c.in-Some-at.ensures.piece c.in-Some-at.ensures.begin c.if-ask.true in
    let is = shortened short frame (sent.spelled ∙ ap (λ (a : Ask). message_spelling (Request a)) same) in
    subst (λ (m : Memory). Gives c.args.blocks.now Peer old frame c.put.new.self m)
    (sym (c.remember.ensures ∙ ap (λ (m : Memory). with_asked m short) c.take_back.ensures))
    (subst (λ (xs : List ℕ). Gives c.args.blocks.now Peer old frame xs (with_asked (without old short) short))
    (sym is ∙ ap (λ (b : List ℕ). (take 13 frame ++ b) ++ drop (13 + length b) frame) (sym c.to_be_bytes.ensures) ∙ sym c.put.ensures)
    (request_shortened c.streams_have_one_reading.ensures c.args.blocks.now old frame ask short sent c.in-Some-at.ensures.some same))

pub returns-then-ask-short : goal.returns-then-ask-short
returns-then-ask-short c =
    let short : Ask = c.in-Some-at.short in
    let ask : Ask = c.in-Some.ask in
    let old : Memory = c.args.self.now in
    let frame : List ℕ = c.args.frame.now in
    let sent : IsSent (Request ask) frame = subst (λ (xs : List ℕ). IsSent (Request ask) xs) c.as_slice.ensures.value c.in-Some.ensures.some in
    let same : ask ≡ short = named ask short short.length c.in-Some-at.ensures.piece c.in-Some-at.ensures.begin c.if-ask-short.true in
    subst (λ (m : Memory). Gives c.args.blocks.now Peer old frame frame m) (ap (without old) same ∙ sym c.take_back-then-ask-short.ensures)
    (request_exact c.streams_have_one_reading.ensures c.args.blocks.now old frame ask sent
    (subst (λ (a : Ask). Contains c.args.blocks.now a) (sym same) c.in-Some-at.ensures.some))

pub returns-else-ask-short : goal.returns-else-ask-short
returns-else-ask-short c =
    let short : Ask = c.in-Some-at.short in
    let ask : Ask = c.in-Some.ask in
    request_passes c.streams_have_one_reading.ensures c.args.blocks.now c.args.self.now c.args.frame.now ask
    (subst (λ (xs : List ℕ). IsSent (Request ask) xs) c.as_slice.ensures.value c.in-Some.ensures.some)
    (λ other there same. c.if-ask.false (ap (λ (a : Ask). a.length) same))
    (λ there.
    let found : Some short ≡ Some ask = c.in-Some-at.ensures.only ask there refl refl in
    c.if-ask-short.false (ap length_in (sym found)))
