-- A message that is longer than a request passes as it is.
use Rattle.std.proofs.Common.{◌≡◌, ◌<◌, ◌-◌, ℕ, List, [], ◌++◌, take, length, Option, Some, None, refl, sym, ◌∙◌, ap, subst, arith, append-nil}
use Rattle.std.specs.Io.KnownBytes.{Consumes, Keeps, IsAtEnd}
use Rattle.bt_wire.specs.Message.{message_spelling}
use Rattle.bt_wire.specs.declared.message.Ask.{Ask}
use Rattle.bt_connection.specs.declared.translation.Side.{Side}
use Rattle.bt_connection.specs.declared.translation.Side.TheVariants.{Peer}
use Rattle.bt_connection.specs.Flow.{Flow, flow}
use Rattle.bt_connection.specs.Messages.{IsBlockLong}
use Rattle.bt_connection.specs.Padding.{other}
use Rattle.bt_connection.specs.Padded.{PaddedState, DirectionState, padded_state, TakesPart, TakesParts, none_yet, one_more, IsRead, KeepsWhatCame, LosesNothing}
use Rattle.bt_connection.specs.ReadAhead.{ReaderState, reader_remaining, IsFilled as IsReadAhead}
use Rattle.bt_connection.specs.ReadAheadSteps.{IsLongGiven}
use Rattle.bt_connection.specs.Translation.{Gives, Receives, settles, translated, passes}
use Rattle.bt_connection.specs.TranslationSteps.{IsBetween}
use Rattle.bt_connection.proofs.ReadsAhead.{given_of, filled_keeps, filled_ends}

-- ---- one message

long_gives : (blocks : List Ask) (message : List ℕ) → IsBlockLong message → Gives blocks Peer [] message message []
long_gives blocks message is = record {
  message = λ m sent. (
    m,
    other (
      λ ask asks. omega (arith, is.size, ap (λ (l : List ℕ). length l) (sent.spelled ∙ ap message_spelling asks.1)),
      λ ask asks. omega (arith, is.size, ap (λ (l : List ℕ). length l) (sent.spelled ∙ ap message_spelling asks.1)),
    ) refl refl,
    sent.spelled,
  );
  bytes = λ none. refl;
  memory = λ none. refl;
}

long_receives : (blocks : List Ask) (message : List ℕ) → IsBlockLong message → Receives blocks Peer (flow 0 []) message (flow 0 []) message
long_receives blocks message is = settles refl (translated [] [] is.frame (long_gives blocks message is) refl)

module _ {R : Type 0} (remaining : R → Option (List ℕ)) where
  -- it is given where it was read ahead
  pub long_read : (inner filled inner' : ReaderState R) (d d' : DirectionState) (count : ℕ) (buffer : List ℕ)
      → IsReadAhead remaining inner filled → IsBetween d → IsLongGiven filled (take count buffer ++ d'.waiting) inner'
      → d' ≡ record d { waiting = d'.waiting } → 0 < count
      → IsRead (reader_remaining remaining) (padded_state inner d) count buffer (padded_state inner' d')
  long_read inner filled inner' d d' count buffer fills between given same some =
      let message : List ℕ = take count buffer ++ d'.waiting in
      let size = given.long.size in
      let mid : DirectionState = record d { waiting = message } in
      let lost = subst (λ (i : R). Consumes (remaining inner.inner) (remaining i) fills.came) (sym given.inner) fills.takes.lost in
      let receives = subst (λ (s : Side). Receives d.blocks s d.flow message d.flow message) (sym between.side)
      (subst (λ (f : Flow). Receives d.blocks Peer f message f message) (sym between.flow) (long_receives d.blocks message given.long)) in
      record {
        filled = padded_state inner' mid;
        fills = record {
          came = message;
          takes = one_more [] message (padded_state inner d) (padded_state inner' mid) none_yet (record {
            given = message;
            few = omega (arith, size);
            lost = given_of (remaining inner.inner) (remaining inner'.inner) inner.waiting fills.came message inner'.waiting lost
                (sym fills.takes.waits ∙ given.first);
            receives = receives;
            waits = ap (λ (l : List ℕ). l ++ message) (sym between.waiting);
            side = refl;
            blocks = refl;
          });
          ended = λ none. absurd (omega (arith, size, ap (λ (l : List ℕ). length l) none));
        };
        gives = record {
          first = refl;
          all = λ none room. absurd (omega (arith, none, some));
          others = ap (λ (e : DirectionState). padded_state inner' e) same;
        };
        ended = λ none room. absurd (omega (arith, none, some));
      }

-- ---- a read after one that gave nothing

keeps_none : (before after : Option (List ℕ)) → Keeps before after → Consumes before after []
keeps_none None after kept = tt
keeps_none (Some x) None kept = absurd kept
keeps_none (Some x) (Some y) kept = sym kept

module _ {R : Type 0} (remaining : R → Option (List ℕ)) (old mid : PaddedState R) (loses : LosesNothing remaining old mid) where
  nothing_taken : TakesPart remaining old [] mid
  nothing_taken =
      let others = loses.others in
      let passing : old.flow.passing ≡ old.flow.passing - 0 = omega arith in
      record {
        given = [];
        few = omega arith;
        lost = keeps_none (remaining old.inner) (remaining mid.inner) loses.kept;
        receives = passes (omega arith) (ap (λ (s : PaddedState R). s.flow) others ∙ ap (λ (n : ℕ). flow n old.flow.unread) passing) refl;
        waits = ap (λ (s : PaddedState R). s.waiting) others ∙ sym (append-nil old.waiting);
        side = ap (λ (s : PaddedState R). s.side) others;
        blocks = ap (λ (s : PaddedState R). s.blocks) others;
      }

  takes_after : (came : List ℕ) (now : PaddedState R) → TakesParts remaining mid came now → TakesParts remaining old came now
  takes_after came now none_yet = one_more [] [] old mid none_yet nothing_taken
  takes_after came now (one_more before part last now' so t) = one_more before part last now' (takes_after before last so) t

  pub read_after : (count : ℕ) (buffer : List ℕ) (new : PaddedState R) → IsRead remaining mid count buffer new → IsRead remaining old count buffer new
  read_after count buffer new read = record {
    filled = read.filled;
    fills = record { came = read.fills.came; takes = takes_after read.fills.came read.filled read.fills.takes; ended = read.fills.ended };
    gives = read.gives;
    ended = read.ended;
  }

  pub again_after : (new : PaddedState R) → KeepsWhatCame remaining mid new → KeepsWhatCame remaining old new
  again_after new again = record {
    came = again.came;
    mid = again.mid;
    takes = takes_after again.came again.mid again.takes;
    loses_nothing = again.loses_nothing;
  }

  pub again_at_once : KeepsWhatCame remaining old mid
  again_at_once = record { came = []; mid = old; takes = none_yet; loses_nothing = loses }

-- ---- at the end of the inner reader

module _ {R : Type 0} (remaining : R → Option (List ℕ)) where
  ended_read : (p : PaddedState R) (buffer : List ℕ) → p.waiting ≡ [] → IsAtEnd (remaining p.inner) → IsRead remaining p 0 buffer p
  ended_read p buffer none at_end = record {
    filled = p;
    fills = record { came = []; takes = none_yet; ended = λ waits. at_end };
    gives = record { first = refl; all = λ given room. none; others = refl };
    ended = λ given room. at_end;
  }

module _ {R : Type 0} (remaining : R → Option (List ℕ)) where
  -- none is given where nothing may be given of what was read ahead
  pub end_read : (inner filled : ReaderState R) (d : DirectionState) (buffer : List ℕ) → IsReadAhead remaining inner filled
      → d.waiting ≡ [] → filled.ready ≡ 0
      → IsRead (reader_remaining remaining) (padded_state inner d) 0 buffer (padded_state filled d)
  end_read inner filled d buffer fills none unready =
      let old : PaddedState (ReaderState R) = padded_state inner d in
      let mid : PaddedState (ReaderState R) = padded_state filled d in
      let loses : LosesNothing (reader_remaining remaining) old mid = record { kept = filled_keeps remaining inner filled fills; others = refl } in
      read_after (reader_remaining remaining) old mid loses 0 buffer mid
      (ended_read (reader_remaining remaining) mid buffer none (filled_ends remaining inner filled fills unready))
