-- What is read of a reader that reads ahead, as bytes that are known.
use Rattle.std.proofs.Common.{◌≡◌, ◌<◌, ℕ, Bool, true, false, eq-zero-or-pos, ⊎_elim, List, [], ◌++◌, take, Option, None, Some, sym, ◌∙◌, ap, subst, arith, append_assoc}
use Rattle.std.proofs.lemmas.Bool.{false≢true}
use Rattle.std.proofs.KnownBytes.{Consumes-kept}
use Rattle.bt_connection.specs.ReadAheadSteps.{KeepsAll}
use Rattle.std.specs.Io.KnownBytes.{Consumes, Keeps, IsAtEnd, prepend_known}
use Rattle.bt_connection.specs.ReadAhead.{ReaderState, Takes, IsFilled, IsGiven, IsRead, LosesNothing, reader_remaining}

-- bytes came after those that wait, and then the first were given
pub given_of : (before after : Option (List ℕ)) (old came front new : List ℕ) → Consumes before after came → old ++ came ≡ front ++ new
    → Consumes (prepend_known old before) (prepend_known new after) front
given_of None after old came front new lost same = tt
given_of (Some x) None old came front new lost same = absurd lost
given_of (Some x) (Some y) old came front new lost same =
    ap (λ (l : List ℕ). old ++ l) lost
    ∙ sym (append_assoc old came y)
    ∙ ap (λ (l : List ℕ). l ++ y) same
    ∙ append_assoc front new y

-- bytes came after those that wait
kept_of : (before after : Option (List ℕ)) (old came new : List ℕ) → Consumes before after came → new ≡ old ++ came
    → Keeps (prepend_known old before) (prepend_known new after)
kept_of None after old came new lost same = tt
kept_of (Some x) None old came new lost same = absurd lost
kept_of (Some x) (Some y) old came new lost same =
    ap (λ (l : List ℕ). l ++ y) same ∙ append_assoc old came y ∙ ap (λ (l : List ℕ). old ++ l) (sym lost)

end_of : (after : Option (List ℕ)) (new : List ℕ) → new ≡ [] → IsAtEnd after → IsAtEnd (prepend_known new after)
end_of None new none ended = tt
end_of (Some y) new none ended = ap (λ (l : List ℕ). l ++ y) none ∙ ended

-- a number that is not told to be above zero
pub unready : (told : Bool) (n : ℕ) → told ≡ false → (0 < n → told ≡ true) → n ≡ 0
unready told n untold above =
    ⊎_elim (λ (zero : n ≡ 0). zero) (λ (more : 0 < n). absurd (false≢true (sym untold ∙ above more))) (eq-zero-or-pos n)

-- where nothing may be given of what is the same if something could be
pub unready_before : {R : Type 0} (first now : ReaderState R) → (0 < first.ready → now ≡ first) → now.ready ≡ 0 → first.ready ≡ 0
unready_before {R} first now unasked none = ⊎_elim
    (λ (zero : first.ready ≡ 0). zero)
    (λ (some : 0 < first.ready). absurd (omega (arith, some, none, ap (λ (s : ReaderState R). s.ready) (unasked some))))
    (eq-zero-or-pos first.ready)

module _ {R : Type 0} (remaining : R → Option (List ℕ)) where
  -- what is given at a read comes of what was filled, and is none only at the end
  pub read_of : (old filled new : ReaderState R) (count : ℕ) (buffer : List ℕ) → IsFilled remaining old filled
      → IsGiven filled count buffer new → IsRead remaining old count buffer new
  read_of old filled new count buffer fills gives = record {
    filled = filled;
    fills = fills;
    gives = gives;
    ended = λ none room.
        let unready : filled.ready ≡ 0 = omega (arith, gives.count_is, none, room) in
        let at_end = fills.ended unready in
        let inner : new.inner ≡ filled.inner = ap (λ (s : ReaderState R). s.inner) gives.others in
        let rest : filled.waiting ≡ new.waiting = gives.first ∙ ap (λ (n : ℕ). take n buffer ++ new.waiting) none in
        (subst (λ (i : R). IsAtEnd (remaining i)) (sym inner) at_end.0, sym rest ∙ at_end.1);
  }

  -- until something may be given, or to the end, none of what is to come is lost
  pub filled_keeps : (old filled : ReaderState R) → IsFilled remaining old filled
      → Keeps (reader_remaining remaining old) (reader_remaining remaining filled)
  filled_keeps old filled fills =
      kept_of (remaining old.inner) (remaining filled.inner) old.waiting fills.came filled.waiting fills.takes.lost fills.takes.waits

  -- and none is to come where nothing may be given
  pub filled_ends : (old filled : ReaderState R) → IsFilled remaining old filled → filled.ready ≡ 0
      → IsAtEnd (reader_remaining remaining filled)
  filled_ends old filled fills none =
      let at_end = fills.ended none in
      end_of (remaining filled.inner) filled.waiting at_end.1 at_end.0

  -- an error of the inner reader, after other bytes came
  pub lost_after : (first now new : ReaderState R) (came : List ℕ) → Takes remaining first came now → KeepsAll remaining now new
      → first.ready ≡ 0 → now.ready ≡ 0 → first.owed ≡ now.owed → LosesNothing remaining first new
  lost_after first now new came takes keeps asked none place = record {
    came = came;
    takes = record {
      lost = Consumes-kept (remaining first.inner) (remaining now.inner) (remaining new.inner) came takes.lost keeps.kept;
      waits = ap (λ (s : ReaderState R). s.waiting) keeps.others ∙ takes.waits;
    };
    asked = asked;
    none_yet = ap (λ (s : ReaderState R). s.ready) keeps.others ∙ none;
    place = ap (λ (s : ReaderState R). s.owed) keeps.others ∙ sym place;
  }
