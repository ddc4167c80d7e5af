-- What calls make of parts, one after the other.
use Rattle.std.proofs.Common.{◌≡◌, ℕ, zero, suc, ◌+◌, ◌<◌, ◌≤◌, List, [], ◌∷◌, ◌++◌, length, get_or, set, Option, Some, Result, Ok, Err, inr, true, refl, subst, arith}
use Rattle.std.specs.Prelude.{⊤, IfSome, pos}
use Rattle.std.specs.List.{AllZip}
use Rattle.std.specs.Process.{exit_code}
use Rattle.std.specs.declared.process.status.ExitStatus.{ExitStatus}
use Rattle.bt_jobs.specs.Parts.{Becomes, HasNotFailed, IsDone, IsOver, IsPart, IsSeen, PartState, looked, passed, told_to_end, waited_for}
use Rattle.bt_jobs.specs.PartsSteps.{IsAny, TurnAll, Turns}
use Rattle.bt_jobs.specs.Starts.{Start}

-- ---- one part

module _ {P : Type 0} (stands : P → PartState → Type 0) where
  -- it was passed a text whole
  pub passed_whole : {T E : Type 0} (text : List ℕ) (r : Result T E) (x : T) (old new : P) → r ≡ Ok x → Becomes stands old (passed text r) new
      → Turns stands HasNotFailed (IsSeen text 0) old new
  passed_whole {T} {E} text r x old new is did =
      let done = subst (λ (q : Result T E). Becomes stands old (passed text q) new) is did in
      λ start part. record {
        state = record part.state { text = Some text };
        stand = done part.state part.stand;
        same = part.same;
        holds = record { has = refl; often = omega arith; well = part.holds };
      }

  -- and was not
  pub passed_or_not : {T E : Type 0} (text : List ℕ) (r : Result T E) (old new : P) → Becomes stands old (passed text r) new
      → Turns stands IsAny IsAny old new
  passed_or_not text (Ok x) old new did =
      λ start part. record { state = record part.state { text = Some text }; stand = did part.state part.stand; same = part.same; holds = tt }
  passed_or_not text (Err e) old new did = λ start part. record { state = part.state; stand = did part.state part.stand; same = part.same; holds = tt }

  -- it was told to end, and waited for then
  pub ended_over : {E : Type 0} (r : Result ExitStatus E) (old mid new : P) → Becomes stands old told_to_end mid → Becomes stands mid (waited_for r) new
      → Turns stands IsAny IsOver old new
  ended_over (Ok status) old mid new told waited = λ start part. record {
    state = record part.state { is_told = true; is_gone = true; status = Some status };
    stand = waited (told_to_end part.state) (told part.state part.stand);
    same = part.same;
    holds = inr refl;
  }
  ended_over (Err e) old mid new told waited = λ start part. record {
    state = record part.state { is_told = true; is_gone = true };
    stand = waited (told_to_end part.state) (told part.state part.stand);
    same = part.same;
    holds = inr refl;
  }

  -- it was looked at
  pub looked_any : {E : Type 0} (r : Result (Option ExitStatus) E) (old new : P) → Becomes stands old (looked r) new → Turns stands IsAny IsAny old new
  looked_any (Ok status) old new did = λ start part. record { state = record part.state { looks = part.state.looks + 1; status = status }; stand = did part.state part.stand; same = part.same; holds = tt }
  looked_any (Err e) old new did = λ start part. record { state = record part.state { looks = part.state.looks + 1 }; stand = did part.state part.stand; same = part.same; holds = tt }

  pub looked_well : {E : Type 0} (r : Result (Option ExitStatus) E) (status : Option ExitStatus) (old new : P) → r ≡ Ok status
      → Becomes stands old (looked r) new → IfSome status (λ s. exit_code s ≡ Some (pos 0)) → (text : List ℕ) (looks : ℕ)
      → Turns stands (IsSeen text looks) (IsSeen text (looks + 1)) old new
  looked_well {E} r status old new is did well text looks =
      let done = subst (λ (q : Result (Option ExitStatus) E). Becomes stands old (looked q) new) is did in
      λ start part. record {
        state = record part.state { looks = part.state.looks + 1; status = status };
        stand = done part.state part.stand;
        same = part.same;
        holds = record { has = part.holds.has; often = omega (arith, part.holds.often); well = well };
      }

  -- it was waited for
  pub waited_any : {E : Type 0} (r : Result ExitStatus E) (old new : P) → Becomes stands old (waited_for r) new → Turns stands IsAny IsAny old new
  waited_any (Ok status) old new did = λ start part. record { state = record part.state { is_gone = part.state.is_told; status = Some status }; stand = did part.state part.stand; same = part.same; holds = tt }
  waited_any (Err e) old new did = λ start part. record { state = record part.state { is_gone = part.state.is_told }; stand = did part.state part.stand; same = part.same; holds = tt }

  pub waited_well : {E : Type 0} (r : Result ExitStatus E) (status : ExitStatus) (old new : P) → r ≡ Ok status → Becomes stands old (waited_for r) new
      → exit_code status ≡ Some (pos 0) → (text : List ℕ) (looks : ℕ) → Turns stands (IsSeen text looks) (IsDone text) old new
  waited_well {E} r status old new is did well text looks =
      let done = subst (λ (q : Result ExitStatus E). Becomes stands old (waited_for q) new) is did in
      λ start part. record {
        state = record part.state { is_gone = part.state.is_told; status = Some status };
        stand = done part.state part.stand;
        same = part.same;
        holds = (part.holds.has, record { status = status; ended = refl; well = well });
      }

  -- of a part something is true, and so something else
  pub part_weaker : (before after : PartState → Type 0) → ((state : PartState) → before state → after state) → (part : P) (start : Start)
      → IsPart stands before part start → IsPart stands after part start
  part_weaker before after f part start p = record { state = p.state; stand = p.stand; same = p.same; holds = f p.state p.holds }

-- ---- several, as a loop goes through them

module _ {A B : Type 0} (Done Left : A → B → Type 0) where
  -- the first `i` are done, and the others are left
  abbrev pub Split : ℕ → List A → List B → Type 0
  Split zero xs ys = AllZip Left xs ys
  Split (suc i) [] [] = ⊤
  Split (suc i) [] (y ∷ ys) = ⊥
  Split (suc i) (x ∷ xs) [] = ⊥
  Split (suc i) (x ∷ xs) (y ∷ ys) = Done x y × Split i xs ys

  split_suc : (i : ℕ) (xs : List A) (ys : List B) (d x : A) → i < length xs → ((y : B) → Left (get_or xs i d) y → Done x y) → Split i xs ys
      → Split (suc i) (set xs i x) ys
  split_suc i [] ys d x lt step h = absurd (omega (arith, lt))
  split_suc zero (a ∷ xs) [] d x lt step h = absurd h
  split_suc zero (a ∷ xs) (y ∷ ys) d x lt step h = (step y h.0, h.1)
  split_suc (suc i) (a ∷ xs) [] d x lt step h = absurd h
  split_suc (suc i) (a ∷ xs) (y ∷ ys) d x lt step h = (h.0, split_suc i xs ys d x (omega (arith, lt)) step h.1)

  -- all are done
  split_all : (i : ℕ) (xs : List A) (ys : List B) → length xs ≤ i → Split i xs ys → AllZip Done xs ys
  split_all zero [] [] le h = tt
  split_all zero [] (y ∷ ys) le h = h
  split_all zero (x ∷ xs) ys le h = absurd (omega (arith, le))
  split_all (suc i) [] [] le h = tt
  split_all (suc i) [] (y ∷ ys) le h = h
  split_all (suc i) (x ∷ xs) [] le h = h
  split_all (suc i) (x ∷ xs) (y ∷ ys) le h = (h.0, split_all i xs ys (omega (arith, le)) h.1)

-- one is set
zip_set : {A B : Type 0} (R : A → B → Type 0) (xs : List A) (ys : List B) (i : ℕ) (d x : A) → ((y : B) → R (get_or xs i d) y → R x y) → AllZip R xs ys
    → AllZip R (set xs i x) ys
zip_set R [] ys i d x step h = h
zip_set R (a ∷ xs) [] i d x step h = absurd h
zip_set R (a ∷ xs) (y ∷ ys) zero d x step h = (step y h.0, h.1)
zip_set R (a ∷ xs) (y ∷ ys) (suc i) d x step h = (h.0, zip_set R xs ys i d x step h.1)

pub zip_push : {A B : Type 0} (R : A → B → Type 0) (xs : List A) (ys : List B) (x : A) (y : B) → AllZip R xs ys → R x y
    → AllZip R (xs ++ x ∷ []) (ys ++ y ∷ [])
zip_push R [] [] x y h r = (r, tt)
zip_push R [] (b ∷ ys) x y h r = absurd h
zip_push R (a ∷ xs) [] x y h r = absurd h
zip_push R (a ∷ xs) (b ∷ ys) x y h r = (h.0, zip_push R xs ys x y h.1 r)

pub zip_weaker : {A B : Type 0} (Q R : A → B → Type 0) → ((x : A) (y : B) → Q x y → R x y) → (xs : List A) (ys : List B) → AllZip Q xs ys → AllZip R xs ys
zip_weaker Q R f [] [] h = tt
zip_weaker Q R f [] (y ∷ ys) h = h
zip_weaker Q R f (x ∷ xs) [] h = h
zip_weaker Q R f (x ∷ xs) (y ∷ ys) h = (f x y h.0, zip_weaker Q R f xs ys h.1)

module _ {P : Type 0} (stands : P → PartState → Type 0) where
  -- the first `i` of some parts are turned
  abbrev pub TurnSome : (before after : PartState → Type 0) (i : ℕ) (old new : List P) → Type 0
  TurnSome before after i old new =
      (begun : List Start) → AllZip (IsPart stands before) old begun → Split (IsPart stands after) (IsPart stands before) i new begun

  module _ (before after : PartState → Type 0) where
    pub turned_none : (old : List P) → TurnSome before after 0 old old
    turned_none old = λ begun h. h

    pub turned_more : (i : ℕ) (old now : List P) (d x : P) → i < length now → TurnSome before after i old now → Turns stands before after (get_or now i d) x
        → TurnSome before after (i + 1) old (set now i x)
    turned_more i old now d x lt some one =
        let next : suc i ≡ i + 1 = omega arith in
        λ begun h. subst (λ n. Split (IsPart stands after) (IsPart stands before) n (set now i x) begun) next
        (split_suc (IsPart stands after) (IsPart stands before) i now begun d x lt one (some begun h))

    pub turned_all : (i : ℕ) (old now : List P) → length now ≤ i → TurnSome before after i old now → TurnAll stands before after old now
    turned_all i old now le some = λ begun h. split_all (IsPart stands after) (IsPart stands before) i now begun le (some begun h)

  -- of one no more is said
  pub turned_any : (i : ℕ) (old now : List P) (d x : P) → TurnAll stands IsAny IsAny old now → Turns stands IsAny IsAny (get_or now i d) x
      → TurnAll stands IsAny IsAny old (set now i x)
  turned_any i old now d x all one = λ begun h. zip_set (IsPart stands IsAny) now begun i d x one (all begun h)

  pub unturned : (holds : PartState → Type 0) (old : List P) → TurnAll stands holds holds old old
  unturned holds old = λ begun h. h
