-- Parts are started by commands, one after the other.
use Rattle.std.proofs.Common.{◌≡◌, ℕ, ◌+◌, ◌≤◌, List, [], ◌∷◌, ◌++◌, length, map, Result, Ok, Err, IfOk, OnOk, inl, inr, refl, sym, ap, ◌∙◌, subst, append-nil, append_assoc, arith}
use Rattle.std.specs.Prelude.{IsErrAnd, OnErr}
use Rattle.std.specs.List.{All, AllZip, range_with_len}
use Rattle.std.specs.Process.{command_args, command_program}
use Rattle.std.specs.declared.process.command.Command.{Command}
use Rattle.std.proofs.lemmas.List.{length-append, length-map, map-append, nil_from_length}
use Rattle.std.proofs.lemmas.List.Elements.{All-head, All-tail}
use Rattle.std.proofs.lemmas.List.FromFn.{length-range_with_len}
use Rattle.bt_jobs.specs.Children.{program_text}
use Rattle.bt_jobs.specs.Parts.{AreStarted, HasNotFailed, IsDone, IsOver, IsPart, IsSeen, NoneIsLeft, PartState, newly, none, more}
use Rattle.bt_jobs.specs.PartsSteps.{IsAny, IsOneAtMost, IsOneMore, TurnAll, Turns}
use Rattle.bt_jobs.specs.Starts.{Start, start_of, start_with}
use Rattle.bt_jobs.proofs.Turning.{part_weaker, zip_push, zip_weaker}

module _ {S P : Type 0} (starts : S → Start → S → Type 0) (stands : P → PartState → Type 0) where
  -- nothing was started
  pub none_left : (old : S) → NoneIsLeft starts stands old old
  none_left old = record { begun = []; parts = []; over = record { started = none; stand = tt } }

  -- of the same parts another thing holds
  pub started_turned : (before after : PartState → Type 0) (old new : S) (begun : List Start) (parts turned : List P)
      → AreStarted starts stands before old begun new parts → TurnAll stands before after parts turned → AreStarted starts stands after old begun new turned
  started_turned before after old new begun parts turned are turn = record { started = are.started; stand = turn begun are.stand }

  pub started_weaker : (before after : PartState → Type 0) → ((state : PartState) → before state → after state) → (old new : S) (begun : List Start) (parts : List P)
      → AreStarted starts stands before old begun new parts → AreStarted starts stands after old begun new parts
  started_weaker before after f old new begun parts are = record {
    started = are.started;
    stand = zip_weaker (IsPart stands before) (IsPart stands after) (part_weaker stands before after f) parts begun are.stand;
  }

  -- all are over that are done
  pub done_over : (text : List ℕ) (old new : S) (begun : List Start) (parts : List P) → AreStarted starts stands (IsDone text) old begun new parts
      → AreStarted starts stands IsOver old begun new parts
  done_over text = started_weaker (IsDone text) IsOver (λ state done. inl done.1)

  -- whatever was done with them
  pub started_any : (text : List ℕ) (old new : S) (begun : List Start) (parts : List P) → AreStarted starts stands (IsSeen text 0) old begun new parts
      → (now : List Start) × AreStarted starts stands IsAny old now new parts
  started_any text old new begun parts are = (begun, started_weaker (IsSeen text 0) IsAny (λ state seen. tt) old new begun parts are)

  -- one more was started
  one_more : (holds : PartState → Type 0) (old mid new : S) (begun : List Start) (start : Start) (parts after : List P)
      → AreStarted starts stands holds old begun mid parts → IsOneMore starts stands holds start mid new parts after
      → AreStarted starts stands holds old (begun ++ start ∷ []) new after
  one_more holds old mid new begun start parts after are one = record {
    started = more begun start mid new are.started one.started;
    stand = subst (λ ps. AllZip (IsPart stands holds) ps (begun ++ start ∷ [])) (sym one.kept)
        (zip_push (IsPart stands holds) parts begun one.part start are.stand one.stand);
  }

  -- or was not
  pub one_at_most : (old mid new : S) (begun : List Start) (start : Start) (parts after : List P) → AreStarted starts stands IsAny old begun mid parts
      → IsOneAtMost starts stands start mid new parts after → (now : List Start) × AreStarted starts stands IsAny old now new after
  one_at_most old mid new begun start parts after are (inl same) = (
    begun,
    subst (λ s. AreStarted starts stands IsAny old begun s after) (sym same.0) (subst (AreStarted starts stands IsAny old begun mid) (sym same.1) are),
  )
  one_at_most old mid new begun start parts after are (inr one) = (begun ++ start ∷ [], one_more IsAny old mid new begun start parts after are one)

-- what an outcome of a start says of one that failed, and of one that did not
pub unstarted_is : {T E : Type 0} (outcome : Result T E) (fact : E → Type 0) (P : Type 0) → IsErrAnd outcome fact → OnErr outcome P → P
unstarted_is (Ok x) fact P is holds = absurd is
unstarted_is (Err e) fact P is holds = holds

pub passed_then : {T E F : Type 0} (passed : Result T E) (r : Result T F) (P : Type 0) → IfOk r (λ x. passed ≡ Ok x) → OnOk passed P → OnOk r P
passed_then passed (Err e) P is holds = tt
passed_then {T} {E} passed (Ok x) P is holds = subst (λ (q : Result T E). OnOk q P) is holds

module _ {P : Type 0} (stands : P → PartState → Type 0) (text : List ℕ) (start : Start) (old new : P) (begun : stands old (newly start)) where
  -- a part that was just started, once it was passed a text
  pub new_part_seen : Turns stands HasNotFailed (IsSeen text 0) old new → IsPart stands (IsSeen text 0) new start
  new_part_seen turn = turn start (record { state = newly start; stand = begun; same = refl; holds = tt })

  -- or was not
  pub new_part_any : {T E : Type 0} (passed : Result T E) → OnOk passed (Turns stands HasNotFailed (IsSeen text 0) old new)
      → OnErr passed (Turns stands IsAny IsOver old new) → IsPart stands IsAny new start
  new_part_any (Ok x) well over = part_weaker stands (IsSeen text 0) IsAny (λ state seen. tt) new start (new_part_seen well)
  new_part_any (Err e) well over =
      part_weaker stands IsOver IsAny (λ state seen. tt) new start (over start (record { state = newly start; stand = begun; same = refl; holds = tt }))

module _ {S P A : Type 0} (starts : S → Start → S → Type 0) (stands : P → PartState → Type 0) (text : List ℕ) where
  -- Some commands have started parts, and these are left, for which there is room.
  pub record IsStarting (all left : List (Command A)) (room : ℕ) (old new : S) (parts : List P) : Type 0 where
    pub done : List (Command A)
    pub parted : all ≡ done ++ left
    pub started : AreStarted starts stands (IsSeen text 0) old (map start_of done) new parts
    pub within : length parts + length left ≤ room

  pub starting_begun : (all : List (Command A)) (room : ℕ) (old : S) (parts : List P) → parts ≡ [] → length all ≤ room → IsStarting all all room old old parts
  starting_begun all room old parts is fits = record {
    done = [];
    parted = refl;
    started = record { started = none; stand = subst (λ (ps : List P). AllZip (IsPart stands (IsSeen text 0)) ps []) (sym is) tt };
    within = omega (arith, fits, ap length is);
  }

  -- one part more
  pub starting_more : (all before left : List (Command A)) (one : Command A) (room more_room : ℕ) (old mid new : S) (parts after : List P)
      → IsStarting all before room old mid parts → before ≡ one ∷ left → room ≤ more_room
      → IsOneMore starts stands (IsSeen text 0) (start_of one) mid new parts after → IsStarting all left more_room old new after
  starting_more all before left one room more_room old mid new parts after s taken fits next = record {
    done = s.done ++ one ∷ [];
    parted = s.parted ∙ ap (λ l. s.done ++ l) taken ∙ sym (append_assoc s.done (one ∷ []) left);
    started = subst (λ l. AreStarted starts stands (IsSeen text 0) old l new after) (sym (map-append start_of s.done (one ∷ [])))
        (one_more starts stands (IsSeen text 0) old mid new (map start_of s.done) (start_of one) parts after s.started next);
    within = omega (arith, s.within, fits, ap length taken, ap length next.kept, length-append parts (next.part ∷ []));
  }

  -- whatever came of that one
  pub starting_any : (all before : List (Command A)) (one : Command A) (room : ℕ) (old mid new : S) (parts after : List P) → IsStarting all before room old mid parts
      → IsOneAtMost starts stands (start_of one) mid new parts after → (begun : List Start) × AreStarted starts stands IsAny old begun new after
  starting_any all before one room old mid new parts after s next =
      one_at_most starts stands old mid new (map start_of s.done) (start_of one) parts after
      (started_weaker starts stands (IsSeen text 0) IsAny (λ state seen. tt) old mid (map start_of s.done) parts s.started) next

  -- and there are no more
  pub starting_all : (all left : List (Command A)) (room : ℕ) (old new : S) (parts : List P) → IsStarting all left room old new parts → length left ≡ 0
      → AreStarted starts stands (IsSeen text 0) old (map start_of all) new parts
  starting_all all left room old new parts s none_left =
      let whole : all ≡ s.done = s.parted ∙ ap (λ l. s.done ++ l) (nil_from_length left none_left) ∙ append-nil s.done in
      subst (λ l. AreStarted starts stands (IsSeen text 0) old (map start_of l) new parts) (sym whole) s.started

-- what has this program, and these words
abbrev start_as : List ℕ → List (List ℕ) → Start
start_as program words = record { program = program; words = words }

by_words : {A : Type 0} (commands : List (Command A)) → All (λ (command : Command A). command_program command ≡ program_text) commands
    → map start_of commands ≡ map start_with (map command_args commands)
by_words [] all = refl
by_words {A} (command ∷ rest) all =
    ap (λ program. start_as program (command_args command) ∷ map start_of rest)
    (All-head (λ (c : Command A). command_program c ≡ program_text) command rest all)
    ∙ ap (λ l. start_with (command_args command) ∷ l)
    (by_words rest (All-tail (λ (c : Command A). command_program c ≡ program_text) command rest all))

words_again : (words_at : ℕ → List (List ℕ)) (indices : List ℕ) → map start_with (map words_at indices) ≡ map (λ i. start_with (words_at i)) indices
words_again words_at [] = refl
words_again words_at (i ∷ rest) = ap (λ l. start_with (words_at i) ∷ l) (words_again words_at rest)

-- commands of this program by their words
pub starts_each : {A : Type 0} (words_at : ℕ → List (List ℕ)) (indices : List ℕ) (commands : List (Command A))
    → All (λ (command : Command A). command_program command ≡ program_text) commands → map command_args commands ≡ map words_at indices
    → map start_of commands ≡ map (λ i. start_with (words_at i)) indices
starts_each words_at indices commands programs words =
    by_words commands programs ∙ ap (map start_with) words ∙ words_again words_at indices

-- so many commands as parts
pub command_count : {A X : Type 0} (f : A → X) (words_at : ℕ → X) (count : ℕ) (commands : List A) → map f commands ≡ map words_at (range_with_len 0 count)
    → length commands ≡ count
command_count f words_at count commands words =
    sym (length-map commands f) ∙ ap length words ∙ length-map (range_with_len 0 count) words_at ∙ length-range_with_len 0 count
