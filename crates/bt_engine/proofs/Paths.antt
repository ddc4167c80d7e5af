-- A block that becomes marked, and one that is served, lie on checked paths.
use Rattle.std.specs.Prelude.{Contains, ◌/◌}
use Rattle.std.specs.List.{range_with_len}
use Rattle.bt_machine.proofs.Base.{[], ◌≡◌, ◌≢◌, Option, None, Missing, Waiting, BlockState, ℕ, zero, suc, ◌+◌, ◌-◌, ◌<◌, ◌≤◌, ◌⊎◌, inl, inr, List, ◌∷◌, ◌++◌, Some, refl, sym, ap, ◌∙◌, subst, arith, get_or, slice_get, block_count, File, Metainfo, IsLawful, Facts, IsRight, Marked, BlockId, PeerKey}
use Rattle.bt_meta.specs.Place.{IsPlace}
use Rattle.bt_machine.specs.Law.{AreRooted, StepKeepsRooted, RightIsChecked, StepMarksByBytes, IsSoAt, IsServed, found, recovered}
use Rattle.bt_machine.specs.Shape.{IsShaped, StepKeepsShape}
use Rattle.bt_machine.specs.Spans.{spanned_blocks}
use Rattle.bt_machine.specs.Blocks.{block_id}
use Rattle.bt_machine.specs.LogCalls.{EventCalls}
use Rattle.bt_machine.specs.declared.event.Event.{Event}
use Rattle.bt_machine.specs.declared.event.Answer.{Answer}
use Rattle.bt_machine.proofs.Machine.{Digest, EngineState, DeviceCalls, state_at, tree_of, Step, Run, IsMarkedBy, brought, read_back}
use Rattle.bt_machine.proofs.Lists.{and_then_some, some_below, some_is, get_some, same_some, range_limits}
use Rattle.bt_engine.specs.Promises.{marking_bytes, IsOnCheckedPath, IsMarkedOnPath, IsServedOnPath, MarksByBytes, StaysMarked}

-- a file with a block has a byte
some_bytes : (n i : ℕ) → i < block_count n → 0 < n
some_bytes zero i lt = absurd (omega (arith, lt))
some_bytes (suc n) i lt = omega arith

-- a block that a range lies in is one of the file's
in_file : (start count n i : ℕ) → 1 ≤ count → start + count ≤ n
    → Contains (range_with_len (start / 16384) ((start + count - 1) / 16384 + 1 - start / 16384)) i → i < block_count n
in_file start count n i some inside c =
    let limits = range_limits (start / 16384) ((start + count - 1) / 16384 + 1 - start / 16384) c in
    omega (arith, some, inside, limits)

get_is : {X : Type 0} (xs : List X) (i : ℕ) {x : X} → slice_get xs i ≡ Some x → get_or xs i x ≡ x
get_is [] i e = refl
get_is (y ∷ xs) zero e = some_is e
get_is (y ∷ xs) (suc i) e = get_is xs i e

is_or_not : (o : Option BlockState) → (o ≡ Some Marked) ⊎ (o ≢ Some Marked)
is_or_not None = inr (λ is. absurd cc)
is_or_not (Some Missing) = inr (λ is. absurd cc)
is_or_not (Some Waiting) = inr (λ is. absurd cc)
is_or_not (Some Marked) = inl refl

-- ---- places in a list of events

-- one event further on
after_step : {dig : Digest} {P : EngineState → Event → DeviceCalls → EngineState → Type 0} {s mid last : EngineState} {e : Event} {es : List Event}
    {c : EventCalls} {calls : List EventCalls} {a : Answer} {before : List Answer} {answer : Answer} {after : List Answer}
    → Step dig s e c a mid → IsSoAt dig mid es calls before answer after last P → IsSoAt dig s (e ∷ es) (c ∷ calls) (a ∷ before) answer after last P
after_step {mid = mid} {e = e} {c = c} step i = record {
  events_before = e ∷ i.events_before;
  calls_before = c ∷ i.calls_before;
  old = i.old;
  event = i.event;
  calls_then = i.calls_then;
  new = i.new;
  events_after = i.events_after;
  calls_after = i.calls_after;
  events_are = ap (λ l. e ∷ l) i.events_are;
  calls_are = ap (λ l. c ∷ l) i.calls_are;
  run = (mid, step, i.run);
  step = i.step;
  goes_on = i.goes_on;
  is_so = i.is_so;
}

-- at the first event
at_first : {dig : Digest} {P : EngineState → Event → DeviceCalls → EngineState → Type 0} {s : EngineState} (mid : EngineState) {last : EngineState}
    {e : Event} {es : List Event} {c : EventCalls} {calls : List EventCalls} {a : Answer} {after : List Answer}
    → Step dig s e c a mid → Run dig mid es calls after last → P s e c.devices mid → IsSoAt dig s (e ∷ es) (c ∷ calls) [] a after last P
at_first {s = s} mid {e = e} {es = es} {c = c} {calls = calls} step rest is_so = record {
  events_before = [];
  calls_before = [];
  old = s;
  event = e;
  calls_then = c;
  new = mid;
  events_after = es;
  calls_after = calls;
  events_are = refl;
  calls_are = refl;
  run = refl;
  step = step;
  goes_on = rest;
  is_so = is_so;
}

-- ---- marks that stay

none_said : {X : Type 0} (before : List X) (x : X) (after : List X) → [] ≡ before ++ x ∷ after → ⊥
none_said [] x after is = absurd cc
none_said (y ∷ before) x after is = absurd cc

stays_none : {dig : Digest} {s new : EngineState} {b : BlockId} → StaysMarked dig s [] [] [] [] new b
stays_none more answer rest is = absurd (none_said more answer rest is)

-- one event before
stays_more : {dig : Digest} {s : EngineState} (mid : EngineState) {new : EngineState} {e : Event} {es : List Event} {c : EventCalls} {calls : List EventCalls}
    {a : Answer} {answers : List Answer} {b : BlockId} → Step dig s e c a mid → Run dig mid es calls answers new → state_at mid b ≡ Some Marked
    → StaysMarked dig mid es calls [] answers new b → StaysMarked dig s (e ∷ es) (c ∷ calls) [] (a ∷ answers) new b
stays_more {dig} {s} mid {new} {e} {es} {c} {calls} {a} {answers} step run marked stays [] answer rest is =
    let one : a ≡ answer = cc in
    let others : answers ≡ rest = cc in
    at_first mid (subst (λ x. Step dig s e c x mid) one step) (subst (λ l. Run dig mid es calls l new) others run) marked
stays_more {dig} {s} mid {e = e} {c = c} {a = a} {answers = answers} step run marked stays (first ∷ more) answer rest is =
    let one : a ≡ first = cc in
    let others : answers ≡ more ++ answer ∷ rest = cc in
    after_step (subst (λ x. Step dig s e c x mid) one step) (stays more answer rest others)

module _ (dig : Digest) (torrent : Metainfo) (right_is_checked : RightIsChecked dig) where
  -- right bytes of a block that the file has
  right_path : (s : EngineState) (file : File) (b : BlockId) (tree : Facts) (bytes : List ℕ) → IsShaped torrent s → AreRooted dig s
      → slice_get torrent.files b.file ≡ Some file → b.block < block_count file.length
      → tree_of s b.file ≡ Some tree → IsRight dig tree b.block bytes → IsOnCheckedPath dig s b bytes
  right_path s file b tree bytes shaped rooted listed below has right =
      let g = and_then_some (λ f. slice_get s.trees f.tree) (slice_get s.files b.file) has in
      let own = (shaped.each b.file file g.0 listed g.1).has_tree (some_bytes file.length b.block below) in
      let is : own.0 ≡ tree = same_some own.1 g.2 in
      let long : file.length ≡ tree.file_length = sym own.3 ∙ ap (λ k. k.file_length) is in
      record {
        file = file;
        listed = ap (λ (t : Metainfo). slice_get t.files b.file) shaped.same ∙ listed;
        tree = tree;
        has_tree = has;
        root = ap (λ (k : Facts). k.root) (sym is) ∙ own.2;
        path = right_is_checked tree b.block bytes (rooted g.0.tree tree g.2) (subst (λ n. b.block < block_count n) long below) right;
      }

  -- the blocks that served bytes lie in
  pub served_paths : {s : EngineState} {event : Event} {calls : DeviceCalls} {key : PeerKey} {piece begin : ℕ} {bytes : List ℕ} → IsShaped torrent s → AreRooted dig s
      → (served : IsServed dig s event calls key piece begin bytes) → (i : ℕ) → Contains (spanned_blocks served.span) i
      → IsOnCheckedPath dig s (block_id served.span.file i) (served.blocks i)
  served_paths {s} shaped rooted served i c =
      let place = subst (λ t. IsPlace t served.ask.piece served.ask.begin served.ask.length served.span) shaped.same served.spans in
      let all = place.all in
      let below = in_file served.span.start served.span.length place.file.length i (omega (arith, all, place.some)) (omega (arith, all, place.in_file)) c in
      let file = get_some torrent.files served.span.file place.listed in
      let is : file.0 ≡ place.file = sym (get_is torrent.files served.span.file file.1) ∙ place.found file.0 in
      right_path s place.file (block_id served.span.file i) served.tree (served.blocks i) shaped rooted
      (file.1 ∙ ap (λ x. Some x) is) below served.has_tree (served.right i c)

  -- the torrent is the lawful one
  own_lawful : IsLawful torrent.piece_length torrent.files → (s : EngineState) → IsShaped torrent s → IsLawful s.torrent.piece_length s.torrent.files
  own_lawful lawful s shaped = subst (λ (t : Metainfo). IsLawful t.piece_length t.files) (sym shaped.same) lawful

  module _ (lawful : IsLawful torrent.piece_length torrent.files) (keeps_shape : StepKeepsShape dig) (keeps_rooted : StepKeepsRooted dig) where
    run_keeps : {new : EngineState} (s : EngineState) (es : List Event) (calls : List EventCalls) (answers : List Answer) → IsShaped torrent s → AreRooted dig s
        → Run dig s es calls answers new → IsShaped torrent new × AreRooted dig new
    run_keeps s [] [] [] shaped rooted run = (rw run shaped, rw run rooted)
    run_keeps s (e ∷ es) (c ∷ calls) (a ∷ answers) shaped rooted run =
        run_keeps run.0 es calls answers (keeps_shape torrent s run.0 e c a shaped run.1)
        (keeps_rooted s run.0 e c a (own_lawful lawful s shaped) run.1 rooted) run.2
    run_keeps s _ _ _ shaped rooted run = absurd run

    pub sends_on_path : {first last : EngineState} (events : List Event) (calls : List EventCalls) (before : List Answer) (answer : Answer) (after : List Answer)
        (key : PeerKey) (piece begin : ℕ) (bytes : List ℕ) → IsShaped torrent first → AreRooted dig first
        → IsSoAt dig first events calls before answer after last (λ s event calls_then next. IsServed dig s event calls_then key piece begin bytes)
        → IsSoAt dig first events calls before answer after last (λ s event calls_then next. IsServedOnPath dig s event calls_then key piece begin bytes)
    sends_on_path {first} events calls before answer after key piece begin bytes shaped rooted i = record {
      events_before = i.events_before;
      calls_before = i.calls_before;
      old = i.old;
      event = i.event;
      calls_then = i.calls_then;
      new = i.new;
      events_after = i.events_after;
      calls_after = i.calls_after;
      events_are = i.events_are;
      calls_are = i.calls_are;
      run = i.run;
      step = i.step;
      goes_on = i.goes_on;
      is_so = record {
        served = i.is_so;
        paths = let kept = run_keeps first i.events_before i.calls_before before shaped rooted i.run in served_paths kept.0 kept.1 i.is_so;
      };
    }

module _ (dig : Digest) (torrent : Metainfo) (right_is_checked : RightIsChecked dig) (b : BlockId) where
  -- right bytes of a block that has a state
  pub path_of : (s : EngineState) (tree : Facts) (bytes : List ℕ) → IsShaped torrent s → AreRooted dig s → state_at s b ≡ Some Marked
      → tree_of s b.file ≡ Some tree → IsRight dig tree b.block bytes → IsOnCheckedPath dig s b bytes
  path_of s tree bytes shaped rooted marked has right =
      let f = and_then_some (λ f. slice_get f.states b.block) (slice_get s.files b.file) marked in
      let file = get_some torrent.files b.file (subst (λ n. b.file < n) shaped.count (some_below s.files b.file f.1)) in
      let shape = shaped.each b.file file.0 f.0 file.1 f.1 in
      right_path dig torrent right_is_checked s file.0 b tree bytes shaped rooted file.1
      (subst (λ n. b.block < n) shape.blocks (some_below f.0.states b.block f.2)) has right

  on_path : {old : EngineState} {e : Event} {calls : DeviceCalls} (s : EngineState) → IsShaped torrent s → AreRooted dig s → state_at s b ≡ Some Marked
      → (by : IsMarkedBy dig old e calls s b) → IsOnCheckedPath dig s b (marking_bytes by)
  on_path s shaped rooted marked (brought by) = path_of s by.tree by.bytes shaped rooted marked by.has_tree by.right
  on_path s shaped rooted marked (read_back by) = path_of s by.tree by.bytes shaped rooted marked by.has_tree by.right
  on_path s shaped rooted marked (found by) = path_of s by.tree by.bytes shaped rooted marked by.has_tree by.right
  on_path s shaped rooted marked (recovered is by) = path_of s by.tree by.bytes shaped rooted marked by.has_tree by.right

  -- a block that is marked after a run was so from before it on, or became so within it, and stayed so
  run_cases : IsLawful torrent.piece_length torrent.files → StepKeepsShape dig → StepKeepsRooted dig → StepMarksByBytes dig → {new : EngineState} (s : EngineState) (es : List Event) (calls : List EventCalls)
      (answers : List Answer) → IsShaped torrent s → AreRooted dig s → Run dig s es calls answers new → state_at new b ≡ Some Marked
      → ((state_at s b ≡ Some Marked) × StaysMarked dig s es calls [] answers new b) ⊎ IsMarkedOnPath dig s es calls answers new b
  run_cases lawful keeps_shape keeps_rooted marks s [] [] [] shaped rooted run m = inl (rw (← run) m, stays_none)
  run_cases lawful keeps_shape keeps_rooted marks s (e ∷ es) (c ∷ calls) (a ∷ answers) shaped rooted run m =
      let shape = keeps_shape torrent s run.0 e c a shaped run.1 in
      let trees = keeps_rooted s run.0 e c a (own_lawful dig torrent right_is_checked lawful s shaped) run.1 rooted in
      elim (run_cases lawful keeps_shape keeps_rooted marks run.0 es calls answers shape trees run.2 m) [
        | inl mid ↦ elim (is_or_not (state_at s b)) [
          | inl old ↦ inl (old, stays_more run.0 run.1 run.2 mid.0 mid.1)
          | inr unmarked ↦ inr (record {
            before = [];
            answer = a;
            after = answers;
            answers_are = refl;
            marked = at_first run.0 run.1 run.2
                (let now = marks s run.0 e c a run.1 b mid.0 unmarked in (now, on_path run.0 shape trees mid.0 now));
            stays = λ more answer rest is. after_step run.1 (mid.1 more answer rest is);
          })
        ]
        | inr i ↦ inr (record {
          before = a ∷ i.before;
          answer = i.answer;
          after = i.after;
          answers_are = ap (λ l. a ∷ l) i.answers_are;
          marked = after_step run.1 i.marked;
          stays = λ more answer rest is. after_step run.1 (i.stays more answer rest is);
        })
      ]
  run_cases lawful keeps_shape keeps_rooted marks s _ _ _ shaped rooted run m = absurd run

-- what is said of the blocks that are marked after a run
module _ (dig : Digest) (torrent : Metainfo) (right_is_checked : RightIsChecked dig) (lawful : IsLawful torrent.piece_length torrent.files)
    (keeps_shape : StepKeepsShape dig) (keeps_rooted : StepKeepsRooted dig) (marks : StepMarksByBytes dig) (s new : EngineState) (es : List Event)
    (calls : List EventCalls) (answers : List Answer) (shaped : IsShaped torrent s) (rooted : AreRooted dig s) (run : Run dig s es calls answers new) where
  pub marked_cases : (b : BlockId) → state_at new b ≡ Some Marked
      → ((state_at s b ≡ Some Marked) × StaysMarked dig s es calls [] answers new b) ⊎ IsMarkedOnPath dig s es calls answers new b
  marked_cases b m = run_cases dig torrent right_is_checked b lawful keeps_shape keeps_rooted marks s es calls answers shaped rooted run m

  pub run_marks : MarksByBytes dig s es calls answers new
  run_marks b m before = elim (marked_cases b m) [ inl old ↦ absurd (before old.0) | inr now ↦ now ]
