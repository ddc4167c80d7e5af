-- What is left to an engine.
use Rattle.bt_machine_checks.proofs.Base.{[], ◌≡◌, ◌≢◌, ℕ, suc, inl, inr, List, ◌∷◌, length, refl, sym, ap, ◌∙◌, arith, map, ⊤, cases_lt, block_count, Metainfo, blocks_of}
use Rattle.bt_machine_checks.proofs.Machine.{Digest, Connect, Feed, Next, Lost, Rechoke, Adopt, Flush, Restart, Restarted, EngineState, IsFile, Answer, Connected, Fed, Stepped, Rechoked, AdoptedAnswer, Step, Run, IsOrderly, IsShaped, sent_by, IsOutOfMemory, IsReached, StepIsDetermined, block_requests, StepIsForced, HaveMemory, RunsAreDetermined}
use Rattle.bt_machine.proofs.Lists.{heads, tails, get_some, same_some, some_below}
use Rattle.bt_meta.specs.Law.{RangeIsPlace}
use Rattle.bt_machine.proofs.Orderly.{order_kept, order_of_runs}
use Rattle.bt_machine.proofs.Places.{RangesTell, ranges_tell}
use Rattle.bt_machine.proofs.Shape.{step_shape, shape_kept}
use Rattle.bt_machine_checks.proofs.DeterminedAsks.{SameAsks, by_requests, by_none, by_one, AreOne}
use Rattle.bt_machine_checks.proofs.DeterminedNext.{next_one}
use Rattle.bt_machine_checks.proofs.DeterminedPeers.{connect_one, feed_one, lost_one, rechoke_one, flush_one}
use Rattle.bt_machine_checks.proofs.DeterminedAdopt.{adopt_one}
use Rattle.bt_machine_checks.proofs.DeterminedRestart.{restart_one}

nil_of : {X : Type 0} (xs : List X) → length xs ≡ 0 → xs ≡ []
nil_of [] e = refl
nil_of (x ∷ xs) e = absurd (omega arith)

-- a file with a block has as many states as its tree has blocks
sized : {torrent s : _} → IsShaped torrent s → {file : ℕ} (f k : _) → IsFile s file f k → f.states ≢ [] → blocks_of k ≡ length f.states
sized {torrent} {s} shaped {file} f k is some =
    let entry = get_some torrent.files file (omega (arith, some_below s.files file is.here)) in
    let shape = shaped.each file entry.0 f entry.1 is.here in
    elim (cases_lt 0 entry.0.length) [
      | inl long ↦
          let tree = shape.has_tree long in
          ap blocks_of (same_some is.has_tree tree.1) ∙ ap block_count tree.3 ∙ sym shape.blocks
      | inr short ↦ absurd (some (nil_of f.states (omega arith)))
    ]

tells : {torrent s : _} → IsShaped torrent s → RangesTell torrent → RangesTell s.torrent
tells shaped tell = rw shaped.same tell

-- what holds between the answers of two runs, one by one
abbrev pub EachPair : (Answer → Answer → Type 0) → List Answer → List Answer → Type 0
EachPair P (a ∷ answers) (b ∷ others) = P a b × EachPair P answers others
EachPair P _ _ = ⊤

module _ (dig : Digest) where
  -- what two results come to, in their answers
  answers : {a b c d m n : _} → a ≡ c → b ≡ d → AreOne c m d n → AreOne a m b n
  answers {b} {c} {m} {n} e f same = rw e (rw f same)

  remembers : {a b : _} → a ≡ b → IsOutOfMemory b → ¬ IsOutOfMemory a → ⊥
  remembers e out memory = memory (rw e out)

  pub step_one : {torrent : Metainfo} {s new other : _} (event calls : _) {answer another : _} → RangesTell torrent
      → IsShaped torrent s → IsOrderly s → Step dig s event calls answer new → Step dig s event calls another other → ¬ IsOutOfMemory answer
      → ¬ IsOutOfMemory another → AreOne answer new another other
  step_one Connect calls tell shaped o x y memory room =
      answers x.1 y.1 (connect_one x.3 y.3 (λ e. remembers (x.1 ∙ ap Connected e) tt memory) (λ e. remembers (y.1 ∙ ap Connected e) tt room))
  step_one (Feed key bytes) calls tell shaped o x y memory room =
      answers x.1 y.1 (feed_one o x.3 y.3 (λ e. remembers (x.1 ∙ ap Fed e) tt memory) (λ e. remembers (y.1 ∙ ap Fed e) tt room))
  step_one (Next key) calls tell shaped o x y memory room =
      answers x.1 y.1 (next_one dig key calls.devices (tells shaped tell) shaped.roots o x.3 y.3
      (λ e. remembers (x.1 ∙ ap Stepped e) tt memory) (λ e. remembers (y.1 ∙ ap Stepped e) tt room))
  step_one (Lost key) calls tell shaped o x y memory room = answers x.1 y.1 (lost_one o x.3 y.3)
  step_one Rechoke calls tell shaped o x y memory room =
      answers x.1 y.1
      (rechoke_one (tells shaped tell) o x.3 y.3 (λ e. remembers (x.1 ∙ ap Rechoked e) tt memory) (λ e. remembers (y.1 ∙ ap Rechoked e) tt room))
  step_one (Adopt file) calls tell shaped o x y memory room =
      answers x.1 y.1 (adopt_one dig (sized shaped) x.3 y.3
      (λ e. remembers (x.1 ∙ ap AdoptedAnswer e) tt memory) (λ e. remembers (y.1 ∙ ap AdoptedAnswer e) tt room))
  step_one Flush calls tell shaped o x y memory room = answers x.1 y.1 (flush_one x.2 y.2)
  step_one Restart calls tell shaped o x y memory room =
      answers x.1 y.1 (restart_one dig x.2 y.2 (λ e. remembers (x.1 ∙ ap Restarted e) tt memory) (λ e. remembers (y.1 ∙ ap Restarted e) tt room))

  -- ---- lists of events

  module _ (torrent : Metainfo) (tell : RangesTell torrent) (P : Answer → Answer → Type 0) (force : (m : EngineState) (a b : Answer) → IsShaped torrent m → P a b → SameAsks m (sent_by a) (sent_by b)) where
    -- where each two answers request the same, for this reason
    pub run_one : (s : _) {new other : _} (events calls answers others : _) → IsShaped torrent s → IsOrderly s → Run dig s events calls answers new
        → Run dig s events calls others other → HaveMemory answers → HaveMemory others → EachPair P answers others
        → (answers ≡ others) × (new ≡ other)
    run_one s [] [] [] [] shaped o x y memory room each = (refl, x ∙ sym y)
    run_one s {other} (e ∷ es) (c ∷ cs) (a ∷ answers) (b ∷ others) shaped o x y memory room each =
        let one = step_one e c tell shaped o x.1 y.1 (memory 0 a (omega arith)) (room 0 b (omega arith)) in
        let after = step_shape dig e c a shaped x.1 in
        let same = one.whole (force x.0 a b after each.0) in
        let more = run_one x.0 es cs answers others after (order_kept dig s x.0 e c a x.1 o) x.2 (rw same.1 y.2)
        (λ k d lt. memory (suc k) d (omega arith)) (λ k d lt. room (suc k) d (omega arith)) each.1 in
        (ap (λ z. z ∷ answers) same.0 ∙ ap (λ zs. b ∷ zs) more.0, more.1)
    run_one s [] [] [] (b ∷ others) shaped o x y memory room each = absurd y
    run_one s [] [] (a ∷ answers) others shaped o x y memory room each = absurd x
    run_one s [] (c ∷ cs) answers others shaped o x y memory room each = absurd x
    run_one s (e ∷ es) [] answers others shaped o x y memory room each = absurd x
    run_one s (e ∷ es) (c ∷ cs) [] others shaped o x y memory room each = absurd x
    run_one s (e ∷ es) (c ∷ cs) (a ∷ answers) [] shaped o x y memory room each = absurd y

  shape_of : {s : _} → (r : IsReached dig s) → IsShaped r.torrent s
  shape_of {s} r = (shape_kept dig r.torrent r.first s r.events r.calls r.answers r.begins r.run).0

  order_of : {s : _} → IsReached dig s → IsOrderly s
  order_of {s} r = order_of_runs dig r.torrent r.first s r.events r.calls r.answers r.begins r.run

  tell_of : {s : _} → RangeIsPlace → (r : IsReached dig s) → RangesTell r.torrent
  tell_of law r = ranges_tell law r.torrent r.lawful.piece r.lawful.laid_out

  pub step_determined : RangeIsPlace → StepIsDetermined dig
  step_determined law s new other event calls answer another r x y memory room =
      let one = step_one event calls (tell_of law r) (shape_of r) (order_of r) x y memory room in
      (one.plain, one.rest)

  pub step_forced : RangeIsPlace → StepIsForced dig
  step_forced law s new other event calls answer another r x y memory room few =
      (step_one event calls (tell_of law r) (shape_of r) (order_of r) x y memory room).whole (elim few [ inl none ↦ by_none none | inr one ↦ by_one one ])

  pairs_of : (answers others : _) → map block_requests answers ≡ map block_requests others
      → EachPair (λ a b. block_requests a ≡ block_requests b) answers others
  pairs_of [] others e = tt
  pairs_of (a ∷ answers) [] e = tt
  pairs_of (a ∷ answers) (b ∷ others) e =
      (heads e, pairs_of answers others (tails e))

  pub runs_determined : RangeIsPlace → RunsAreDetermined dig
  runs_determined law s new other events calls answers others r x y memory room same =
      run_one r.torrent (tell_of law r) (λ a b. block_requests a ≡ block_requests b) (λ m a b shaped e. by_requests e) s events calls answers others
      (shape_of r) (order_of r) x y memory room (pairs_of answers others same)
