-- Peers that are tried one after the other: what was done so far leads from any rest of the list to the whole.
use Rattle.std.proofs.Common.{[], ◌≡◌, ℕ, ◌+◌, ◌-◌, ◌≤◌, ◌<◌, true, false, Option, List, ◌∷◌, ◌++◌, length, take, drop, set, get_or, replicate, sym, ◌∙◌, ap, subst, arith, add-zero}
use Rattle.std.specs.Prelude.{All, Result, Ok, Err}
use Rattle.std.proofs.lemmas.List.{append-nil, append_assoc, take-append-drop, drop_all, drop_more, drop-drop, drop-replicate, drop-set-lt, get_or-drop, length-drop, length-set, take_more_set, take_all}
use Rattle.std.proofs.lemmas.List.Elements.{All-drop}
use Rattle.bt_disk.specs.Conduct.{Conduct}
use Rattle.bt_machine.specs.Report.{all_complete}
use Rattle.bt_machine.specs.State.{EngineView}
use Rattle.bt_session.specs.declared.flushing.Flushing.{Flushing}
use Rattle.bt_session.specs.declared.peer_end.PeerEnd.{PeerEnd}
use Rattle.bt_session.specs.declared.peer_end.PeerEnd.TheVariants.{Untried}
use Rattle.bt_machine.specs.declared.error.FlushError.{FlushError}
use Rattle.bt_session.specs.Peers.{InTurn, Trial, IsTried, IsTriedAndTold}
use Rattle.bt_session.specs.Peers.InTurn.{none_left, complete, tried, stopped}

-- a part of a list and an element more
pub take-set-append : {X : Type 0} (xs rest : List X) (i : ℕ) (x : X) → i < length xs → take i xs ++ x ∷ rest ≡ take (i + 1) (set xs i x) ++ rest
take-set-append xs rest i x within =
    sym (append_assoc (take i xs) (x ∷ []) rest) ∙ ap (λ front. front ++ rest) (sym (take_more_set xs i x within))

-- what holds of each element from one on holds of that one, and of each after it, whatever stands at its place then
module _ {X : Type 0} (P : X → Type 0) (xs : List X) (i : ℕ) where
  pub All-first : (d : X) → i < length xs → All P (drop i xs) → P (get_or xs i d)
  All-first d within all = subst P (get_or-drop i xs 0 d ∙ ap (λ k. get_or xs k d) (add-zero i)) (all 0 d (omega (arith, length-drop i xs)))

  pub All-later : (x : X) → All P (drop i xs) → All P (drop (i + 1) (set xs i x))
  All-later x all =
      subst (All P) (sym (drop-set-lt (i + 1) xs i x (omega arith))) (subst (All P) (drop-drop 1 i xs) (All-drop P 1 (drop i xs) all))

-- the ends of those that are not tried
pub untried_later : {L : Type 0} (ends : List PeerEnd) (links : List L) (i : ℕ) (end : PeerEnd) (link : L)
    → drop i ends ≡ replicate (length (drop i links)) Untried
    → drop (i + 1) (set ends i end) ≡ replicate (length (drop (i + 1) (set links i link))) Untried
untried_later ends links i end link untried =
    drop-set-lt (i + 1) ends i end (omega arith) ∙ sym (drop-drop 1 i ends) ∙ ap (drop 1) untried
    ∙ drop-replicate 1 (length (drop i links)) Untried ∙ ap (λ n. replicate n Untried) count
  where
    count : length (drop i links) - 1 ≡ length (drop (i + 1) (set links i link))
    count = omega (arith, length-drop i links, length-drop (i + 1) (set links i link), length-set links i link)

-- peers of which one thing is said in turn, another one too that follows
pub in_turn_by : {D L : Type 0} (Try To : Trial D L)
    → ((old : EngineView D) (link : L) (end : PeerEnd) (answer : Result (Unit {0}) FlushError) (after : L) (new : EngineView D) → Try old link end answer after new
    → To old link end answer after new)
    → {old : EngineView D} {links : List L} {ends : List PeerEnd} {rest : List L} {answer : Result (Unit {0}) FlushError} {new : EngineView D}
    → InTurn Try old links ends rest answer new → InTurn To old links ends rest answer new
in_turn_by Try To carry (none_left engine) = none_left engine
in_turn_by Try To carry (complete engine links is_done) = complete engine links is_done
in_turn_by Try To carry (tried old mid new link after end links rest ends answer not_done went turns) =
    tried old mid new link after end links rest ends answer not_done (carry old link end (Ok tt) after mid went) (in_turn_by Try To carry turns)
in_turn_by Try To carry (stopped old new link after end links error not_done went) =
    stopped old new link after end links error not_done (carry old link end (Err error) after new went)

-- peers that are tried, and told of, are tried
pub told_are_tried : {D L R W : Type 0} (failed : Type 0) (conduct : Conduct D) (dig : List ℕ → List ℕ) (dials failures : L → ℕ) (gives : L → R → W → Type 0)
    (remaining : R → Option (List ℕ)) (contents : W → Option (List ℕ)) (flushing : Flushing) (turns : ℕ)
    → {old : EngineView D} {links : List L} {ends : List PeerEnd} {rest : List L} {answer : Result (Unit {0}) FlushError} {new : EngineView D}
    → InTurn (IsTriedAndTold failed conduct dig dials failures gives remaining contents flushing turns) old links ends rest answer new
    → InTurn (IsTried conduct dig dials failures gives remaining contents flushing turns) old links ends rest answer new
told_are_tried failed conduct dig dials failures gives remaining contents flushing turns all =
    in_turn_by _ (IsTried conduct dig dials failures gives remaining contents flushing turns) (λ old link end answer after new told. told.tried) all

module _ {D L : Type 0} (Try : Trial D L) (first : EngineView D) (whole : List L) where
  -- after these ends and links, whatever comes in turn makes the whole
  abbrev pub LeadsOn : (engine : EngineView D) (left : List L) (ends : List PeerEnd) (links : List L) → Type 0
  LeadsOn engine left ends links = (later : List PeerEnd) (rest : List L) (answer : Result (Unit {0}) FlushError) (new : EngineView D)
      → InTurn Try engine left later rest answer new → InTurn Try first whole (ends ++ later) (links ++ rest) answer new

  -- one more is tried
  pub went_on : (i : ℕ) (engine mid : EngineView D) (links : List L) (ends : List PeerEnd) (d after : L) (end : PeerEnd)
      → i < length links → i < length ends → all_complete engine.state ≡ false → Try engine (get_or links i d) end (Ok tt) after mid
      → LeadsOn engine (drop i links) (take i ends) (take i links)
      → LeadsOn mid (drop (i + 1) (set links i after)) (take (i + 1) (set ends i end)) (take (i + 1) (set links i after))
  went_on i engine mid links ends d after end in_links in_ends not_done went leads later rest answer new turns =
      subst (λ whole_ends. InTurn Try first whole whole_ends (take (i + 1) (set links i after) ++ rest) answer new) (take-set-append ends later i end in_ends)
      (subst (λ whole_links. InTurn Try first whole (take i ends ++ end ∷ later) whole_links answer new) (take-set-append links rest i after in_links)
      (leads (end ∷ later) (after ∷ rest) answer new
      (subst (λ left. InTurn Try engine left (end ∷ later) (after ∷ rest) answer new) (sym (drop_more links i d in_links))
      (tried engine mid new (get_or links i d) after end (drop (i + 1) links) rest later answer not_done went
      (subst (λ left. InTurn Try mid left later rest answer new) (drop-set-lt (i + 1) links i after (omega arith)) turns)))))

  -- none is left
  pub all_tried : (i : ℕ) (engine : EngineView D) (links : List L) (ends : List PeerEnd) → length links ≤ i → length ends ≤ i
      → LeadsOn engine (drop i links) (take i ends) (take i links) → InTurn Try first whole ends links (Ok tt) engine
  all_tried i engine links ends no_link no_end leads =
      subst (λ whole_ends. InTurn Try first whole whole_ends links (Ok tt) engine) (append-nil (take i ends) ∙ take_all i ends no_end)
      (subst (λ whole_links. InTurn Try first whole (take i ends ++ []) whole_links (Ok tt) engine) (append-nil (take i links) ∙ take_all i links no_link)
      (leads [] [] (Ok tt) engine (subst (λ left. InTurn Try engine left [] [] (Ok tt) engine) (sym (drop_all i links no_link)) (none_left engine))))

  -- the engine is complete
  pub completed : (i : ℕ) (engine : EngineView D) (links : List L) (ends : List PeerEnd) → all_complete engine.state ≡ true
      → drop i ends ≡ replicate (length (drop i links)) Untried
      → LeadsOn engine (drop i links) (take i ends) (take i links) → InTurn Try first whole ends links (Ok tt) engine
  completed i engine links ends is_done untried leads =
      subst (λ whole_ends. InTurn Try first whole whole_ends links (Ok tt) engine) (ap (λ back. take i ends ++ back) (sym untried) ∙ take-append-drop i ends)
      (subst (λ whole_links. InTurn Try first whole (take i ends ++ replicate (length (drop i links)) Untried) whole_links (Ok tt) engine)
      (take-append-drop i links)
      (leads (replicate (length (drop i links)) Untried) (drop i links) (Ok tt) engine (complete engine (drop i links) is_done)))

  -- a flush was refused after one more that is tried: those after it are not
  pub refused : (i : ℕ) (engine new : EngineView D) (links : List L) (ends : List PeerEnd) (d after : L) (end : PeerEnd) (error : FlushError)
      → i < length links → i < length ends → all_complete engine.state ≡ false → Try engine (get_or links i d) end (Err error) after new
      → drop i ends ≡ replicate (length (drop i links)) Untried
      → LeadsOn engine (drop i links) (take i ends) (take i links)
      → InTurn Try first whole (set ends i end) (set links i after) (Err error) new
  refused i engine new links ends d after end error in_links in_ends not_done went untried leads =
      subst (λ whole_ends. InTurn Try first whole whole_ends (set links i after) (Err error) new)
      (take-set-append ends (replicate (length (drop (i + 1) links)) Untried) i end in_ends
      ∙ ap (λ back. take (i + 1) (set ends i end) ++ back) (sym later_ends) ∙ take-append-drop (i + 1) (set ends i end))
      (subst (λ whole_links. InTurn Try first whole (take i ends ++ end ∷ replicate (length (drop (i + 1) links)) Untried) whole_links (Err error) new)
      (take-set-append links (drop (i + 1) links) i after in_links
      ∙ ap (λ back. take (i + 1) (set links i after) ++ back) (sym later_links) ∙ take-append-drop (i + 1) (set links i after))
      (leads (end ∷ replicate (length (drop (i + 1) links)) Untried) (after ∷ drop (i + 1) links) (Err error) new
      (subst (λ left. InTurn Try engine left (end ∷ replicate (length (drop (i + 1) links)) Untried) (after ∷ drop (i + 1) links) (Err error) new)
      (sym (drop_more links i d in_links))
      (stopped engine new (get_or links i d) after end (drop (i + 1) links) error not_done went))))
    where
      later_links : drop (i + 1) (set links i after) ≡ drop (i + 1) links
      later_links = drop-set-lt (i + 1) links i after (omega arith)

      later_ends : drop (i + 1) (set ends i end) ≡ replicate (length (drop (i + 1) links)) Untried
      later_ends = untried_later ends links i end after untried ∙ ap (λ l. replicate (length l) Untried) later_links
