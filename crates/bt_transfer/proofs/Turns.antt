-- Peers in turn: what was done so far leads from any rest of the list to the whole.
use Rattle.std.proofs.Common.{[], ◌≡◌, ◌⊎◌, inl, inr, ℕ, ◌+◌, ◌≤◌, ◌<◌, true, false, Option, List, ◌∷◌, ◌++◌, length, take, drop, set, get_or, replicate, refl, sym, ◌∙◌, ap, subst, arith, suc, zero}
use Rattle.std.specs.Prelude.{IfErr, OnOk, Result, Ok, Err}
use Rattle.std.specs.Io.KnownBytes.{Appends}
use Rattle.std.proofs.KnownBytes.{Appends-trans}
use Rattle.std.proofs.lemmas.List.{append-nil, append_assoc, take-append-drop, drop_all, drop_more, drop-set-lt, length-append, length-take, take_more, take_all}
use Rattle.bt_check.specs.Fault.{device, out_of_memory}
use Rattle.bt_check.specs.declared.fault.Fault.{Fault}
use Rattle.bt_files.specs.OpenFolder.{IsCallFault}
use Rattle.bt_machine.specs.Report.{all_complete}
use Rattle.bt_machine.specs.State.{EngineView}
use Rattle.bt_session.specs.declared.peer_end.PeerEnd.{PeerEnd}
use Rattle.bt_session.specs.declared.peer_end.PeerEnd.TheVariants.{Untried}
use Rattle.bt_session.proofs.Turns.{take-set-append}
use Rattle.bt_transfer.specs.Fetch.{TellsInTurn}
use Rattle.bt_transfer.specs.FetchSteps.{StopsAmong, ended, unwritten}
use Rattle.bt_together.specs.PeerLines.{peer_lines, peer_text}
use Rattle.bt_transfer.specs.Turns.{InTurnOrStopped, Turn}
use Rattle.bt_transfer.specs.Turns.InTurnOrStopped.{none_left, complete, tried, stopped}
use Rattle.bt_words.specs.declared.peer.Peer.{Peer}

-- ---- lines

-- of one peer more
lines_more : (peers : List Peer) (ends : List PeerEnd) (peer : Peer) (end : PeerEnd) → length ends ≡ length peers
    → peer_lines (peers ++ peer ∷ []) (ends ++ end ∷ []) ≡ peer_lines peers ends ++ peer_text peer end
lines_more [] [] peer end same = append-nil (peer_text peer end)
lines_more [] (e ∷ ends) peer end same = absurd (omega (arith, same))
lines_more (p ∷ peers) [] peer end same = absurd (omega (arith, same))
lines_more (p ∷ peers) (e ∷ ends) peer end same =
    ap (λ l. peer_text p e ++ l) (lines_more peers ends peer end (omega (arith, same))) ∙ sym (append_assoc (peer_text p e) (peer_lines peers ends) (peer_text peer end))

-- those that were not tried have none
lines_untried : (peers : List Peer) (ends : List PeerEnd) (left : ℕ)
    → peer_lines peers (ends ++ replicate left Untried) ≡ peer_lines (take (length ends) peers) ends
lines_untried [] [] left = refl
lines_untried [] (e ∷ ends) left = refl
lines_untried (p ∷ peers) [] zero = refl
lines_untried (p ∷ peers) [] (suc left) = lines_untried peers [] left
lines_untried (p ∷ peers) (e ∷ ends) left = ap (λ l. peer_text p e ++ l) (lines_untried peers ends left)

module _ {D L : Type 0} (Try : Turn D L) (first : EngineView D) (whole : List L) where
  -- after these ends and links, whatever comes in turn makes the whole
  abbrev pub LeadsOn : (engine : EngineView D) (left : List L) (ends : List PeerEnd) (links : List L) → Type 0
  LeadsOn engine left ends links = (later : List PeerEnd) (rest : List L) (answer : Result (Unit {0}) Fault) (new : EngineView D)
      → InTurnOrStopped Try engine left later rest answer new → InTurnOrStopped Try first whole (ends ++ later) (links ++ rest) answer new

  -- one more is tried
  went_on : (i : ℕ) (engine mid : EngineView D) (links : List L) (ends : List PeerEnd) (d after : L) (end : PeerEnd)
      → i < length links → all_complete engine.state ≡ false → Try engine (get_or links i d) end (Ok tt) after mid
      → LeadsOn engine (drop i links) ends (take i links)
      → LeadsOn mid (drop (i + 1) (set links i after)) (ends ++ end ∷ []) (take (i + 1) (set links i after))
  went_on i engine mid links ends d after end in_links not_done went leads later rest answer new turns =
      subst (λ whole_ends. InTurnOrStopped Try first whole whole_ends (take (i + 1) (set links i after) ++ rest) answer new) (sym (append_assoc ends (end ∷ []) later))
      (subst (λ whole_links. InTurnOrStopped Try first whole (ends ++ end ∷ later) whole_links answer new) (take-set-append links rest i after in_links)
      (leads (end ∷ later) (after ∷ rest) answer new
      (subst (λ left. InTurnOrStopped Try engine left (end ∷ later) (after ∷ rest) answer new) (sym (drop_more links i d in_links))
      (tried engine mid new (get_or links i d) after end (drop (i + 1) links) rest later answer not_done went
      (subst (λ left. InTurnOrStopped Try mid left later rest answer new) (drop-set-lt (i + 1) links i after (omega arith)) turns)))))

  -- none is left
  all_tried : (i : ℕ) (engine : EngineView D) (links : List L) (ends : List PeerEnd) → length links ≤ i
      → LeadsOn engine (drop i links) ends (take i links) → InTurnOrStopped Try first whole ends links (Ok tt) engine
  all_tried i engine links ends no_link leads =
      subst (λ whole_ends. InTurnOrStopped Try first whole whole_ends links (Ok tt) engine) (append-nil ends)
      (subst (λ whole_links. InTurnOrStopped Try first whole (ends ++ []) whole_links (Ok tt) engine) (append-nil (take i links) ∙ take_all i links no_link)
      (leads [] [] (Ok tt) engine (subst (λ left. InTurnOrStopped Try engine left [] [] (Ok tt) engine) (sym (drop_all i links no_link)) (none_left engine))))

  -- the engine is complete
  completed : (i : ℕ) (engine : EngineView D) (links : List L) (ends : List PeerEnd) → all_complete engine.state ≡ true
      → LeadsOn engine (drop i links) ends (take i links)
      → InTurnOrStopped Try first whole (ends ++ replicate (length (drop i links)) Untried) links (Ok tt) engine
  completed i engine links ends is_done leads =
      subst (λ whole_links. InTurnOrStopped Try first whole (ends ++ replicate (length (drop i links)) Untried) whole_links (Ok tt) engine)
      (take-append-drop i links)
      (leads (replicate (length (drop i links)) Untried) (drop i links) (Ok tt) engine (complete engine (drop i links) is_done))

  -- one more is tried, which ends it: those after it are not
  stopped_here : (i : ℕ) (engine new : EngineView D) (links : List L) (ends : List PeerEnd) (d after : L) (end : PeerEnd) (fault : Fault)
      → i < length links → all_complete engine.state ≡ false → Try engine (get_or links i d) end (Err fault) after new
      → LeadsOn engine (drop i links) ends (take i links)
      → InTurnOrStopped Try first whole (ends ++ end ∷ replicate (length (drop (i + 1) links)) Untried) (set links i after) (Err fault) new
  stopped_here i engine new links ends d after end fault in_links not_done went leads =
      subst (λ whole_links. InTurnOrStopped Try first whole (ends ++ end ∷ replicate (length (drop (i + 1) links)) Untried) whole_links (Err fault) new)
      (take-set-append links (drop (i + 1) links) i after in_links
      ∙ ap (λ back. take (i + 1) (set links i after) ++ back) (sym (drop-set-lt (i + 1) links i after (omega arith))) ∙ take-append-drop (i + 1) (set links i after))
      (leads (end ∷ replicate (length (drop (i + 1) links)) Untried) (after ∷ drop (i + 1) links) (Err fault) new
      (subst (λ left. InTurnOrStopped Try engine left (end ∷ replicate (length (drop (i + 1) links)) Untried) (after ∷ drop (i + 1) links) (Err fault) new)
      (sym (drop_more links i d in_links))
      (stopped engine new (get_or links i d) after end (drop (i + 1) links) fault not_done went)))

  module _ (peers : List Peer) (before : Option (List ℕ)) where
    -- so many were tried, and told of, unless a line could not be written
    pub record AreTried (count : ℕ) (now : EngineView D) (links : List L) (written : Result (Unit {0}) Fault) (text : Option (List ℕ)) : Type 0 where
      pub ends : List PeerEnd
      pub counted : length ends ≡ count
      pub leads : LeadsOn now (drop count links) ends (take count links)
      pub lines : OnOk written (Appends before text (peer_lines (take count peers) ends))

    pub none_yet : Appends before before [] → AreTried 0 first whole (Ok tt) before
    none_yet nothing = record { ends = []; counted = refl; leads = λ later rest answer new turns. turns; lines = nothing }

    line_more : (i : ℕ) (ends : List PeerEnd) (end : PeerEnd) (d : Peer) (written told : Result (Unit {0}) Fault) (old new : Option (List ℕ))
        → length ends ≡ i → i < length peers → OnOk told (written ≡ Ok tt) → OnOk told (Appends old new (peer_text (get_or peers i d) end))
        → OnOk written (Appends before old (peer_lines (take i peers) ends)) → OnOk told (Appends before new (peer_lines (take (i + 1) peers) (ends ++ end ∷ [])))
    line_more i ends end d written (Err fault) old new counted within was put lines = tt
    line_more i ends end d written (Ok done) old new counted within was put lines =
        let before_it : Appends before old (peer_lines (take i peers) ends) =
        subst (λ r. OnOk r (Appends before old (peer_lines (take i peers) ends))) was lines in
        let same : length ends ≡ length (take i peers) = (let l = length-take i peers in omega (arith, counted)) in
        subst (Appends before new) (sym (ap (λ some. peer_lines some (ends ++ end ∷ [])) (take_more peers i d within) ∙ lines_more (take i peers) ends (get_or peers i d) end same))
        (Appends-trans before old new _ _ before_it put)

    pub one_more : (i : ℕ) (now mid : EngineView D) (links : List L) (d after : L) (dp : Peer) (end : PeerEnd) (answer written told : Result (Unit {0}) Fault)
        (old new : Option (List ℕ)) → i < length links → i < length peers → all_complete now.state ≡ false → Try now (get_or links i d) end answer after mid
        → answer ≡ Ok tt → OnOk told (written ≡ Ok tt) → OnOk told (Appends old new (peer_text (get_or peers i dp) end))
        → AreTried i now links written old → AreTried (i + 1) mid (set links i after) told new
    one_more i now mid links d after dp end answer written told old new within inside not_done went kept was put tried_so = record {
      ends = tried_so.ends ++ end ∷ [];
      counted = (let l = length-append tried_so.ends (end ∷ []) in omega (arith, tried_so.counted));
      leads = went_on i now mid links tried_so.ends d after end within not_done (subst (λ a. Try now (get_or links i d) end a after mid) kept went) tried_so.leads;
      lines = line_more i tried_so.ends end dp written told old new tried_so.counted inside was put tried_so.lines;
    }

    all_lines : (count : ℕ) (ends : List PeerEnd) (left : ℕ) (text : Option (List ℕ)) (written : Result (Unit {0}) Fault) → length ends ≡ count
        → OnOk written (Appends before text (peer_lines (take count peers) ends))
        → OnOk written (Appends before text (peer_lines peers (ends ++ replicate left Untried)))
    all_lines count ends left text (Err fault) counted lines = tt
    all_lines count ends left text (Ok done) counted lines =
        subst (Appends before text) (ap (λ n. peer_lines (take n peers) ends) (sym counted) ∙ sym (lines_untried peers ends left)) lines

    -- peers were tried in turn, and the line of each is written, unless one could not be
    pub record WereTried (now : EngineView D) (links : List L) (written : Result (Unit {0}) Fault) (text : Option (List ℕ)) : Type 0 where
      pub ends : List PeerEnd
      pub turns : InTurnOrStopped Try first whole ends links (Ok tt) now
      pub lines : OnOk written (Appends before text (peer_lines peers ends))

    pub none_left_of : (count : ℕ) (now : EngineView D) (links : List L) (written : Result (Unit {0}) Fault) (text : Option (List ℕ)) → length links ≤ count
        → AreTried count now links written text → WereTried now links written text
    none_left_of count now links written text no_link so_far = record {
      ends = so_far.ends ++ replicate 0 Untried;
      turns = subst (λ ends. InTurnOrStopped Try first whole ends links (Ok tt) now) (sym (append-nil so_far.ends)) (all_tried count now links so_far.ends no_link so_far.leads);
      lines = all_lines count so_far.ends 0 text written so_far.counted so_far.lines;
    }

    pub done_early : (count : ℕ) (now : EngineView D) (links : List L) (written : Result (Unit {0}) Fault) (text : Option (List ℕ)) → all_complete now.state ≡ true
        → AreTried count now links written text → WereTried now links written text
    done_early count now links written text is_done so_far = record {
      ends = so_far.ends ++ replicate (length (drop count links)) Untried;
      turns = completed count now links so_far.ends is_done so_far.leads;
      lines = all_lines count so_far.ends (length (drop count links)) text written so_far.counted so_far.lines;
    }

    pub all_told : (now : EngineView D) (links : List L) (written : Result (Unit {0}) Fault) (text : Option (List ℕ)) → WereTried now links written text
        → OnOk written (TellsInTurn Try peers first whole before text links now)
    all_told now links (Ok done) text were = record { ends = were.ends; tried = were.turns; lines = were.lines }
    all_told now links (Err fault) text were = tt

    pub not_all_told : (now : EngineView D) (links : List L) (written : Result (Unit {0}) Fault) (text : Option (List ℕ)) → WereTried now links written text
        → IfErr written IsCallFault → IfErr written (λ fault. StopsAmong Try first whole links fault now)
    not_all_told now links (Ok done) text were call = tt
    not_all_told now links (Err fault) text were call = unwritten were.ends were.turns call

    -- one more is tried, which ends it
    pub one_ends : (i : ℕ) (now new : EngineView D) (links : List L) (d after : L) (end : PeerEnd) (answer written : Result (Unit {0}) Fault) (fault : Fault)
        (text : Option (List ℕ)) → i < length links → all_complete now.state ≡ false → Try now (get_or links i d) end answer after new
        → answer ≡ Err fault → AreTried i now links written text → StopsAmong Try first whole (set links i after) fault new
    one_ends i now new links d after end answer written fault text within not_done went failed so_far =
        ended (so_far.ends ++ end ∷ replicate (length (drop (i + 1) links)) Untried)
        (stopped_here i now new links so_far.ends d after end fault within not_done (subst (λ a. Try now (get_or links i d) end a after new) failed went) so_far.leads)

-- why the line of a peer is not written: as one before it, or a call failed
pub not_written : (before told : Result (Unit {0}) Fault) → IfErr before IsCallFault
    → IfErr told (λ fault. (fault ≡ device) ⊎ (fault ≡ out_of_memory) ⊎ (before ≡ Err fault)) → IfErr told IsCallFault
not_written before (Ok done) already why = tt
not_written before (Err fault) already (inl failed) = inl failed
not_written before (Err fault) already (inr (inl short)) = inr short
not_written before (Err fault) already (inr (inr same)) = subst (λ r. IfErr r IsCallFault) same already
