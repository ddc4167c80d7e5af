-- A swarm goes on: by events of those that are there, by one that comes, and by one that goes.
use Rattle.std.proofs.Common.{[], ◌≡◌, ◌≢◌, ℕ, ◌<◌, ◌+◌, List, ◌∷◌, ◌++◌, Option, Some, None, Ok, refl, sym, ap, ◌∙◌, subst, length, length-append, append-nil, append_assoc, get_or, take, drop, arith, inl, inr}
use Rattle.std.specs.Prelude.{Contains}
use Rattle.std.proofs.lemmas.List.{get_or_append_left, get_or_push}
use Rattle.std.proofs.lemmas.Bool.{cases_lt}
use Rattle.std.proofs.lemmas.List.Elements.{All-append, All-take, All-drop, Contains-append_left, Contains-append_cases, Contains-push}
use Rattle.std.proofs.lemmas.Grind.{flat_map-append}
use Rattle.std.proofs.KnownBytes.{Consumes-trans}
use Rattle.std.specs.Io.KnownBytes.{Consumes}
use Rattle.bt_disk.specs.Conduct.{Conduct}
use Rattle.bt_book.specs.declared.names.PeerKey.{PeerKey}
use Rattle.bt_machine.specs.declared.answer.Frame.{Frame}
use Rattle.bt_machine.specs.declared.answer.Why.{Why}
use Rattle.bt_machine.specs.declared.event.Event.{Event}
use Rattle.bt_machine.specs.declared.event.Event.TheVariants.{Connect, Next, Restart}
use Rattle.bt_machine.specs.declared.event.Answer.{Answer}
use Rattle.bt_machine.specs.declared.event.Answer.TheVariants.{Connected}
use Rattle.bt_machine.specs.Law.{sent_by}
use Rattle.bt_machine.specs.Output.{Output, Sent}
use Rattle.bt_machine.specs.State.{EngineView}
use Rattle.bt_session.specs.declared.end.SessionEnd.{SessionEnd}
use Rattle.bt_session.specs.declared.end.SessionEnd.TheVariants.{Memory}
use Rattle.bt_session.specs.Frames.{frames_to}
use Rattle.bt_swarm.specs.declared.member.Member.{Member}
use Rattle.bt_swarm.specs.Runs.{Happening, Runs, none, one_more, fed_by, fed_in, frames_in, joined_by, joined_in}
use Rattle.bt_engine.specs.Leads.{LeadsTo, none as no_event, one, both}
use Rattle.bt_swarm.specs.Steps.{Steps, IsOwn}
use Rattle.bt_swarm.specs.Causes.{HasCause, IsClosedIn, IsFault}
use Rattle.bt_swarm.specs.Moves.{IsWritten, IsWrittenOn, Moves, EachMovesBy, GoesOn}
use Rattle.bt_swarm.specs.Passing.{Passing, came, went, came_count, went_count}
use Rattle.bt_swarm.specs.Swarm.{HasStayed, HasGone, HasGoneTold, HasSwarmed}
use Rattle.bt_swarm.proofs.Putting.{written_trans, was_open}
use Rattle.bt_swarm.proofs.Causing.{runs_trans, fault_cause, cause_on, cause_after, cause_more, ClosesNobody, not_closed, not_closed_yet, closed_in}
use Rattle.bt_swarm.proofs.Moving.{moves_as, goes_quietly}
use Rattle.bt_swarm.proofs.Keys.{only_member, here_on, still_here, parts_at}

-- ---- those that come and go

came_append : (x y : List Passing) → came_count (x ++ y) ≡ came_count x + came_count y
came_append [] y = omega arith
came_append (came place ∷ x) y = let rest = came_append x y in omega (arith, rest)
came_append (went place end ∷ x) y = came_append x y

went_append : (x y : List Passing) → went_count (x ++ y) ≡ went_count x + went_count y
went_append [] y = omega arith
went_append (came place ∷ x) y = went_append x y
went_append (went place end ∷ x) y = let rest = went_append x y in omega (arith, rest)

came_not_went : (p q : ℕ) (end : SessionEnd) → came p ≡ went q end → ⊥
came_not_went p q end same = cc

went_place : (p q : ℕ) (e f : SessionEnd) → went p e ≡ went q f → p ≡ q
went_place p q e f same = cc

went_end : (p q : ℕ) (e f : SessionEnd) → went p e ≡ went q f → e ≡ f
went_end p q e f same = cc

module _ {D R W : Type 0} (conduct : Conduct D) (dig : List ℕ → List ℕ) (read_fault write_fault : Type 0) (gives : R → W → Type 0) (remaining : R → Option (List ℕ)) (contents : W → Option (List ℕ)) (first : EngineView D) where
  -- one that has stayed stays on
  stayed_on : (history more : List Happening) (mid : EngineView D) (m n : Member R W) → Runs (Steps conduct dig) first history mid
      → HasStayed conduct dig read_fault write_fault gives remaining contents first history m
      → Moves remaining contents (fed_in m.key more) (frames_in m.key more) (HasCause conduct dig read_fault write_fault mid more m.key) m n
      → (n.end ≡ None → (why : Why) → ¬ IsClosedIn more m.key why)
      → HasStayed conduct dig read_fault write_fault gives remaining contents first (history ++ more) n
  stayed_on history more mid m n ran s p closes =
      record {
        reader = s.reader;
        writer = s.writer;
        given = s.given;
        before = s.before;
        greeting = s.greeting;
        since = s.since ++ more;
        splits = subst (λ (k : PeerKey). history ++ more ≡ s.before ++ (Connect, Connected (Ok (k, s.greeting))) ∷ (s.since ++ more)) (sym p.same_key)
            (ap (λ l. l ++ more) s.splits ∙ append_assoc s.before ((Connect, Connected (Ok (m.key, s.greeting))) ∷ s.since) more);
        read = subst (λ (k : PeerKey). Consumes (remaining s.reader) (remaining n.reader) (fed_in k (s.since ++ more))) (sym p.same_key)
            (subst (Consumes (remaining s.reader) (remaining n.reader)) (sym (flat_map-append (λ (h : Happening). fed_by m.key h.0) s.since more))
            (Consumes-trans (remaining s.reader) (remaining m.reader) (remaining n.reader) _ _ s.read p.read));
        written = subst (λ (k : PeerKey). IsWritten (contents s.writer) (contents n.writer) (frames_in k ((Connect, Connected (Ok (k, s.greeting))) ∷ (s.since ++ more))) n.end) (sym p.same_key)
            (subst (λ (l : List Frame). IsWritten (contents s.writer) (contents n.writer) l n.end)
            (sym (flat_map-append (λ (h : Happening). frames_to m.key (sent_by h.1)) ((Connect, Connected (Ok (m.key, s.greeting))) ∷ s.since) more))
            (written_trans (contents s.writer) (contents m.writer) (contents n.writer) (frames_in m.key ((Connect, Connected (Ok (m.key, s.greeting))) ∷ s.since)) (frames_in m.key more)
            None m.end n.end s.written p.written));
        caused = λ end is. subst (λ (k : PeerKey). HasCause conduct dig read_fault write_fault first (history ++ more) k end) (sym p.same_key) (elim (p.ends end is) [
          | inl was ↦ cause_on conduct dig read_fault write_fault first history more m.key end (s.caused end was)
          | inr then ↦ cause_after conduct dig read_fault write_fault first mid history more m.key end ran then
        ]);
        unclosed = λ fresh why closed. elim (closed_in s.since more m.key why (subst (λ (k : PeerKey). IsClosedIn (s.since ++ more) k why) p.same_key closed)) [
          | inl was ↦ s.unclosed (was_open _ _ _ m.end n.end p.written fresh) why was
          | inr is ↦ closes fresh why is
        ];
      }

  gone_on : (history more : List Happening) (key : PeerKey) (place : ℕ) (end : SessionEnd)
      → HasGone conduct dig read_fault write_fault gives remaining contents first history key place end
      → HasGone conduct dig read_fault write_fault gives remaining contents first (history ++ more) key place end
  gone_on history more key place end g = record {
    until = g.until;
    after = g.after ++ more;
    splits = ap (λ l. l ++ more) g.splits ∙ append_assoc g.until g.after more;
    member = g.member;
    same_key = g.same_key;
    same_place = g.same_place;
    ended = g.ended;
    stayed = g.stayed;
  }

  told_on : (history more : List Happening) (passed further : List Passing) (key : PeerKey)
      → HasGoneTold conduct dig read_fault write_fault gives remaining contents first history passed key
      → HasGoneTold conduct dig read_fault write_fault gives remaining contents first (history ++ more) (passed ++ further) key
  told_on history more passed further key g = (
    g.0,
    g.1,
    gone_on history more key g.0 g.1 g.2,
    Contains-append_left passed further (came g.0) g.3,
    Contains-append_left passed further (went g.0 g.1) g.4,
  )

  -- one that has just come, and was sent its greeting
  greeted : (before : List Happening) (m n : Member R W) (out : Output) → gives m.reader m.writer → m.end ≡ None
      → Moves remaining contents [] (frames_to m.key out.send) (IsFault read_fault write_fault) m n
      → HasStayed conduct dig read_fault write_fault gives remaining contents first (before ++ (Connect, Connected (Ok (m.key, out))) ∷ []) n
  greeted before m n out given fresh p = record {
    reader = m.reader;
    writer = m.writer;
    given = given;
    before = before;
    greeting = out;
    since = [];
    splits = ap (λ (k : PeerKey). before ++ (Connect, Connected (Ok (k, out))) ∷ []) (sym p.same_key);
    read = p.read;
    written = subst (λ (k : PeerKey). IsWritten (contents m.writer) (contents n.writer) (frames_in k ((Connect, Connected (Ok (k, out))) ∷ [])) n.end) (sym p.same_key)
        (subst (λ (l : List Frame). IsWritten (contents m.writer) (contents n.writer) l n.end) (sym (append-nil (frames_to m.key out.send)))
        (subst (λ (o : Option SessionEnd). IsWrittenOn (contents m.writer) (contents n.writer) (frames_to m.key out.send) o n.end) fresh p.written));
    caused = λ end is. elim (p.ends end is) [
      | inl was ↦ absurd (let no : None ≡ Some end = sym fresh ∙ was in cc)
      | inr fault ↦ fault_cause conduct dig read_fault write_fault first _ n.key end fault
    ];
    unclosed = λ fresh why. not_closed_yet n.key why;
  }

  -- one that goes now
  gone_now : (history : List Happening) (m : Member R W) (key : PeerKey) (place : ℕ) (end is : SessionEnd) → m.key ≡ key → m.place ≡ place → m.end ≡ Some end → end ≡ is
      → HasStayed conduct dig read_fault write_fault gives remaining contents first history m
      → HasGone conduct dig read_fault write_fault gives remaining contents first history key place is
  gone_now history m key place end is own at ended same stayed = record {
    until = history;
    after = [];
    splits = sym (append-nil history);
    member = m;
    same_key = own;
    same_place = at;
    ended = ended ∙ ap (λ (e : SessionEnd). Some e) same;
    stayed = stayed;
  }

  pub swarm_begins : HasSwarmed conduct dig read_fault write_fault gives remaining contents first [] first []
  swarm_begins = record {
    history = [];
    runs = none;
    here = λ i d lt. absurd (omega arith);
    at_place = λ i d lt. absurd (omega arith);
    each = λ key h. absurd (let lt = h.1 in omega arith);
    told = λ place end h. absurd (let lt = h.1 in omega arith);
    all_told = refl;
  }

  -- events happen, by which nobody comes or goes
  pub swarm_goes : (passed : List Passing) (a b : EngineView D) (x y : List (Member R W)) → GoesOn conduct dig read_fault write_fault remaining contents a x b y
      → HasSwarmed conduct dig read_fault write_fault gives remaining contents first passed a x → HasSwarmed conduct dig read_fault write_fault gives remaining contents first passed b y
  swarm_goes passed a b x y q p =
      let same_keys : joined_in (p.history ++ q.history) ≡ joined_in p.history =
      flat_map-append (λ (h : Happening). joined_by h.1) p.history q.history ∙ ap (λ l. joined_in p.history ++ l) q.none_joined ∙ append-nil (joined_in p.history) in
      record {
        history = p.history ++ q.history;
        runs = runs_trans (Steps conduct dig) first a b p.history q.history p.runs q.runs;
        here = λ i d lt.
            let lx : i < length x = subst (λ (n : ℕ). i < n) q.moves.same_length lt in
            stayed_on p.history q.history a (get_or x i d) (get_or y i d) p.runs (p.here i d lx) (q.moves.each i d lx) (q.closes i d lx);
        at_place = λ i d lt.
            let lx : i < length x = subst (λ (n : ℕ). i < n) q.moves.same_length lt in
            subst (λ (n : ℕ). Contains passed (came n)) (sym (q.moves.each i d lx).same_place) (p.at_place i d lx);
        each = λ key h. elim (p.each key (subst (λ (l : List PeerKey). Contains l key) same_keys h)) [
          | inl is ↦ inl (here_on remaining contents (λ k. fed_in k q.history) (λ k. frames_in k q.history) (λ k. HasCause conduct dig read_fault write_fault a q.history k) x y key q.moves is)
          | inr gone ↦ inr (gone.0, gone.1, gone_on p.history q.history key gone.0 gone.1 gone.2, gone.3, gone.4)
        ];
        told = λ place end h. elim (p.told place end h) [
          | inl gone ↦ inl (gone.0, gone_on p.history q.history gone.0 place end gone.1)
          | inr refused ↦ inr refused
        ];
        all_told = p.all_told ∙ ap (λ n. went_count passed + n) (sym q.moves.same_length);
      }

  -- The gate gives one that is refused, and is told of it.
  pub swarm_refuses : (passed : List Passing) (place : ℕ) (a : EngineView D) (x : List (Member R W))
      → HasSwarmed conduct dig read_fault write_fault gives remaining contents first passed a x
      → HasSwarmed conduct dig read_fault write_fault gives remaining contents first (passed ++ came place ∷ went place Memory ∷ []) a x
  swarm_refuses passed place a x p =
      let more : List Passing = came place ∷ went place Memory ∷ [] in
      record {
        history = p.history;
        runs = p.runs;
        here = p.here;
        at_place = λ i d lt. Contains-append_left passed more (came (get_or x i d).place) (p.at_place i d lt);
        each = λ key h. elim (p.each key h) [
          | inl is ↦ inl is
          | inr gone ↦ inr (gone.0, gone.1, gone.2, Contains-append_left passed more (came gone.0) gone.3, Contains-append_left passed more (went gone.0 gone.1) gone.4)
        ];
        told = λ other end h. elim (Contains-append_cases passed more (went other end) h) [
          | inl before ↦ p.told other end before
          | inr new ↦ elim (Contains-append_cases (came place ∷ []) (went place Memory ∷ []) (went other end) new) [
            | inl coming ↦ absurd (came_not_went place other end (only_member _ _ coming))
            | inr going ↦ inr (sym (went_end place other Memory end (only_member _ _ going)))
          ]
        ];
        all_told = omega (arith, came_append passed more, went_append passed more, p.all_told);
      }

  -- A peer comes, and what is sent then goes to all that are there, to it too.
  swarm_joins : (passed : List Passing) (a b : EngineView D) (x y : List (Member R W)) (m : Member R W) (out : Output)
      → HasSwarmed conduct dig read_fault write_fault gives remaining contents first passed a x → Steps conduct dig a Connect (Connected (Ok (m.key, out))) b → gives m.reader m.writer → m.end ≡ None
      → EachMovesBy remaining contents (λ k. []) (λ k. frames_to k out.send) (λ k. IsFault read_fault write_fault) (x ++ m ∷ []) y
      → HasSwarmed conduct dig read_fault write_fault gives remaining contents first (passed ++ came m.place ∷ []) b y
  swarm_joins passed a b x y m out p s given fresh q =
      let h : Happening = (Connect, Connected (Ok (m.key, out))) in
      let more : List Passing = came m.place ∷ [] in
      let whole : length (x ++ m ∷ []) ≡ length x + 1 = length-append x (m ∷ []) in
      record {
        history = p.history ++ h ∷ [];
        runs = one_more p.history Connect (Connected (Ok (m.key, out))) a b p.runs s;
        here = λ i d lt. elim (cases_lt i (length x)) [
          | inl old ↦
              let same : get_or (x ++ m ∷ []) i d ≡ get_or x i d = get_or_append_left x (m ∷ []) d i old in
              let within : i < length (x ++ m ∷ []) = omega (arith, whole) in
              let k = (get_or x i d).key in
              let moved = subst (λ (o : Member R W). Moves remaining contents [] (frames_to o.key out.send) (IsFault read_fault write_fault) o (get_or y i d)) same (q.each i d within) in
              stayed_on p.history (h ∷ []) a (get_or x i d) (get_or y i d) p.runs (p.here i d old)
              (moves_as remaining contents [] [] (frames_to k out.send) (frames_in k (h ∷ [])) (IsFault read_fault write_fault) (HasCause conduct dig read_fault write_fault a (h ∷ []) k) (get_or x i d) (get_or y i d)
              refl (sym (append-nil (frames_to k out.send))) (fault_cause conduct dig read_fault write_fault a (h ∷ []) k) moved)
              (λ fresh. not_closed Connect (Connected (Ok (m.key, out))) (λ other sent why is. absurd (let no : Connect ≡ Next other = is in cc)) k)
          | inr last ↦
              let is : length x ≡ i = omega (arith, q.same_length, whole) in
              let within : i < length (x ++ m ∷ []) = omega (arith, whole) in
              let moved = subst (λ (o : Member R W). Moves remaining contents [] (frames_to o.key out.send) (IsFault read_fault write_fault) o (get_or y i d)) (get_or_push x m d i is) (q.each i d within) in
              greeted p.history m (get_or y i d) out given fresh moved
        ];
        at_place = λ i d lt. elim (cases_lt i (length x)) [
          | inl old ↦
              let same : get_or (x ++ m ∷ []) i d ≡ get_or x i d = get_or_append_left x (m ∷ []) d i old in
              let within : i < length (x ++ m ∷ []) = omega (arith, whole) in
              subst (λ (n : ℕ). Contains (passed ++ more) (came n)) (sym ((q.each i d within).same_place ∙ ap (λ (o : Member R W). o.place) same))
              (Contains-append_left passed more (came (get_or x i d).place) (p.at_place i d old))
          | inr last ↦
              let is : length x ≡ i = omega (arith, q.same_length, whole) in
              let within : i < length (x ++ m ∷ []) = omega (arith, whole) in
              subst (λ (n : ℕ). Contains (passed ++ more) (came n)) (sym ((q.each i d within).same_place ∙ ap (λ (o : Member R W). o.place) (get_or_push x m d i is)))
              (Contains-push passed (came m.place))
        ];
        each = λ k there. elim (Contains-append_cases (joined_in p.history) (m.key ∷ []) k (subst (λ (l : List PeerKey). Contains l k) (flat_map-append (λ (o : Happening). joined_by o.1) p.history (h ∷ [])) there)) [
          | inl before ↦ elim (p.each k before) [
            | inl is ↦ inl (here_on remaining contents (λ o. []) (λ o. frames_to o out.send) (λ o. IsFault read_fault write_fault) (x ++ m ∷ []) y k q (is.0, Contains-append_left x (m ∷ []) is.0 is.1, is.2))
            | inr gone ↦ inr (told_on p.history (h ∷ []) passed more k gone)
          ]
          | inr new ↦
              inl (here_on remaining contents (λ o. []) (λ o. frames_to o out.send) (λ o. IsFault read_fault write_fault) (x ++ m ∷ []) y k q (m, Contains-push x m, only_member m.key k new))
        ];
        told = λ place end there. elim (Contains-append_cases passed more (went place end) there) [
          | inl before ↦ elim (p.told place end before) [
            | inl gone ↦ inl (gone.0, gone_on p.history (h ∷ []) gone.0 place end gone.1)
            | inr refused ↦ inr refused
          ]
          | inr new ↦ absurd (came_not_went m.place place end (only_member _ _ new))
        ];
        all_told = omega (arith, came_append passed more, went_append passed more, p.all_told, q.same_length, whole);
      }

  -- the same, as the code has it
  pub swarm_delivers : (passed : List Passing) (a b : EngineView D) (x pushed y : List (Member R W)) (m : Member R W) (out : Output) (send : List Sent)
      → Steps conduct dig a Connect (Connected (Ok (m.key, out))) b → gives m.reader m.writer → m.end ≡ None
      → pushed ≡ x ++ m ∷ [] → send ≡ out.send
      → EachMovesBy remaining contents (λ k. []) (λ k. frames_to k send) (λ k. IsFault read_fault write_fault) pushed y
      → HasSwarmed conduct dig read_fault write_fault gives remaining contents first passed a x
      → HasSwarmed conduct dig read_fault write_fault gives remaining contents first (passed ++ came m.place ∷ []) b y
  swarm_delivers passed a b x pushed y m out send s given fresh are same q p =
      swarm_joins passed a b x y m out p s given fresh
      (subst (λ (l : List (Member R W)). EachMovesBy remaining contents (λ k. []) (λ k. frames_to k out.send) (λ k. IsFault read_fault write_fault) l y) are
      (subst (λ (l : List Sent). EachMovesBy remaining contents (λ k. []) (λ k. frames_to k l) (λ k. IsFault read_fault write_fault) pushed y) same q))

  -- One that has ended goes, and the machine is told.
  pub swarm_leaves : (passed : List Passing) (a b : EngineView D) (x y : List (Member R W)) (i : ℕ) (m : Member R W) (end : SessionEnd) (event : Event) (answer : Answer)
      → Steps conduct dig a event answer b → joined_by answer ≡ []
      → ((k : PeerKey) → fed_by k event ≡ []) → ((k : PeerKey) → frames_to k (sent_by answer) ≡ []) → ClosesNobody event answer
      → i < length x → m ≡ get_or x i m → m.end ≡ Some end → y ≡ take i x ++ drop (i + 1) x
      → HasSwarmed conduct dig read_fault write_fault gives remaining contents first passed a x
      → HasSwarmed conduct dig read_fault write_fault gives remaining contents first (passed ++ went m.place end ∷ []) b y
  swarm_leaves passed a b x y i m end event answer s no_key unfed quiet nobody within is ended are p =
      let on = swarm_goes passed a b x x (goes_quietly remaining contents conduct dig read_fault write_fault a b event answer x s no_key unfed quiet nobody) p in
      let parts = parts_at x i m within is in
      let more : List Passing = went m.place end ∷ [] in
      let at = subst (λ (o : Member R W). Contains passed (came o.place)) (sym is) (on.at_place i m within) in
      let stayed = subst (λ (o : Member R W). HasStayed conduct dig read_fault write_fault gives remaining contents first on.history o) (sym is) (on.here i m within) in
      let longer : length x ≡ length (take i x ++ drop (i + 1) x) + 1 =
      omega (arith, ap length parts, length-append (take i x) (m ∷ drop (i + 1) x), length-append (take i x) (drop (i + 1) x)) in
      subst (HasSwarmed conduct dig read_fault write_fault gives remaining contents first (passed ++ more) b) (sym are) (record {
        history = on.history;
        runs = on.runs;
        here = All-append (HasStayed conduct dig read_fault write_fault gives remaining contents first on.history) (take i x) (drop (i + 1) x)
            (All-take (HasStayed conduct dig read_fault write_fault gives remaining contents first on.history) i x on.here)
            (All-drop (HasStayed conduct dig read_fault write_fault gives remaining contents first on.history) (i + 1) x on.here);
        at_place =
            let HasCome : Member R W → Type 0 = λ o. Contains (passed ++ more) (came o.place) in
            let all = λ (j : ℕ) (d : Member R W) (lt : j < length x). Contains-append_left passed more (came (get_or x j d).place) (on.at_place j d lt) in
            All-append HasCome (take i x) (drop (i + 1) x) (All-take HasCome i x all) (All-drop HasCome (i + 1) x all);
        each = λ k there. elim (on.each k there) [
          | inl here ↦ elim (still_here k x (take i x) (drop (i + 1) x) m parts here) [
            | inl stays ↦ inl stays
            | inr own ↦ inr (m.place, end, gone_now on.history m k m.place end end own refl ended refl stayed, Contains-append_left passed more (came m.place) at, Contains-push passed (went m.place end))
          ]
          | inr gone ↦ inr (gone.0, gone.1, gone.2, Contains-append_left passed more (came gone.0) gone.3, Contains-append_left passed more (went gone.0 gone.1) gone.4)
        ];
        told = λ place other there. elim (Contains-append_cases passed more (went place other) there) [
          | inl before ↦ on.told place other before
          | inr new ↦
              let same = only_member _ _ new in
              inl (m.key, gone_now on.history m m.key place end other refl (went_place m.place place end other same) ended (went_end m.place place end other same) stayed)
        ];
        all_told = omega (arith, came_append passed more, went_append passed more, on.all_told, longer);
      })

-- ---- where more faults may be told

module _ {D R W : Type 0} (conduct : Conduct D) (dig : List ℕ → List ℕ) (read_fault write_fault more_reads more_writes : Type 0)
    (reads : read_fault → more_reads) (writes : write_fault → more_writes) (gives : R → W → Type 0) (remaining : R → Option (List ℕ)) (contents : W → Option (List ℕ)) (first : EngineView D) where
  stayed_more : (history : List Happening) (m : Member R W) → HasStayed conduct dig read_fault write_fault gives remaining contents first history m
      → HasStayed conduct dig more_reads more_writes gives remaining contents first history m
  stayed_more history m s = record {
    reader = s.reader;
    writer = s.writer;
    given = s.given;
    before = s.before;
    greeting = s.greeting;
    since = s.since;
    splits = s.splits;
    read = s.read;
    written = s.written;
    caused = λ end is. cause_more read_fault write_fault more_reads more_writes reads writes conduct dig first history m.key end (s.caused end is);
    unclosed = s.unclosed;
  }

  gone_more : (history : List Happening) (key : PeerKey) (place : ℕ) (end : SessionEnd) → HasGone conduct dig read_fault write_fault gives remaining contents first history key place end
      → HasGone conduct dig more_reads more_writes gives remaining contents first history key place end
  gone_more history key place end g = record {
    until = g.until;
    after = g.after;
    splits = g.splits;
    member = g.member;
    same_key = g.same_key;
    same_place = g.same_place;
    ended = g.ended;
    stayed = stayed_more g.until g.member g.stayed;
  }

  pub swarm_more : (passed : List Passing) (now : EngineView D) (members : List (Member R W)) → HasSwarmed conduct dig read_fault write_fault gives remaining contents first passed now members
      → HasSwarmed conduct dig more_reads more_writes gives remaining contents first passed now members
  swarm_more passed now members s = record {
    history = s.history;
    runs = s.runs;
    here = λ i d lt. stayed_more s.history (get_or members i d) (s.here i d lt);
    at_place = s.at_place;
    each = λ key h. elim (s.each key h) [
      | inl is ↦ inl is
      | inr gone ↦ inr (gone.0, gone.1, gone_more s.history key gone.0 gone.1 gone.2, gone.3, gone.4)
    ];
    told = λ place end h. elim (s.told place end h) [
      | inl gone ↦ inl (gone.0, gone_more s.history gone.0 place end gone.1)
      | inr refused ↦ inr refused
    ];
    all_told = s.all_told;
  }

-- ---- the events alone

module _ {D : Type 0} (conduct : Conduct D) (dig : List ℕ → List ℕ) where
  not_restart : (event : Event) → IsOwn event → event ≢ Restart
  not_restart event own is = subst IsOwn is own

  -- the events of a swarm lead on
  pub runs_lead : (a b : EngineView D) (history : List Happening) → Runs (Steps conduct dig) a history b → LeadsTo conduct dig a b
  runs_lead a b history none = no_event a
  runs_lead a b history (one_more so_far event answer mid now p s) =
      both a mid now (runs_lead a mid so_far p) (one mid now event answer (not_restart event s.own) s.step)
