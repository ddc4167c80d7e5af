-- What connections get and give over several events is what they get and give over one after the other.
use Rattle.std.proofs.Common.{[], ◌≡◌, ◌≢◌, ℕ, ◌<◌, ◌≤◌, ◌+◌, Bool, List, ◌∷◌, ◌++◌, Option, Some, None, Ok, refl, sym, ap, ◌∙◌, subst, cond, length, take, append-nil, get_or, set, arith, get_or-set_same, get_or-set_other, ◌⊎◌, inl, inr, eq-eqb}
use Rattle.std.proofs.lemmas.Bool.{cases_eq, ne_eqb}
use Rattle.std.proofs.lemmas.List.{get_or_default}
use Rattle.std.proofs.lemmas.Grind.{flat_map-append}
use Rattle.std.proofs.lemmas.List.Elements.{Contains-push}
use Rattle.std.specs.Prelude.{Contains}
use Rattle.std.proofs.Math.ListN.{length-set}
use Rattle.std.proofs.KnownBytes.{Consumes-nil, Consumes-trans, Keeps-refl}
use Rattle.std.specs.Io.KnownBytes.{Consumes, Keeps}
use Rattle.bt_disk.specs.Conduct.{Conduct}
use Rattle.bt_book.specs.declared.names.PeerKey.{PeerKey}
use Rattle.bt_machine.specs.declared.answer.Frame.{Frame}
use Rattle.bt_machine.specs.declared.answer.Why.{Why}
use Rattle.bt_machine.specs.declared.event.Event.{Event}
use Rattle.bt_machine.specs.declared.event.Event.TheVariants.{Feed, Next, Flush}
use Rattle.bt_machine.specs.declared.event.Answer.{Answer}
use Rattle.bt_machine.specs.declared.event.Answer.TheVariants.{Stepped, Flushed}
use Rattle.bt_machine.specs.Law.{sent_by}
use Rattle.bt_machine.specs.Output.{Output, Sent}
use Rattle.bt_machine.specs.State.{EngineView}
use Rattle.bt_session.specs.declared.end.SessionEnd.{SessionEnd}
use Rattle.bt_session.specs.declared.end.SessionEnd.TheVariants.{Closed}
use Rattle.bt_session.specs.Frames.{frames_to}
use Rattle.bt_swarm.specs.declared.member.Member.{Member}
use Rattle.bt_swarm.specs.Runs.{Happening, none, one_more, fed_by, fed_in, frames_in, joined_by, joined_in}
use Rattle.bt_swarm.specs.Steps.{Steps, MayBeFlushed}
use Rattle.bt_swarm.specs.Causes.{HasCause, IsClosedIn, IsFault}
use Rattle.bt_swarm.specs.Moves.{ArePut, IsWritten, IsWrittenOn, HaveOwnKeys, Moves, EachMovesBy, GoesOn}
use Rattle.bt_swarm.proofs.Putting.{written_trans, nothing_on, first_none, was_open}
use Rattle.bt_swarm.proofs.Causing.{runs_trans, fault_cause, cause_on, cause_after, ClosesNobody, not_closed, not_closed_yet, closed_in, closed_key}

module _ {R W : Type 0} (remaining : R → Option (List ℕ)) (contents : W → Option (List ℕ)) where
  -- ---- one connection

  pub moves_none : (may : SessionEnd → Type 0) (m : Member R W) → Moves remaining contents [] [] may m m
  moves_none may m = record {
    same_key = refl;
    same_place = refl;
    read = Consumes-nil (remaining m.reader);
    written = nothing_on (contents m.writer) (contents m.writer) m.end (Keeps-refl (contents m.writer));
    ends = λ end is. inl is;
  }

  -- nothing is put, and it is as it was
  pub moves_kept : (may : SessionEnd → Type 0) (m n : Member R W) → n.key ≡ m.key → n.place ≡ m.place → n.reader ≡ m.reader → n.end ≡ m.end
      → Keeps (contents m.writer) (contents n.writer) → Moves remaining contents [] [] may m n
  moves_kept may m n key place reader end kept = record {
    same_key = key;
    same_place = place;
    read = subst (λ (r : R). Consumes (remaining m.reader) (remaining r) []) (sym reader) (Consumes-nil (remaining m.reader));
    written = subst (λ (e : Option SessionEnd). IsWrittenOn (contents m.writer) (contents n.writer) [] m.end e) (sym end)
        (nothing_on (contents m.writer) (contents n.writer) m.end kept);
    ends = λ e is. inl (sym end ∙ is);
  }

  -- bytes are read
  pub moves_read : (may : SessionEnd → Type 0) (bytes : List ℕ) (m n : Member R W) → n.key ≡ m.key → n.place ≡ m.place → n.writer ≡ m.writer → n.end ≡ m.end
      → Consumes (remaining m.reader) (remaining n.reader) bytes → Moves remaining contents bytes [] may m n
  moves_read may bytes m n key place writer end read = record {
    same_key = key;
    same_place = place;
    read = read;
    written = subst (λ (e : Option SessionEnd). IsWrittenOn (contents m.writer) (contents n.writer) [] m.end e) (sym end)
        (nothing_on (contents m.writer) (contents n.writer) m.end
        (subst (λ (w : W). Keeps (contents m.writer) (contents w)) (sym writer) (Keeps-refl (contents m.writer))));
    ends = λ e is. inl (sym end ∙ is);
  }

  -- frames are put into the way out of one that has not ended
  pub moves_put : (may : SessionEnd → Type 0) (frames : List Frame) (m n : Member R W) → n.key ≡ m.key → n.place ≡ m.place → n.reader ≡ m.reader → m.end ≡ None → n.end ≡ m.end
      → ArePut (contents m.writer) (contents n.writer) frames → Moves remaining contents [] frames may m n
  moves_put may frames m n key place reader fresh end put = record {
    same_key = key;
    same_place = place;
    read = subst (λ (r : R). Consumes (remaining m.reader) (remaining r) []) (sym reader) (Consumes-nil (remaining m.reader));
    written = subst (λ (e : Option SessionEnd). IsWrittenOn (contents m.writer) (contents n.writer) frames e n.end) (sym fresh)
        (subst (λ (e : Option SessionEnd). IsWritten (contents m.writer) (contents n.writer) frames e) (sym (end ∙ fresh)) put);
    ends = λ e is. inl (sym end ∙ is);
  }

  -- it ends, and none of them is put
  pub moves_fault : (may : SessionEnd → Type 0) (frames : List Frame) (end : SessionEnd) (m n : Member R W) → n.key ≡ m.key → n.place ≡ m.place → n.reader ≡ m.reader → m.end ≡ None
      → n.end ≡ Some end → may end → Keeps (contents m.writer) (contents n.writer) → Moves remaining contents [] frames may m n
  moves_fault may frames end m n key place reader fresh ended can kept = record {
    same_key = key;
    same_place = place;
    read = subst (λ (r : R). Consumes (remaining m.reader) (remaining r) []) (sym reader) (Consumes-nil (remaining m.reader));
    written = subst (λ (e : Option SessionEnd). IsWrittenOn (contents m.writer) (contents n.writer) frames e n.end) (sym fresh)
        (subst (λ (e : Option SessionEnd). IsWritten (contents m.writer) (contents n.writer) frames e) (sym ended)
        (first_none (contents m.writer) (contents n.writer) frames kept));
    ends = λ e is. inr (let same : end ≡ e = cc in subst may same can);
  }

  pub moves_trans : (bytes more : List ℕ) (frames further : List Frame) (may can : SessionEnd → Type 0) (a b c : Member R W)
      → Moves remaining contents bytes frames may a b → Moves remaining contents more further can b c
      → Moves remaining contents (bytes ++ more) (frames ++ further) (λ end. may end ⊎ can end) a c
  moves_trans bytes more frames further may can a b c p q = record {
    same_key = q.same_key ∙ p.same_key;
    same_place = q.same_place ∙ p.same_place;
    read = Consumes-trans (remaining a.reader) (remaining b.reader) (remaining c.reader) bytes more p.read q.read;
    written = written_trans (contents a.writer) (contents b.writer) (contents c.writer) frames further a.end b.end c.end p.written q.written;
    ends = λ end is. elim (q.ends end is) [
      | inl was ↦ elim (p.ends end was) [ inl before ↦ inl before | inr first ↦ inr (inl first) ]
      | inr then ↦ inr (inr then)
    ];
  }

  -- by the same bytes and frames, and ends that are among others
  pub moves_as : (bytes same : List ℕ) (frames equal : List Frame) (may can : SessionEnd → Type 0) (a b : Member R W) → bytes ≡ same → frames ≡ equal
      → ((end : SessionEnd) → may end → can end) → Moves remaining contents bytes frames may a b → Moves remaining contents same equal can a b
  moves_as bytes same frames equal may can a b one two among p = record {
    same_key = p.same_key;
    same_place = p.same_place;
    read = subst (Consumes (remaining a.reader) (remaining b.reader)) one p.read;
    written = subst (λ (l : List Frame). IsOn l) two p.written;
    ends = λ end is. elim (p.ends end is) [ inl was ↦ inl was | inr then ↦ inr (among end then) ];
  }
    where
      IsOn : List Frame → Type 0
      IsOn l = IsWrittenOn (contents a.writer) (contents b.writer) l a.end b.end

  -- it may come to one more end then
  pub moves_amiss : (may : SessionEnd → Type 0) (bytes : List ℕ) (end : SessionEnd) (a b c : Member R W) → may end → Moves remaining contents bytes [] may a b
      → Moves remaining contents [] [] (λ is. is ≡ end) b c → Moves remaining contents bytes [] may a c
  moves_amiss may bytes end a b c can p q =
      moves_as (bytes ++ []) bytes [] [] (λ is. may is ⊎ (is ≡ end)) may a c (append-nil bytes) refl
      (λ is h. elim h [ inl first ↦ first | inr same ↦ subst may (sym same) can ])
      (moves_trans bytes [] [] [] may (λ is. is ≡ end) a b c p q)

  -- one after the other
  pub moves_both : (may : SessionEnd → Type 0) (a b c : Member R W) → Moves remaining contents [] [] may a b → Moves remaining contents [] [] may b c → Moves remaining contents [] [] may a c
  moves_both may a b c p q =
      moves_as [] [] [] [] (λ is. may is ⊎ may is) may a c refl refl (λ is h. elim h [ inl one ↦ one | inr two ↦ two ])
      (moves_trans [] [] [] [] may may a b c p q)

  -- ---- each

  module _ (b c : PeerKey → List ℕ) (f g : PeerKey → List Frame) (may can : PeerKey → SessionEnd → Type 0) where
    pub each_trans : (x y z : List (Member R W)) → EachMovesBy remaining contents b f may x y → EachMovesBy remaining contents c g can y z
        → EachMovesBy remaining contents (λ k. b k ++ c k) (λ k. f k ++ g k) (λ k end. may k end ⊎ can k end) x z
    each_trans x y z p q = record {
      same_length = q.same_length ∙ p.same_length;
      each = λ i d lt.
          let m = p.each i d lt in
          let n = q.each i d (subst (λ (n : ℕ). i < n) (sym p.same_length) lt) in
          moves_trans (b (get_or x i d).key) (c (get_or x i d).key) (f (get_or x i d).key) (g (get_or x i d).key) (may (get_or x i d).key) (can (get_or x i d).key) _ _ _ m
          (subst (λ (k : PeerKey). Moves remaining contents (c k) (g k) (can k) (get_or y i d) (get_or z i d)) m.same_key n);
    }

    -- by bytes and frames that are the same, and ends that are among others
    pub each_as : (x y : List (Member R W)) → ((k : PeerKey) → b k ≡ c k) → ((k : PeerKey) → f k ≡ g k)
        → ((k : PeerKey) (end : SessionEnd) → may k end → can k end)
        → EachMovesBy remaining contents b f may x y → EachMovesBy remaining contents c g can x y
    each_as x y same_bytes same_frames among p = record {
      same_length = p.same_length;
      each = λ i d lt.
          let k = (get_or x i d).key in
          moves_as (b k) (c k) (f k) (g k) (may k) (can k) (get_or x i d) (get_or y i d) (same_bytes k) (same_frames k) (among k) (p.each i d lt);
    }

  pub each_none : (may : PeerKey → SessionEnd → Type 0) (x : List (Member R W)) → EachMovesBy remaining contents (λ k. []) (λ k. []) may x x
  each_none may x = record { same_length = refl; each = λ i d lt. moves_none (may (get_or x i d).key) (get_or x i d) }

  -- one moves, and for the others there is nothing
  pub each_set : (b : PeerKey → List ℕ) (f : PeerKey → List Frame) (may : PeerKey → SessionEnd → Type 0) (x : List (Member R W)) (i : ℕ) (m n : Member R W)
      → i < length x → m ≡ get_or x i m → Moves remaining contents (b m.key) (f m.key) (may m.key) m n
      → ((j : ℕ) (d : Member R W) → j < length x → j ≢ i → (b (get_or x j d).key ≡ []) × (f (get_or x j d).key ≡ []))
      → EachMovesBy remaining contents b f may x (set x i n)
  each_set b f may x i m n within is moves others = record {
    same_length = length-set x i n;
    each = λ j d lt. elim (cases_eq j i) [
      | inl same ↦
          subst (λ (l : ℕ). Moves remaining contents (b (get_or x l d).key) (f (get_or x l d).key) (may (get_or x l d).key) (get_or x l d) (get_or (set x i n) l d)) (sym same)
          (rw get_or-set_same (subst (λ (o : Member R W). Moves remaining contents (b o.key) (f o.key) (may o.key) o n) (is ∙ get_or_default x i m d within) moves))
      | inr apart ↦
          rw (get_or-set_other x i j n d apart, (others j d lt apart).0, (others j d lt apart).1) (moves_none (may (get_or x j d).key) (get_or x j d))
    ];
  }

  -- one more of them moved by what is for it
  pub gone_over_more : (f : PeerKey → List Frame) (may : SessionEnd → Type 0) (x now : List (Member R W)) (at : ℕ) (m n : Member R W) → at < length now → m ≡ get_or now at m
      → ((i : ℕ) (d : Member R W) → at ≤ i → get_or now i d ≡ get_or x i d) → Moves remaining contents [] (f m.key) may m n
      → ((i : ℕ) (d : Member R W) → i < at → Moves remaining contents [] (f (get_or x i d).key) may (get_or x i d) (get_or now i d))
      → (i : ℕ) (d : Member R W) → i < at + 1 → Moves remaining contents [] (f (get_or x i d).key) may (get_or x i d) (get_or (set now at n) i d)
  gone_over_more f may x now at m n within is others moves gone i d below = elim (cases_eq i at) [
    | inl same ↦
        subst (λ (j : ℕ). Moves remaining contents [] (f (get_or x j d).key) may (get_or x j d) (get_or (set now at n) j d)) (sym same)
        (rw (get_or-set_same now at n d within)
        (subst (λ (o : Member R W). Moves remaining contents [] (f o.key) may o n) (is ∙ get_or_default now at m d within ∙ others at d (omega arith)) moves))
    | inr apart ↦
        let lower : i < at = omega arith in
        rw (get_or-set_other now at i n d apart) (gone i d lower)
  ]

  pub others_more : (x now : List (Member R W)) (at : ℕ) (n : Member R W) → ((i : ℕ) (d : Member R W) → at ≤ i → get_or now i d ≡ get_or x i d)
      → (i : ℕ) (d : Member R W) → at + 1 ≤ i → get_or (set now at n) i d ≡ get_or x i d
  others_more x now at n others i d above =
      let apart : i ≢ at = omega arith in
      let upper : at ≤ i = omega arith in
      get_or-set_other now at i n d apart ∙ others i d upper

  -- where a read gave nothing
  pub nothing_read : (count : ℕ) (buffer : List ℕ) (may : SessionEnd → Type 0) (m n : Member R W) → count ≡ 0 → Moves remaining contents (take count buffer) [] may m n
      → Moves remaining contents [] [] may m n
  nothing_read count buffer may m n zero moves =
      subst (λ (l : List ℕ). Moves remaining contents l [] may m n) (ap (λ (q : ℕ). take q buffer) zero) moves

  -- the one that was put in its place has its key
  pub key_after : (x : List (Member R W)) (i : ℕ) (m n d : Member R W) → i < length x → n.key ≡ m.key → (get_or (set x i n) i d).key ≡ m.key
  key_after x i m n d within same = ap (λ (o : Member R W). o.key) (get_or-set_same x i n d within) ∙ same

  pub own_keys_kept : (b : PeerKey → List ℕ) (f : PeerKey → List Frame) (may : PeerKey → SessionEnd → Type 0) (x y : List (Member R W))
      → EachMovesBy remaining contents b f may x y → HaveOwnKeys x → HaveOwnKeys y
  own_keys_kept b f may x y p own i j d li lj same =
      let lx : i < length x = subst (λ (n : ℕ). i < n) p.same_length li in
      let ly : j < length x = subst (λ (n : ℕ). j < n) p.same_length lj in
      own i j d lx ly (sym (ap (λ (k : PeerKey). k.0) (p.each i d lx).same_key) ∙ same ∙ ap (λ (k : PeerKey). k.0) (p.each j d ly).same_key)

  -- ---- while events happen

  module _ {D : Type 0} (conduct : Conduct D) (dig : List ℕ → List ℕ) (read_fault write_fault : Type 0) where
    pub goes_trans : (a b c : EngineView D) (x y z : List (Member R W)) → GoesOn conduct dig read_fault write_fault remaining contents a x b y → GoesOn conduct dig read_fault write_fault remaining contents b y c z
        → GoesOn conduct dig read_fault write_fault remaining contents a x c z
    goes_trans a b c x y z p q = record {
      history = p.history ++ q.history;
      runs = runs_trans (Steps conduct dig) a b c p.history q.history p.runs q.runs;
      none_joined = flat_map-append (λ (h : Happening). joined_by h.1) p.history q.history ∙ ap (λ l. l ++ joined_in q.history) p.none_joined ∙ q.none_joined;
      moves = each_as (λ k. fed_in k p.history ++ fed_in k q.history) (λ k. fed_in k (p.history ++ q.history))
          (λ k. frames_in k p.history ++ frames_in k q.history) (λ k. frames_in k (p.history ++ q.history))
          (λ k end. HasCause conduct dig read_fault write_fault a p.history k end ⊎ HasCause conduct dig read_fault write_fault b q.history k end) (λ k. HasCause conduct dig read_fault write_fault a (p.history ++ q.history) k) x z
          (λ k. sym (flat_map-append (λ (h : Happening). fed_by k h.0) p.history q.history))
          (λ k. sym (flat_map-append (λ (h : Happening). frames_to k (sent_by h.1)) p.history q.history))
          (λ k end cause. elim cause [
            | inl first ↦ cause_on conduct dig read_fault write_fault a p.history q.history k end first
            | inr then ↦ cause_after conduct dig read_fault write_fault a b p.history q.history k end p.runs then
          ])
          (each_trans (λ k. fed_in k p.history) (λ k. fed_in k q.history) (λ k. frames_in k p.history) (λ k. frames_in k q.history)
          (λ k. HasCause conduct dig read_fault write_fault a p.history k) (λ k. HasCause conduct dig read_fault write_fault b q.history k) x y z p.moves q.moves);
      closes = λ i d lt fresh why closed.
          let ly : i < length y = subst (λ (n : ℕ). i < n) (sym p.moves.same_length) lt in
          let first = p.moves.each i d lt in
          let then = q.moves.each i d ly in
          elim (closed_in p.history q.history (get_or x i d).key why closed) [
            | inl was ↦ p.closes i d lt (was_open _ _ _ (get_or y i d).end (get_or z i d).end then.written fresh) why was
            | inr is ↦ q.closes i d ly fresh why (subst (λ (k : PeerKey). IsClosedIn q.history k why) (sym first.same_key) is)
          ];
    }

    -- no event
    pub goes_still : (a : EngineView D) (may : PeerKey → SessionEnd → Type 0) (x y : List (Member R W))
        → ((k : PeerKey) (end : SessionEnd) → may k end → HasCause conduct dig read_fault write_fault a [] k end)
        → EachMovesBy remaining contents (λ k. []) (λ k. []) may x y → GoesOn conduct dig read_fault write_fault remaining contents a x a y
    goes_still a may x y among p = record {
      history = [];
      runs = none;
      none_joined = refl;
      moves = each_as (λ k. []) (λ k. []) (λ k. []) (λ k. []) may (λ k. HasCause conduct dig read_fault write_fault a [] k) x y (λ k. refl) (λ k. refl) among p;
      closes = λ i d lt fresh why. not_closed_yet (get_or x i d).key why;
    }

    -- nothing at all
    pub goes_nowhere : (a : EngineView D) (x : List (Member R W)) → GoesOn conduct dig read_fault write_fault remaining contents a x a x
    goes_nowhere a x = goes_still a (λ k. HasCause conduct dig read_fault write_fault a [] k) x x (λ k end cause. cause) (each_none (λ k. HasCause conduct dig read_fault write_fault a [] k) x)

    -- no event, and connections that fail
    pub goes_faulty : (a : EngineView D) (x y : List (Member R W)) → EachMovesBy remaining contents (λ k. []) (λ k. []) (λ k. IsFault read_fault write_fault) x y
        → GoesOn conduct dig read_fault write_fault remaining contents a x a y
    goes_faulty a x y p = goes_still a (λ k. IsFault read_fault write_fault) x y (λ k. fault_cause conduct dig read_fault write_fault a [] k) p

    -- one event
    pub goes_one : (a b : EngineView D) (event : Event) (answer : Answer) (x y : List (Member R W)) → Steps conduct dig a event answer b → joined_by answer ≡ []
        → ((i : ℕ) (d : Member R W) → i < length x → (get_or y i d).end ≡ None → (why : Why) → ¬ IsClosedIn ((event, answer) ∷ []) (get_or x i d).key why)
        → EachMovesBy remaining contents (λ k. fed_by k event) (λ k. frames_to k (sent_by answer)) (λ k. HasCause conduct dig read_fault write_fault a ((event, answer) ∷ []) k) x y
        → GoesOn conduct dig read_fault write_fault remaining contents a x b y
    goes_one a b event answer x y s no_key closes p = record {
      history = (event, answer) ∷ [];
      runs = one_more [] event answer a b none s;
      none_joined = append-nil (joined_by answer) ∙ no_key;
      moves = each_as (λ k. fed_by k event) (λ k. fed_in k ((event, answer) ∷ [])) (λ k. frames_to k (sent_by answer)) (λ k. frames_in k ((event, answer) ∷ []))
          (λ k. HasCause conduct dig read_fault write_fault a ((event, answer) ∷ []) k) (λ k. HasCause conduct dig read_fault write_fault a ((event, answer) ∷ []) k) x y
          (λ k. sym (append-nil (fed_by k event))) (λ k. sym (append-nil (frames_to k (sent_by answer)))) (λ k end cause. cause) p;
      closes = closes;
    }

    flush_no_next : (k : PeerKey) → Flush ≡ Next k → ⊥
    flush_no_next k same = cc

    feed_no_next : (key k : PeerKey) (bytes : List ℕ) → Feed key bytes ≡ Next k → ⊥
    feed_no_next key k bytes same = cc

    -- Bytes that one gave are fed as its own.
    pub goes_fed : (a b : EngineView D) (answer : Answer) (x : List (Member R W)) (i : ℕ) (m n : Member R W) (key : PeerKey) (bytes : List ℕ)
        → Steps conduct dig a (Feed key bytes) answer b → key ≡ m.key
        → joined_by answer ≡ [] → ((k : PeerKey) → frames_to k (sent_by answer) ≡ []) → i < length x → m ≡ get_or x i m → HaveOwnKeys x
        → Moves remaining contents bytes [] (IsFault read_fault write_fault) m n → GoesOn conduct dig read_fault write_fault remaining contents a x b (set x i n)
    goes_fed a b answer x i m n key bytes s same no_key quiet within is own moves =
        goes_one a b (Feed m.key bytes) answer x (set x i n) (subst (λ (k : PeerKey). Steps conduct dig a (Feed k bytes) answer b) same s) no_key
        (λ j d lt fresh. not_closed (Feed m.key bytes) answer (λ k out why is. absurd (feed_no_next m.key k bytes is)) (get_or x j d).key)
        (each_as (λ k. fed_by k (Feed m.key bytes)) (λ k. fed_by k (Feed m.key bytes)) (λ k. []) (λ k. frames_to k (sent_by answer))
        (λ k. IsFault read_fault write_fault) (λ k. HasCause conduct dig read_fault write_fault a ((Feed m.key bytes, answer) ∷ []) k) x (set x i n)
        (λ k. refl) (λ k. sym (quiet k)) (λ k. fault_cause conduct dig read_fault write_fault a ((Feed m.key bytes, answer) ∷ []) k)
        (each_set (λ k. fed_by k (Feed m.key bytes)) (λ k. []) (λ k. IsFault read_fault write_fault) x i m n within is
        (subst (λ (l : List ℕ). Moves remaining contents l [] (IsFault read_fault write_fault) m n) (sym (ap (λ (t : Bool). cond t bytes []) (eq-eqb m.key.0 m.key.0 refl))) moves)
        (λ j d lt apart. (
          ap (λ (t : Bool). cond t bytes [])
              (ne_eqb m.key.0 (get_or x j d).key.0 (λ same. apart (own j i m lt within (ap (λ (o : Member R W). o.key.0) (get_or_default x j m d lt) ∙ sym same ∙ ap (λ (o : Member R W). o.key.0) is)))),
          refl,
        ))))

    -- one alone changes, and no event happens
    pub goes_alone : (a : EngineView D) (may : SessionEnd → Type 0) (x : List (Member R W)) (i : ℕ) (d q : Member R W) → i < length x
        → ((end : SessionEnd) → may end → HasCause conduct dig read_fault write_fault a [] (get_or x i d).key end)
        → Moves remaining contents [] [] may (get_or x i d) q → GoesOn conduct dig read_fault write_fault remaining contents a x a (set x i q)
    goes_alone a may x i d q within among moves =
        let p = get_or x i d in
        let can : PeerKey → SessionEnd → Type 0 = λ k. HasCause conduct dig read_fault write_fault a [] k in
        goes_still a can x (set x i q) (λ k end cause. cause)
        (each_set (λ k. []) (λ k. []) can x i p q within (get_or_default x i d p within)
        (moves_as [] [] [] [] may (can p.key) p q refl refl among moves) (λ j o lt apart. (refl, refl)))

    -- the same of a fault
    pub goes_amiss : (a : EngineView D) (x : List (Member R W)) (i : ℕ) (d q : Member R W) (end : SessionEnd) → i < length x → IsFault read_fault write_fault end
        → Moves remaining contents [] [] (λ is. is ≡ end) (get_or x i d) q → GoesOn conduct dig read_fault write_fault remaining contents a x a (set x i q)
    goes_amiss a x i d q end within fault moves =
        goes_alone a (λ is. is ≡ end) x i d q within (λ is same. fault_cause conduct dig read_fault write_fault a [] (get_or x i d).key is (subst (IsFault read_fault write_fault) (sym same) fault)) moves

    -- the same of one that was put in its place
    pub goes_again : (a : EngineView D) (x : List (Member R W)) (i : ℕ) (n d q : Member R W) → i < length x
        → Moves remaining contents [] [] (λ is. ⊥) (get_or (set x i n) i d) q → GoesOn conduct dig read_fault write_fault remaining contents a (set x i n) a (set (set x i n) i q)
    goes_again a x i n d q within moves =
        goes_alone a (λ is. ⊥) (set x i n) i d q (subst (λ (l : ℕ). i < l) (sym (length-set x i n)) within) (λ end no. absurd no) moves

    pub goes_amiss_again : (a : EngineView D) (x : List (Member R W)) (i : ℕ) (n d q : Member R W) (end : SessionEnd) → i < length x → IsFault read_fault write_fault end
        → Moves remaining contents [] [] (λ is. is ≡ end) (get_or (set x i n) i d) q → GoesOn conduct dig read_fault write_fault remaining contents a (set x i n) a (set (set x i n) i q)
    goes_amiss_again a x i n d q end within fault moves =
        goes_amiss a (set x i n) i d q end (subst (λ (l : ℕ). i < l) (sym (length-set x i n)) within) fault moves

    -- an event that feeds nobody, and what it sends is put into each one's way out
    pub goes_sent : (a b : EngineView D) (event : Event) (answer : Answer) (send : List Sent) (x y : List (Member R W)) → Steps conduct dig a event answer b
        → joined_by answer ≡ [] → ((k : PeerKey) → fed_by k event ≡ []) → ClosesNobody event answer → send ≡ sent_by answer
        → EachMovesBy remaining contents (λ k. []) (λ k. frames_to k send) (λ k. IsFault read_fault write_fault) x y → GoesOn conduct dig read_fault write_fault remaining contents a x b y
    goes_sent a b event answer send x y s no_key unfed nobody same p =
        goes_one a b event answer x y s no_key (λ i d lt fresh. not_closed event answer nobody (get_or x i d).key)
        (each_as (λ k. []) (λ k. fed_by k event) (λ k. frames_to k send) (λ k. frames_to k (sent_by answer)) (λ k. IsFault read_fault write_fault) (λ k. HasCause conduct dig read_fault write_fault a ((event, answer) ∷ []) k) x y
        (λ k. sym (unfed k)) (λ k. ap (frames_to k) same) (λ k. fault_cause conduct dig read_fault write_fault a ((event, answer) ∷ []) k) p)

    pub goes_own_keys : (a b : EngineView D) (x y : List (Member R W)) → GoesOn conduct dig read_fault write_fault remaining contents a x b y → HaveOwnKeys x → HaveOwnKeys y
    goes_own_keys a b x y g = own_keys_kept (λ k. fed_in k g.history) (λ k. frames_in k g.history) (λ k. HasCause conduct dig read_fault write_fault a g.history k) x y g.moves

    -- an event that feeds nobody and sends nothing
    pub goes_quietly : (a b : EngineView D) (event : Event) (answer : Answer) (x : List (Member R W)) → Steps conduct dig a event answer b → joined_by answer ≡ []
        → ((k : PeerKey) → fed_by k event ≡ []) → ((k : PeerKey) → frames_to k (sent_by answer) ≡ []) → ClosesNobody event answer → GoesOn conduct dig read_fault write_fault remaining contents a x b x
    goes_quietly a b event answer x s no_key unfed quiet nobody =
        let can : PeerKey → SessionEnd → Type 0 = λ k. HasCause conduct dig read_fault write_fault a ((event, answer) ∷ []) k in
        goes_one a b event answer x x s no_key (λ i d lt fresh. not_closed event answer nobody (get_or x i d).key)
        (each_as (λ k. []) (λ k. fed_by k event) (λ k. []) (λ k. frames_to k (sent_by answer)) can can x x (λ k. sym (unfed k)) (λ k. sym (quiet k)) (λ k end cause. cause) (each_none can x))

    -- The event closes its peer, which ends for this.
    pub goes_closed : (a b : EngineView D) (key : PeerKey) (out : Output) (send : List Sent) (why : Why) (x y : List (Member R W)) (i : ℕ) (d q : Member R W)
        → Steps conduct dig a (Next key) (Stepped (Ok (Some out))) b → send ≡ out.send → out.close ≡ Some why
        → EachMovesBy remaining contents (λ k. []) (λ k. frames_to k send) (λ k. IsFault read_fault write_fault) x y → i < length y → (get_or y i d).key ≡ key → HaveOwnKeys x → (end : SessionEnd) → q.end ≡ Some end
        → Moves remaining contents [] [] (λ is. is ≡ Closed why) (get_or y i d) q → GoesOn conduct dig read_fault write_fault remaining contents a x b (set y i q)
    goes_closed a b key out send why x y i d q s same closes p within own apart end ended moves =
        let h : List Happening = (Next key, Stepped (Ok (Some out))) ∷ [] in
        let can : PeerKey → SessionEnd → Type 0 = λ k. HasCause conduct dig read_fault write_fault a h k in
        let m = get_or y i d in
        let closed : HasCause conduct dig read_fault write_fault a h m.key (Closed why) =
        record { out = out; closes = closes; happened = subst (λ (k : PeerKey). Contains h (Next k, Stepped (Ok (Some out)))) (sym own) (Contains-push [] _) } in
        goes_one a b (Next key) (Stepped (Ok (Some out))) x (set y i q) s refl
        (λ j o lt fresh other c. elim (cases_eq j i) [
          | inl here ↦
              let unended : q.end ≡ None = sym (ap (λ (n : Member R W). n.end) (get_or-set_same y i q o within)) ∙ subst (λ (l : ℕ). (get_or (set y i q) l o).end ≡ None) here fresh in
              let no : None ≡ Some end = sym unended ∙ ended in cc
          | inr not_here ↦
              let lx : i < length x = subst (λ (n : ℕ). i < n) p.same_length within in
              let own_x : (get_or x i o).key ≡ key = sym (p.each i o lx).same_key ∙ ap (λ (n : Member R W). n.key) (get_or_default y i o d within) ∙ own in
              let is : key ≡ (get_or x j o).key = closed_key key (get_or x j o).key _ other c in
              not_here (apart j i o lt lx (ap (λ (k : PeerKey). k.0) (sym is ∙ sym own_x)))
        ])
        (each_as (λ k. [] ++ []) (λ k. []) (λ k. frames_to k send ++ []) (λ k. frames_to k out.send) (λ k end. IsFault read_fault write_fault end ⊎ can k end) can x (set y i q)
        (λ k. refl) (λ k. append-nil (frames_to k send) ∙ ap (frames_to k) same)
        (λ k end cause. elim cause [ inl fault ↦ fault_cause conduct dig read_fault write_fault a h k end fault | inr other ↦ other ])
        (each_trans (λ k. []) (λ k. []) (λ k. frames_to k send) (λ k. []) (λ k. IsFault read_fault write_fault) can x y (set y i q) p
        (each_set (λ k. []) (λ k. []) can y i m q within (get_or_default y i d m within)
        (moves_as [] [] [] [] (λ is. is ≡ Closed why) (can m.key) m q refl refl (λ end is. subst (can m.key) (sym is) closed) moves)
        (λ j o lt apart. (refl, refl)))))

    -- nothing happens, or a flush
    pub goes_flushed : (a b : EngineView D) (x : List (Member R W)) → MayBeFlushed conduct dig a b → GoesOn conduct dig read_fault write_fault remaining contents a x b x
    goes_flushed a b x (inl same) = subst (λ (e : EngineView D). GoesOn conduct dig read_fault write_fault remaining contents a x e x) (sym same) (goes_nowhere a x)
    goes_flushed a b x (inr flush) = goes_quietly a b Flush (Flushed flush.0) x flush.1 refl (λ k. refl) (λ k. refl) (λ k out why is. absurd (flush_no_next k is))
