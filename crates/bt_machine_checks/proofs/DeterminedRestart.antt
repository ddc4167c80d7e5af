-- Nothing is left to an engine where all is begun anew.
use Rattle.bt_machine_checks.proofs.Base.{[], ◌≡◌, ◌≢◌, ℕ, suc, false, List, ◌∷◌, ◌++◌, length, map, Some, Err, refl, sym, ap, ◌∙◌, subst, arith, slice_get, range_with_len, length-map, Facts, block_of, same_map}
use Rattle.bt_machine_checks.proofs.Machine.{Digest, Hint, FileState, EngineState, DeviceCalls, LogCall, hints_read, reload_fault, with_file, reads_at, Restarted}
use Rattle.bt_resume.specs.declared.hint.Hint.TheVariants.{Proof, Marks}
use Rattle.bt_resume.specs.declared.error.LogError.{LogError}
use Rattle.bt_store.specs.BlockReads.{judged}
use Rattle.bt_machine.specs.declared.error.RestartError.TheVariants.{Log, OutOfMemory}
use Rattle.bt_machine.specs.Recovery.{TakesProof, accepted, passed, TakesHints, RestoresFile, empty, restored, RestoresFiles, Recovers, recorded_blocks}
use Rattle.bt_machine.specs.Restart.{StepRestart, restarts, unread, no_memory, ReadsAgain, read as reread, none as bare, KeepsPlaces}
use Rattle.bt_machine.specs.Start.{IsTorrentTree}
use Rattle.bt_machine.proofs.Lists.{heads, tails, same_some, get_some, some_below}
use Rattle.bt_machine.proofs.Recovered.{one_tree}
use Rattle.bt_machine.proofs.Restarts.{hints_root, has_base, begun, recovered}
use Rattle.bt_machine.proofs.Shape.{map_set}
use Rattle.bt_machine_checks.proofs.DeterminedParts.{accepts_one, facts_is}
use Rattle.bt_machine_checks.proofs.DeterminedAsks.{AreOne, are_equal}
use Rattle.bt_machine_checks.proofs.DeterminedEvents.{split_one, reads_one, file_one}

-- ---- lists

get_one : {X Y : Type 0} (f : X → Y) (xs ys : List X) → map f xs ≡ map f ys → ((i : ℕ) (x y : X) → slice_get xs i ≡ Some x → slice_get ys i ≡ Some y → f x ≡ f y → x ≡ y)
    → xs ≡ ys
get_one f [] [] same each = refl
get_one f (x ∷ xs) (y ∷ ys) same each =
    ap (λ z. z ∷ xs) (each 0 x y refl refl (heads same)) ∙ ap (λ zs. y ∷ zs) (get_one f xs ys (tails same) (λ i. each (suc i)))
get_one f _ _ same each = absurd cc

module _ (dig : Digest) where
  -- ---- trees

  hints_one : (hints : List Hint) (k a b : Facts) → TakesHints dig k hints a → TakesHints dig k hints b → a ≡ b
  hints_one [] k a b x y = x ∙ sym y
  hints_one (Proof key digests ∷ hints) k a b x y = hints_one hints x.0 a b x.2 (subst (λ z. TakesHints dig z hints b) (sym (by x.1 y.1)) y.2)
    where
      by : {l j : Facts} → TakesProof dig k key digests l → TakesProof dig k key digests j → l ≡ j
      by (accepted p x) (accepted q y) = accepts_one dig x y
      by (accepted p x) (passed q e) = absurd (q p)
      by (passed p e) (accepted q y) = absurd (p q)
      by (passed p e) (passed q f) = e ∙ sym f
  hints_one (Marks file first count ∷ hints) k a b x y = hints_one hints k a b x y

  tree_one : {torrent : _} {k j : Facts} → IsTorrentTree dig torrent k → IsTorrentTree dig torrent j → k.root ≡ j.root → k ≡ j
  tree_one {torrent} {k} {j} a b root =
      let same = one_tree dig torrent k j a b root in
      facts_is (sym same.long) (sym same.root) (same_map k.nodes j.nodes (λ q. sym (same.held q.0 q.1)))

  trees_one : {s m n hints c d : _} → Recovers dig s hints c m → Recovers dig s hints d n → KeepsPlaces s m → KeepsPlaces s n → m.trees ≡ n.trees
  trees_one {s} {m} {n} {hints} x y p q = get_one (λ (k : Facts). k.root) m.trees n.trees (p.roots ∙ sym q.roots) (λ t k j at there root.
      let a = has_base dig x t k at in
      let b = has_base dig y t j there in
      let base : a.base ≡ b.base = tree_one a.says b.says (sym (hints_root dig hints a.base k a.takes) ∙ root ∙ hints_root dig hints b.base j b.takes) in
      hints_one hints a.base k j a.takes (subst (λ z. TakesHints dig z hints j) (sym base) b.takes))

  -- ---- files

  -- each file keeps its tree
  file_trees : {hints file s c m : _} → RestoresFile dig hints file s c m → map (λ (f : FileState). f.tree) m.files ≡ map (λ (f : FileState). f.tree) s.files
  file_trees (empty f at nothing made e) = ap (λ z. map (λ (f : FileState). f.tree) z.files) e
  file_trees {file = file} {s = s} (restored f k rs is some order made e) =
      ap (λ z. map (λ (f : FileState). f.tree) z.files) e ∙ map_set (λ (f : FileState). f.tree) s.files file _ is.here refl

  files_trees : (hints : List Hint) (files : List ℕ) (s m : EngineState) (c : DeviceCalls) → RestoresFiles dig hints files s c m
      → map (λ (f : FileState). f.tree) m.files ≡ map (λ (f : FileState). f.tree) s.files
  files_trees hints [] s m c r = ap (λ z. map (λ (f : FileState). f.tree) z.files) r.1
  files_trees hints (file ∷ files) s m c r = files_trees hints files r.0 m r.2 r.4 ∙ file_trees r.3

  files_one : {s m n hints c d : _} (x : Recovers dig s hints c m) (y : Recovers dig s hints d n) → KeepsPlaces s m → KeepsPlaces s n → x.files ≡ y.files
  files_one {s} {m} {n} {hints} {c} {d} x y p q =
      get_one (λ (f : FileState). f.tree) x.files y.files
      (sym (files_trees hints (range_with_len 0 (length x.files)) (begun dig x) m c x.restores) ∙ p.trees ∙ sym q.trees ∙ files_trees hints (range_with_len 0 (length y.files)) (begun dig y) n d y.restores)
      (λ i f g at there tree.
      let listed = get_some s.torrent.files i (omega (arith, some_below x.files i at, x.is_new.count)) in
      let states = (x.is_new.each_file i listed.0 f listed.1 at).missing ∙ sym (y.is_new.each_file i listed.0 g listed.1 there).missing in
      ap (λ t. record f { tree = t }) tree ∙ ap (λ st. record g { states = st }) states)

  -- ---- reads

  restore_one : {hints file s c d more rest m n : _} → RestoresFile dig hints file s c m → RestoresFile dig hints file s d n → c ++ more ≡ d ++ rest
      → (m ≡ n) × (more ≡ rest)
  restore_one {more = more} {rest = rest} (empty f at nothing made e) (empty g there none also h) same =
      (e ∙ sym h, sym (ap (λ c. c ++ more) made) ∙ same ∙ ap (λ c. c ++ rest) also)
  restore_one (empty f at nothing made e) (restored g k rs is some order also h) same =
      absurd (some (ap (λ (q : FileState). q.states) (same_some is.here at) ∙ nothing))
  restore_one (restored g k rs is some order also h) (empty f at nothing made e) same =
      absurd (some (ap (λ (q : FileState). q.states) (same_some is.here at) ∙ nothing))
  restore_one {hints} {file} {s} {c} {d} (restored f k rs is some order made e) (restored g l qs is_too some_too order_too also h) same =
      let one = file_one is is_too in
      let blocks : map block_of rs ≡ map block_of qs =
      order ∙ ap (λ z. recorded_blocks dig z hints file (length f.states)) one.1 ∙ ap (λ (q : FileState). recorded_blocks dig l hints file (length q.states)) one.0 ∙ sym order_too in
      let size : length rs ≡ length qs = sym (length-map rs block_of) ∙ ap length blocks ∙ length-map qs block_of in
      let parts = split_one c d (ap length made ∙ length-map rs _ ∙ size ∙ sym (length-map qs _) ∙ sym (ap length also)) same in
      let reads : rs ≡ qs = reads_one file k.file_length rs qs (sym made ∙ parts.0 ∙ also ∙ ap (λ z. reads_at file z.file_length qs) (sym one.1)) in (
        e ∙ ap (λ z. with_file s file (record f { states = judged dig z false rs f.states })) one.1
            ∙ ap (λ q. with_file s file (record q { states = judged dig l false rs q.states })) one.0
            ∙ ap (λ r. with_file s file (record g { states = judged dig l false r g.states })) reads ∙ sym h,
        parts.1,
      )

  restores_one : (hints : List Hint) (files : List ℕ) (s : EngineState) {m n : EngineState} {c d : DeviceCalls} → RestoresFiles dig hints files s c m
      → RestoresFiles dig hints files s d n → c ≡ d → m ≡ n
  restores_one hints [] s x y same = x.1 ∙ sym y.1
  restores_one hints (file ∷ files) s {n = n} x y same =
      let one = restore_one x.3 y.3 (sym x.5 ∙ same ∙ y.5) in
      restores_one hints files x.0 x.4 (subst (λ z. RestoresFiles dig hints files z y.2 n) (sym one.0) y.4) one.1

  recovers_one : {s m n hints c : _} → Recovers dig s hints c m → Recovers dig s hints c n → KeepsPlaces s m → KeepsPlaces s n → m ≡ n
  recovers_one {s} {m} {n} {hints} {c} x y p q =
      let trees : x.trees ≡ y.trees = ap (λ z. z.trees) (sym (recovered dig x).is) ∙ trees_one x y p q ∙ ap (λ z. z.trees) (recovered dig y).is in
      let files = files_one x y p q in
      let first : begun dig x ≡ begun dig y = ap (λ ts. record (begun dig x) { trees = ts }) trees ∙ ap (λ fs. record (begun dig y) { files = fs }) files in
      restores_one hints (range_with_len 0 (length x.files)) (begun dig x) x.restores
      (subst (λ z. RestoresFiles dig hints (range_with_len 0 (length x.files)) z c n) (sym first)
      (subst (λ (fs : List FileState). RestoresFiles dig hints (range_with_len 0 (length fs)) (begun dig y) c n) (sym files) y.restores)) refl

  -- ---- the log

  abbrev hints_of : List LogCall → List Hint
  hints_of (hints_read hints ∷ calls) = hints
  hints_of _ = []

  read_hints : {s log hints : _} → ReadsAgain s log hints → hints ≡ hints_of log
  read_hints (reread logged made) = ap hints_of (sym made)
  read_hints (bare unlogged made is) = is ∙ ap hints_of (sym made)

  not_read : {s log hints : _} (cause : LogError) → ReadsAgain s log hints → log ≡ reload_fault cause ∷ [] → ⊥
  not_read cause (reread logged made) e = absurd cc
  not_read cause (bare unlogged made is) e = absurd cc

  pub restart_one : {s m n calls a b : _} → StepRestart dig s calls a m → StepRestart dig s calls b n → a ≢ Err OutOfMemory → b ≢ Err OutOfMemory
      → AreOne (Restarted a) m (Restarted b) n
  restart_one x (no_memory hints reads made e f) memory room = absurd (room e)
  restart_one (no_memory hints reads made e f) y memory room = absurd (memory e)
  restart_one {s} {n = n} {calls = calls} (restarts hints reads recovers places e) (restarts others also too stay f) memory room =
      let same : others ≡ hints = read_hints also ∙ sym (read_hints reads) in
      are_equal (ap Restarted (e ∙ sym f)) (recovers_one recovers (subst (λ hs. Recovers dig s hs calls.devices n) same too) places stay)
  restart_one (restarts hints reads recovers places e) (unread cause logged made f same) memory room = absurd (not_read cause reads (ap (λ c. c.log) made))
  restart_one (unread cause logged made f same) (restarts hints reads recovers places e) memory room = absurd (not_read cause reads (ap (λ c. c.log) made))
  restart_one (unread cause logged made e same) (unread other logged_too also f same_too) memory room =
      let log : reload_fault cause ∷ [] ≡ reload_fault other ∷ [] = ap (λ c. c.log) (sym made ∙ also) in
      are_equal (ap Restarted (e ∙ ap (λ c. Err (Log c)) (cause_is (heads log)) ∙ sym f)) (same ∙ sym same_too)
    where
      cause_is : {x y : LogError} → reload_fault x ≡ reload_fault y → x ≡ y
      cause_is e = cc
