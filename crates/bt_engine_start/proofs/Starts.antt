-- An engine begins with a log, or with none.
use Rattle.bt_machine.proofs.Base.{[], ◌≡◌, ◌≢◌, ℕ, ◌+◌, is_some, Bool, true, false, List, map, Option, Some, None, Ok, refl, sym, ap, ◌∙◌, subst, IsLawful, Facts}
use Rattle.std.specs.Prelude.{◌↔◌}
use Rattle.bt_disk.specs.Conduct.{Conduct}
use Rattle.bt_meta.specs.Torrent.{Metainfo}
use Rattle.bt_resume.specs.ResumeLog.{LogView}
use Rattle.bt_resume.specs.declared.hint.Hint.{Hint}
use Rattle.bt_machine.specs.Opening.{unopened, StartsWith, Begins, BeginsOn, AnswersStart, starts}
use Rattle.bt_machine.specs.Opening.Begins.{bare, with_log}
use Rattle.bt_machine.specs.Opening.BeginsOn.{bare as on_bare, with_log as on_log}
use Rattle.bt_machine.specs.Start.{IsNew, AreDevicesOf}
use Rattle.bt_machine.specs.State.{EngineView}
use Rattle.bt_machine.proofs.Lists.{some_is}
use Rattle.bt_engine_state.specs.Parts.{state_of, disks_of, peer_of, pending_of, hints_of}
use Rattle.bt_engine_state.specs.declared.open_log.OpenLog.{OpenLog}
use Rattle.bt_engine_state.specs.declared.peer.Peer.{Peer}
use Rattle.bt_engine_state.specs.declared.parts.Parts.{Parts}
use Rattle.bt_engine_start.specs.Starting.{engine_of}
use Rattle.bt_engine_start.specs.StartingSteps.{log_in, IsLogOf}
use Rattle.bt_engine_start.specs.BeginningSteps.{AreFirst}
use Rattle.bt_engine_start.specs.Taking.{TakeHints}
use Rattle.bt_engine_start.specs.RecoverySteps.{HaveBegun, RecoversFiles}
use Rattle.bt_engine_start.proofs.ProvenTrees.{same_trees}
use Rattle.bt_engine_start.proofs.Recovers.{recovers_from}
use Rattle.bt_engine_start.proofs.Restarts.{begun_with_log}

-- ---- a log that is there, or is not

some_by : {X : Type 0} (o : Option X) → is_some o ≡ true → (x : X) × (o ≡ Some x)
some_by None e = absurd cc
some_by (Some x) e = (x, refl)

pub none_by : {X : Type 0} (o : Option X) → is_some o ≡ false → o ≡ None
none_by None e = refl
none_by (Some x) e = absurd cc

-- a log of another torrent
pub another_log : {D : Type 0} (infohash : List ℕ) (log : Option (LogView D)) (own : Bool) → ((own ≡ true) ↔ IsLogOf infohash log) → own ≡ false
    → (l : LogView D) × (log ≡ Some l) × (l.infohash ≢ infohash)
another_log infohash None own is off = absurd (let on : own ≡ true = is.1 (λ l e. absurd cc) in cc)
another_log {D} infohash (Some l) own is off = (
  l,
  refl,
  λ same. absurd (let on : own ≡ true = is.1 (λ k e. ap (λ (x : LogView D). x.infohash) (sym (some_is e)) ∙ same) in cc),
)

-- ---- the parts get their log

module _ {D H : Type 0} {dig : List ℕ → List ℕ} (parts : Parts D H) (log : Option (OpenLog D)) (first : AreFirst parts) (b : HaveBegun dig (hints_of log) parts) where
  -- the parts with this log
  abbrev logged : Option (OpenLog D) → Parts D H
  logged o = record parts { log = o }

  state_logged : (o : Option (OpenLog D)) → state_of (logged o)
      ≡ record (unopened parts.torrent) { trees = parts.trees.items; files = (state_of parts).files; logged = is_some o; pending = pending_of o; hints = hints_of o }
  state_logged o =
      ap (λ (ps : List Peer). record (state_of (logged o)) { peers = map (peer_of parts.book) ps }) b.alone
      ∙ ap (λ n. record (state_of (logged o)) { peers = []; next_key = n + 1 }) first.first_key
      ∙ ap (λ n. record (state_of (logged o)) { peers = []; next_key = 1; turn = n }) first.first_turn

  -- there is none
  pub begins_bare : {conduct : Conduct D} → log ≡ None → BeginsOn conduct dig parts.torrent (disks_of parts) (log_in log) (engine_of parts)
  begins_bare none =
      let stay : parts.trees.items ≡ b.bases =
      same_trees b.bases parts.trees.items (subst (λ (hints : List Hint). TakeHints dig hints b.bases parts.trees.items) (ap hints_of none) b.takes) in
      let is_new = subst (λ (trees : List Facts). IsNew dig parts.torrent trees (state_of parts).files) (sym stay) b.is_new in
      let first_state = ap (λ (o : Option (OpenLog D)). state_of (logged o)) first.no_log ∙ state_logged None in
      on_bare (ap log_in none) (record { is_new = is_new; is = first_state }) refl (ap log_in first.no_log)

  -- there is one
  pub begins_logged : {conduct : Conduct D} {new : Parts D H} → RecoversFiles conduct dig (logged log) new → pending_of log ≡ [] → is_some log ≡ true
      → IsLogOf parts.torrent.infohash (log_in log) → new.torrent ≡ parts.torrent → new.log ≡ log
      → BeginsOn conduct dig new.torrent (disks_of parts) (log_in log) (engine_of new)
  begins_logged {conduct} {new} recovers none on own same kept =
      let held = some_by log on in
      let state =
      state_logged log
      ∙ ap (λ l. record (unopened parts.torrent) { trees = parts.trees.items; files = (state_of parts).files; logged = l; pending = pending_of log; hints = hints_of log }) on
      ∙ ap (λ hs. record (unopened parts.torrent) { trees = parts.trees.items; files = (state_of parts).files; pending = hs; hints = hints_of log }) none in
      let begins : StartsWith dig parts.torrent (hints_of log) recovers.calls (state_of new) =
      recovers_from (unopened parts.torrent) (begun_with_log parts log b) state recovers in
      on_log held.0.log recovers.calls (ap log_in held.1) (own held.0.log (ap log_in held.1) ∙ sym (ap (λ (t : Metainfo). t.infohash) same))
      (subst (λ (t : Metainfo). StartsWith dig t held.0.log.hints recovers.calls (state_of new)) (sym same)
      (subst (λ (hints : List Hint). StartsWith dig parts.torrent hints recovers.calls (state_of new)) (ap hints_of held.1) begins))
      recovers.made (ap log_in kept)

pub lawful_first : {D H : Type 0} {parts : Parts D H} {torrent : Metainfo} → AreFirst parts → torrent ≡ parts.torrent → IsLawful torrent.piece_length torrent.files
lawful_first first same = subst (λ (t : Metainfo). IsLawful t.piece_length t.files) (sym same) first.lawful

-- ---- the machine's answer

pub begins_of : {D : Type 0} {conduct : Conduct D} {dig : List ℕ → List ℕ} {torrent : Metainfo} {given : List (Option D)} {log : Option (LogView D)}
    {new : EngineView D} → BeginsOn conduct dig torrent given log new → Begins dig torrent new.state
begins_of (on_bare none begins disks log) = bare begins
begins_of (on_log l calls has own begins made kept) = with_log l.hints calls begins

pub answers : {D : Type 0} {conduct : Conduct D} {dig : List ℕ → List ℕ} {torrent said : Metainfo} {given : List D} {placed : List (Option D)} {log own : Option (LogView D)}
    {new : EngineView D} → AreDevicesOf torrent.files given placed → said ≡ torrent → own ≡ log → BeginsOn conduct dig said placed own new
    → AnswersStart conduct dig torrent given log (Ok new)
answers {D} {conduct} {dig} {torrent} {said} {given} {placed} {log} {own} {new} devices is log_is begins =
    starts new placed devices
    (subst (λ (t : Metainfo). BeginsOn conduct dig t placed log new) is (subst (λ (l : Option (LogView D)). BeginsOn conduct dig said placed l new) log_is begins)) refl
