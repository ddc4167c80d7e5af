-- The calls of a log, parted and put together.
use Rattle.std.specs.Prelude.{is_some, option_map}
use Rattle.std.proofs.Common.{[], ◌≡◌, ℕ, true, List, ◌∷◌, ◌++◌, length, Option, Some, None, refl, sym, ap, ◌∙◌}
use Rattle.bt_tree.specs.Limits.{digest_length}
use Rattle.bt_disk.specs.Conduct.{Conduct}
use Rattle.bt_resume.specs.ResumeLog.{LogView}
use Rattle.bt_machine.specs.Backing.{GoesByLog}
use Rattle.bt_machine.specs.LogCalls.{LogCall, AreLogCalls, HaveLogCalls}
use Rattle.bt_engine_state.specs.declared.open_log.OpenLog.{OpenLog}
use Rattle.bt_engine_state.specs.declared.parts.Parts.{Parts}
use Rattle.bt_engine.specs.Kept.{view_of}

module _ {D : Type 0} (conduct : Conduct D) where
  calls_parted : (old new : _) (calls more : List LogCall) → AreLogCalls conduct old (calls ++ more) new
      → (mid : _) × AreLogCalls conduct old calls mid × AreLogCalls conduct mid more new
  calls_parted old new [] more made = (old, refl, made)
  calls_parted old new (call ∷ calls) more made =
      let rest = calls_parted made.0 new calls more made.2 in (rest.0, (made.0, made.1, rest.1), rest.2)

  calls_joined : (old mid new : _) (calls more : List LogCall) → AreLogCalls conduct old calls mid
      → AreLogCalls conduct mid more new → AreLogCalls conduct old (calls ++ more) new
  calls_joined old mid new [] more first then = rw first at then
  calls_joined old mid new (call ∷ calls) more first then = (first.0, first.1, calls_joined first.0 mid new calls more first.2 then)

  none_parted : (calls more : List LogCall) → calls ++ more ≡ [] → (calls ≡ []) × (more ≡ [])
  none_parted [] more none = (refl, none)
  none_parted (call ∷ calls) more none = absurd cc

  -- some calls and then others are those of a log between
  pub logs_parted : (old new : Option _) (calls more : List LogCall) → HaveLogCalls conduct old (calls ++ more) new
      → (mid : Option _) × HaveLogCalls conduct old calls mid × HaveLogCalls conduct mid more new
  logs_parted (Some old) (Some new) calls more made = let both = calls_parted old new calls more made in (Some both.0, both.1, both.2)
  logs_parted None None calls more made = let none = none_parted calls more made in (None, none.0, none.1)
  logs_parted (Some old) None calls more made = absurd made
  logs_parted None (Some new) calls more made = absurd made

  pub logs_joined : (old mid new : Option _) (calls more : List LogCall) → HaveLogCalls conduct old calls mid
      → HaveLogCalls conduct mid more new → HaveLogCalls conduct old (calls ++ more) new
  logs_joined (Some old) (Some mid) (Some new) calls more first then = calls_joined old mid new calls more first then
  logs_joined None None None calls more first then = ap (λ l. l ++ more) first ∙ then
  logs_joined (Some old) None new calls more first then = absurd first
  logs_joined None (Some mid) new calls more first then = absurd first
  logs_joined (Some old) (Some mid) None calls more first then = absurd then
  logs_joined None None (Some new) calls more first then = absurd then

  -- none is made
  pub no_log_calls : (log : Option _) → HaveLogCalls conduct log [] log
  no_log_calls (Some log) = refl
  no_log_calls None = refl

-- the parts go by their log, where its infohash has 32 bytes
pub goes_by : {D H : Type 0} (parts : Parts D H)
    → ((open_log : OpenLog D) → parts.log ≡ Some open_log → length open_log.log.infohash ≡ digest_length) → GoesByLog (view_of parts)
goes_by {D} parts whole log is = by parts.log refl
  where
    same : {a b : LogView D} → Some a ≡ Some b → a ≡ b
    same e = cc

    none : {l : LogView D} → None ≡ Some l → ⊥
    none e = cc

    by : (o : Option (OpenLog D)) → parts.log ≡ o → (is_some parts.log ≡ true) × (length log.infohash ≡ digest_length)
    by (Some open_log) e = (
      ap is_some e,
      ap (λ (l : LogView D). length l.infohash) (same (sym is ∙ ap (option_map (λ (x : OpenLog D). x.log)) e)) ∙ whole open_log e,
    )
    by None e = absurd (none (sym (ap (option_map (λ (x : OpenLog D). x.log)) e) ∙ is))

-- where they have one
pub goes_by_some : {D H : Type 0} (parts : Parts D H) {open_log : OpenLog D} {infohash : List ℕ} → parts.log ≡ Some open_log
    → infohash ≡ open_log.log.infohash → length infohash ≡ digest_length → GoesByLog (view_of parts)
goes_by_some {D} parts {open_log} is same size = goes_by parts (λ other at. by other at)
  where
    by : (other : OpenLog D) → parts.log ≡ Some other → length other.log.infohash ≡ digest_length
    by other at =
        let one : other ≡ open_log = cc in
        ap (λ (l : OpenLog D). length l.log.infohash) one ∙ ap (λ (bytes : List ℕ). length bytes) (sym same) ∙ size

-- and where they have none
pub goes_by_none : {D H : Type 0} (parts : Parts D H) → parts.log ≡ None → GoesByLog (view_of parts)
goes_by_none parts none = goes_by parts (λ other at. absurd cc)
