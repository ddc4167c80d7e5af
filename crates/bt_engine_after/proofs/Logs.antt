-- The log of an engine's parts, of which only what waits for it has changed.
use Rattle.bt_machine.proofs.Base.{[], ◌≡◌, length, map, Option, Some, None, is_some, refl, sym, ap, ◌∙◌, subst, option_map_or}
use Rattle.bt_resume.specs.ResumeLog.{LogView}
use Rattle.bt_book.specs.Book.{peers_of}
use Rattle.bt_engine_state.specs.Parts.{state_of, disks_of, pending_of, hints_of}
use Rattle.bt_engine_state.specs.Ties.{root_and_length}
use Rattle.bt_engine_state.specs.declared.open_log.OpenLog.{OpenLog}
use Rattle.bt_engine_state.specs.declared.parts.Parts.{Parts}
use Rattle.bt_engine_state.proofs.BlockChanges.{followed_alike}
use Rattle.bt_engine_state.proofs.Leaves.{leaves_alike}
use Rattle.bt_engine_after.specs.GroupSteps.{log_in}
use Rattle.bt_engine_after.specs.PartsSteps.{AreFit, Follows, AreInLine, KeepsRest, block_count_of_tree}
use Rattle.bt_engine_after.specs.WaitingSteps.{OnlyPendingChanges}

module _ {D : Type 0} where
  has_log : (log : Option (OpenLog D)) → is_some log ≡ is_some (log_in log)
  has_log None = refl
  has_log (Some opened) = refl

  its_hints : (log : Option (OpenLog D)) → hints_of log ≡ option_map_or (λ (l : LogView D). l.hints) (log_in log) []
  its_hints None = refl
  its_hints (Some opened) = refl

  module _ (a b : Option (OpenLog D)) (same : log_in a ≡ log_in b) where
    pub logged_same : is_some a ≡ is_some b
    logged_same = has_log a ∙ ap (λ o. is_some o) same ∙ sym (has_log b)

    pub hints_same : hints_of a ≡ hints_of b
    hints_same = its_hints a ∙ ap (λ o. option_map_or (λ (l : LogView D). l.hints) o []) same ∙ sym (its_hints b)

-- ---- nothing else has changed

module _ {D H : Type 0} {old new : Parts D H} (keeps : OnlyPendingChanges old new) where
  pub same_disks : disks_of new ≡ disks_of old
  same_disks = ap (λ (p : Parts D H). disks_of p) keeps.others

  -- but what is pending
  pub state_with : state_of new ≡ record (state_of old) { pending = pending_of new.log }
  state_with =
      ap (λ (p : Parts D H). record (state_of p) { logged = is_some new.log; pending = pending_of new.log; hints = hints_of new.log }) keeps.others
      ∙ ap (λ b. record (state_of old) { logged = b; pending = pending_of new.log; hints = hints_of new.log }) (logged_same new.log old.log keeps.log)
      ∙ ap (λ hs. record (state_of old) { pending = pending_of new.log; hints = hs }) (hints_same new.log old.log keeps.log)

  pub state_same : pending_of new.log ≡ pending_of old.log → state_of new ≡ state_of old
  state_same pending = state_with ∙ ap (λ hs. record (state_of old) { pending = hs }) pending

  pub rest_of_log : KeepsRest old new
  rest_of_log = record {
    others = keeps.others ∙ ap (λ (p : Parts D H). record old { slots = p.slots; trees = p.trees; book = p.book; counts = p.counts; log = new.log }) (sym keeps.others);
    log = keeps.log;
    count = ap (λ (p : Parts D H). length p.slots.items) keeps.others;
    trees = ap (λ (p : Parts D H). map root_and_length p.trees.items) keeps.others;
    blocks = λ tree. ap (λ (p : Parts D H). block_count_of_tree (state_of p) tree) keeps.others;
    leaves = leaves_alike (state_of old) (state_of new) (ap (λ (p : Parts D H). p.trees.items) keeps.others) (ap (λ (p : Parts D H). (state_of p).files) keeps.others);
    peers = ap (λ (p : Parts D H). peers_of p.book) keeps.others;
  }

  pub in_line_of_log : AreInLine old → AreInLine new
  in_line_of_log in_line = record {
    follows = subst (λ (p : Parts D H). Follows p (state_of new)) (sym keeps.others)
        (followed_alike (state_of new) in_line.follows (ap (λ (p : Parts D H). p.torrent) keeps.others) (ap (λ (p : Parts D H). (state_of p).files) keeps.others));
    fits = subst (λ (p : Parts D H). AreFit p) (sym keeps.others) in_line.fits;
  }
