-- What a start comes to, with a log or without.
use Rattle.std.proofs.Common.{[], ◌≡◌, ℕ, List, Option, Some, None, Ok, ap, sym, subst, ◌∙◌}
use Rattle.bt_disk.specs.Conduct.{Conduct}
use Rattle.bt_meta.specs.Torrent.{Metainfo}
use Rattle.bt_resume.specs.ResumeLog.{LogView}
use Rattle.bt_machine.specs.Opening.{BeginsOn, AnswersStart, starts, other_count, other_log, no_memory}
use Rattle.bt_machine.specs.Opening.BeginsOn.{bare, with_log}
use Rattle.bt_machine.specs.Start.{AreDevicesOf}
use Rattle.bt_machine.specs.State.{EngineState, EngineView}
use Rattle.bt_machine.proofs.Restarts.{recovered}

module _ {D : Type 0} (conduct : Conduct D) (dig : List ℕ → List ℕ) (torrent : Metainfo) (given : List D)
    (log : Option (LogView D)) where
  -- an engine that was started so
  pub record IsStarted (engine : EngineView D) : Type 0 where
    pub placed : List (Option D)
    pub devices : AreDevicesOf torrent.files given placed
    pub begins : BeginsOn conduct dig torrent placed log engine
    pub unlogged : log ≡ None → engine.log ≡ None
    pub same_torrent : engine.state.torrent ≡ torrent
    pub no_peer : engine.state.peers ≡ []

  begun_so : (engine : EngineView D) (placed : List (Option D)) → AreDevicesOf torrent.files given placed → BeginsOn conduct dig torrent placed log engine
      → IsStarted engine
  begun_so engine placed are (bare none begun same unlogged) = record {
    placed = placed;
    devices = are;
    begins = bare none begun same unlogged;
    unlogged = λ _. unlogged;
    same_torrent = ap (λ (s : EngineState). s.torrent) begun.is;
    no_peer = ap (λ (s : EngineState). s.peers) begun.is;
  }
  begun_so engine placed are (with_log l calls some of_torrent begun made same) = record {
    placed = placed;
    devices = are;
    begins = with_log l calls some of_torrent begun made same;
    unlogged = λ none. absurd (let bad : Some l ≡ None = sym some ∙ none in cc);
    same_torrent = ap (λ (s : EngineState). s.torrent) (recovered dig begun).is;
    no_peer = ap (λ (s : EngineState). s.peers) (recovered dig begun).is;
  }

  pub started : {answer : _} (engine : EngineView D) → AnswersStart conduct dig torrent given log answer → answer ≡ Ok engine → IsStarted engine
  started engine (starts first placed are begun is) ok =
      let one : first ≡ engine = cc in subst IsStarted one (begun_so first placed are begun)
  started engine (other_count other back) ok = let is = back.is in absurd cc
  started engine (other_log l so_many some other back) ok = let is = back.is in absurd cc
  started engine (no_memory so_many own back) ok = let is = back.is in absurd cc
