-- What the parts of an engine owe while the notes of settled blocks are followed, one after the other.
use Rattle.bt_machine.proofs.Base.{[], ◌≡◌, List, ◌∷◌, sym, ap, ◌∙◌, subst, Metainfo}
use Rattle.bt_book.specs.Blocks.{Blocks}
use Rattle.bt_machine.specs.State.{EngineState}
use Rattle.bt_machine.specs.declared.answer.Note.{Note}
use Rattle.bt_machine.specs.declared.answer.Note.TheVariants.{Marked, Freed}
use Rattle.bt_engine_state.specs.BlockChange.{AreFollowed}
use Rattle.bt_engine_state.specs.declared.counts.Counts.{Counts}
use Rattle.bt_engine_messages.specs.HashesSteps.{IsNoteOf, HasNoted, IsBehind}

torrent_kept : (s : EngineState) (note : Note) (t : EngineState) → IsNoteOf s note t → t.torrent ≡ s.torrent
torrent_kept s (Marked b) t n = n.differ.same_torrent
torrent_kept s (Freed b) t n = n.differ.same_torrent
torrent_kept s _ t same = ap (λ (x : EngineState). x.torrent) same

module _ {blocks : Blocks} {counts : Counts} {note : Note} {notes : List Note} {last : EngineState} (h : IsBehind blocks counts (note ∷ notes) last) where
  pub noted_next : (torrent : Metainfo) → torrent ≡ last.torrent → HasNoted torrent blocks counts note
  noted_next torrent same =
      record { first = h.first; last = h.noted.0; same_torrent = h.same_torrent ∙ sym same; followed = h.followed; noted = h.noted.1 }

  pub behind_next : (set : Blocks) (now : Counts) → AreFollowed h.noted.0 set now → IsBehind set now notes last
  behind_next set now followed = record {
    first = h.noted.0;
    same_torrent = torrent_kept h.first note h.noted.0 h.noted.1 ∙ h.same_torrent;
    followed = followed;
    noted = h.noted.2;
  }

pub behind_done : {blocks : Blocks} {counts : Counts} {last : EngineState} → IsBehind blocks counts [] last → AreFollowed last blocks counts
behind_done {blocks} {counts} h = subst (λ (s : EngineState). AreFollowed s blocks counts) (sym h.noted) h.followed
