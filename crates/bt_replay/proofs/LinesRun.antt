-- Lines that run one after the other.
use Rattle.std.proofs.Common.{[], ◌≡◌, ℕ, ◌+◌, List, ◌∷◌, ◌++◌, length, Option, refl, sym, ap, ◌∙◌, append_assoc, length-append, arith}
use Rattle.std.specs.Borrow.{Bor}
use Rattle.std.specs.Io.KnownBytes.{Keeps}
use Rattle.std.proofs.KnownBytes.{Appends-nil, Appends-trans, Appends-kept}
use Rattle.bt_disk.specs.Conduct.{Conduct}
use Rattle.bt_machine.specs.State.{EngineView}
use Rattle.bt_replay.specs.Event.{nothing, one_more}
use Rattle.bt_replay.specs.Field.{parts_of}
use Rattle.bt_replay.specs.Run.{lines_in, HasRun, HasRunOne, EndsAtLine, bad_line, no_memory, not_written, EndsEarly, at_bad_line, without_memory, unwritten}
use Rattle.bt_replay.specs.declared.fault.ReplayFault.{ReplayFault}
use Rattle.bt_replay.specs.declared.fault.ReplayFault.TheVariants.{Line as bad_line_at}

-- how far it has come: these lines ran, and the rest is left
pub record IsAt {D : Type 0} (conduct : Conduct D)
    (dig : List ℕ → List ℕ) (handshake : List ℕ) (first : EngineView D) (start number : ℕ)
    (all : List (List ℕ)) (rest : Option (Bor (List ℕ))) (old new : Option (List ℕ)) (now : EngineView D)
    : Type 0 where
  pub done : List (List ℕ)
  pub parted : all ≡ done ++ lines_in rest
  pub counted : number ≡ start + length done
  pub ran : HasRun conduct dig handshake first done old new now

pub at_start : {D : Type 0} (conduct : Conduct D)
    (dig : List ℕ → List ℕ) (handshake : List ℕ) (first : EngineView D) (start : ℕ)
    (rest : Option (Bor (List ℕ))) (old : Option (List ℕ))
    → IsAt conduct dig handshake first start start (lines_in rest) rest old old first
at_start conduct dig handshake first start rest old = record {
  done = [];
  parted = refl;
  counted = omega arith;
  ran = record { text = []; runs = nothing; written = Appends-nil old };
}

-- the line that comes next is there
parted_more : (all done more : List (List ℕ)) (line text : List ℕ) → all ≡ done ++ parts_of 10 text
    → parts_of 10 text ≡ line ∷ more → all ≡ done ++ line ∷ more
parted_more all done more line text parted cut = parted ∙ ap (λ lines. done ++ lines) cut

pub at_more : {D : Type 0} (conduct : Conduct D)
    (dig : List ℕ → List ℕ) (handshake : List ℕ) (first mid now : EngineView D) (start number next : ℕ)
    (all : List (List ℕ)) (text line : List ℕ) (rest more : Option (Bor (List ℕ))) (old new newer : Option (List ℕ))
    → IsAt conduct dig handshake first start number all rest old new mid
    → lines_in rest ≡ parts_of 10 text → parts_of 10 text ≡ line ∷ lines_in more → next ≡ number + 1
    → HasRunOne conduct dig handshake mid line new newer now
    → IsAt conduct dig handshake first start next all more old newer now
at_more conduct dig handshake first mid now start number next all text line rest more old new newer at here cut is one = record {
  done = at.done ++ line ∷ [];
  parted = parted_more all at.done (lines_in more) line text (at.parted ∙ ap (λ lines. at.done ++ lines) here) cut ∙ sym (append_assoc at.done (line ∷ []) (lines_in more));
  counted = let len = length-append at.done (line ∷ []) in omega (arith, is, at.counted, len);
  ran = record {
    text = at.ran.text ++ one.said;
    runs = one_more at.done line one.spelled at.ran.text one.said mid now at.ran.runs one.spells one.does;
    written = Appends-trans old new newer at.ran.text one.said at.ran.written one.written;
  };
}

-- where a line is the last, the lines end there
pub kept_run : {D : Type 0} (conduct : Conduct D) (dig : List ℕ → List ℕ)
    (handshake : List ℕ) (first now : EngineView D) (lines : List (List ℕ)) (old new newer : Option (List ℕ))
    → HasRun conduct dig handshake first lines old new now → Keeps new newer
    → HasRun conduct dig handshake first lines old newer now
kept_run conduct dig handshake first now lines old new newer ran kept = record {
  text = ran.text;
  runs = ran.runs;
  written = Appends-kept old new newer ran.text ran.written kept;
}

pub ends_here : {D : Type 0} (conduct : Conduct D)
    (dig : List ℕ → List ℕ) (handshake : List ℕ) (first mid : EngineView D) (start number : ℕ)
    (all : List (List ℕ)) (text line : List ℕ) (rest more : Option (Bor (List ℕ))) (old new newer : Option (List ℕ))
    (fault : ReplayFault)
    → IsAt conduct dig handshake first start number all rest old new mid
    → lines_in rest ≡ parts_of 10 text → parts_of 10 text ≡ line ∷ lines_in more
    → EndsAtLine handshake number line new newer fault
    → EndsEarly conduct dig handshake first start all old newer fault
ends_here conduct dig handshake first mid start number all text line rest more old new newer fault at here cut (bad_line bad is kept) =
    at_bad_line at.done (lines_in more) line mid
    (parted_more all at.done (lines_in more) line text (at.parted ∙ ap (λ lines. at.done ++ lines) here) cut)
    (kept_run conduct dig handshake first mid at.done old new newer at.ran kept) bad
    (is ∙ ap bad_line_at at.counted)
ends_here conduct dig handshake first mid start number all text line rest more old new newer fault at here cut (no_memory takes is kept) =
    without_memory at.done (lines_in more) line mid
    (parted_more all at.done (lines_in more) line text (at.parted ∙ ap (λ lines. at.done ++ lines) here) cut)
    (kept_run conduct dig handshake first mid at.done old new newer at.ran kept) takes is
ends_here conduct dig handshake first mid start number all text line rest more old new newer fault at here cut (not_written is) = unwritten is
