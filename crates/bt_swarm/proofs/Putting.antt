-- What is put into a way out, one after the other.
use Rattle.std.proofs.Common.{[], ◌≡◌, ℕ, List, ◌∷◌, ◌++◌, Option, Some, None, refl, sym, ap, ◌∙◌, subst, append_assoc}
use Rattle.std.proofs.KnownBytes.{Appends-nil, Appends-trans, Appends-kept, Keeps-trans}
use Rattle.std.specs.Io.KnownBytes.{Appends, Keeps}
use Rattle.bt_machine.specs.declared.answer.Frame.{Frame}
use Rattle.bt_session.specs.declared.end.SessionEnd.{SessionEnd}
use Rattle.bt_session.specs.Frames.{spelling, spellings}
use Rattle.bt_swarm.specs.Moves.{keep_alive, AreSpelled, none, frame, alive, ArePut, HasFirst, IsWritten, IsWrittenOn}

-- ---- spelled

all_spelled : (frames : List Frame) → AreSpelled frames (spellings frames)
all_spelled [] = none
all_spelled (f ∷ frames) = frame f frames (spellings frames) (all_spelled frames)

spelled_then : (f g : List Frame) (a b : List ℕ) → AreSpelled f a → AreSpelled g b → AreSpelled (f ++ g) (a ++ b)
spelled_then f g a b none q = q
spelled_then f g a b (frame first frames bytes p) q =
    subst (AreSpelled (first ∷ (frames ++ g))) (sym (append_assoc (spelling first) bytes b)) (frame first (frames ++ g) (bytes ++ b) (spelled_then frames g bytes b p q))
spelled_then f g a b (alive frames bytes p) q =
    subst (AreSpelled (frames ++ g)) (sym (append_assoc keep_alive bytes b)) (alive (frames ++ g) (bytes ++ b) (spelled_then frames g bytes b p q))

-- ---- put

pub put_all : (x y : Option (List ℕ)) (frames : List Frame) → Appends x y (spellings frames) → ArePut x y frames
put_all x y frames p = record { bytes = spellings frames; spelled = all_spelled frames; behind = p }

pub put_alive : (x y : Option (List ℕ)) → Appends x y keep_alive → ArePut x y []
put_alive x y p = record { bytes = keep_alive; spelled = alive [] [] none; behind = p }

pub put_none : (x y : Option (List ℕ)) → Keeps x y → ArePut x y []
put_none x y kept = record { bytes = []; spelled = none; behind = Appends-kept x x y [] (Appends-nil x) kept }

put_then : (x y z : Option (List ℕ)) (f g : List Frame) → ArePut x y f → ArePut y z g → ArePut x z (f ++ g)
put_then x y z f g p q = record {
  bytes = p.bytes ++ q.bytes;
  spelled = spelled_then f g p.bytes q.bytes p.spelled q.spelled;
  behind = Appends-trans x y z p.bytes q.bytes p.behind q.behind;
}

put_kept : (x y z : Option (List ℕ)) (f : List Frame) → ArePut x y f → Keeps y z → ArePut x z f
put_kept x y z f p kept = record { bytes = p.bytes; spelled = p.spelled; behind = Appends-kept x y z p.bytes p.behind kept }

-- ---- the first of them

-- none of them
pub first_none : (x y : Option (List ℕ)) (frames : List Frame) → Keeps x y → HasFirst x y frames
first_none x y frames kept = record { first = []; rest = frames; are = refl; put = put_none x y kept }

-- all, and then the first ones
first_then : (x y z : Option (List ℕ)) (f g : List Frame) → ArePut x y f → HasFirst y z g → HasFirst x z (f ++ g)
first_then x y z f g p q = record {
  first = f ++ q.first;
  rest = q.rest;
  are = ap (λ l. f ++ l) q.are ∙ sym (append_assoc f q.first q.rest);
  put = put_then x y z f q.first p q.put;
}

-- the first ones, and then nothing
no_more : (x y z : Option (List ℕ)) (f g : List Frame) → HasFirst x y f → Keeps y z → HasFirst x z (f ++ g)
no_more x y z f g p kept = record {
  first = p.first;
  rest = p.rest ++ g;
  are = ap (λ l. l ++ g) p.are ∙ append_assoc p.first p.rest g;
  put = put_kept x y z p.first p.put kept;
}

written_then : (x y z : Option (List ℕ)) (f g : List Frame) (c : Option SessionEnd) → ArePut x y f → IsWritten y z g c → IsWritten x z (f ++ g) c
written_then x y z f g None p q = put_then x y z f g p q
written_then x y z f g (Some e) p q = first_then x y z f g p q

pub written_trans : (x y z : Option (List ℕ)) (f g : List Frame) (a b c : Option SessionEnd) → IsWrittenOn x y f a b → IsWrittenOn y z g b c → IsWrittenOn x z (f ++ g) a c
written_trans x y z f g None None c p q = written_then x y z f g c p q
written_trans x y z f g None (Some e) c p q = subst (λ o. IsWritten x z (f ++ g) o) (sym q.1) (no_more x y z f g p q.0)
written_trans x y z f g (Some e) b c p q =
    let on = subst (λ o. IsWrittenOn y z g o c) p.1 q in
    (Keeps-trans x y z p.0 on.0, on.1)

-- nothing was put, and it is as it was or has ended
pub nothing_on : (x y : Option (List ℕ)) (e : Option SessionEnd) → Keeps x y → IsWrittenOn x y [] e e
nothing_on x y None kept = put_none x y kept
nothing_on x y (Some e) kept = (kept, refl)

-- one that has not ended had not
pub was_open : (x y : Option (List ℕ)) (f : List Frame) (a b : Option SessionEnd) → IsWrittenOn x y f a b → b ≡ None → a ≡ None
was_open x y f None b w fresh = refl
was_open x y f (Some e) b w fresh = absurd (let no : None ≡ Some e = sym fresh ∙ w.1 in cc)
