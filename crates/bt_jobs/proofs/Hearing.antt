-- What the parts tell, read by several reads.
use Rattle.std.proofs.Common.{◌≡◌, ℕ, ◌+◌, ◌≤◌, List, [], ◌++◌, Option, None, Some, Result, Ok, Err, IfOk, length, sym, ap, ◌∙◌, subst, take, append-nil, append_assoc, arith}
use Rattle.std.specs.Io.KnownBytes.{Consumes, Keeps}
use Rattle.std.proofs.KnownBytes.{Consumes-nil, Consumes-trans}
use Rattle.std.proofs.lemmas.List.{length-append, length-take-le}
use Rattle.bt_jobs.specs.JobsSteps.{AreWatched, HearsAll, IsGiven, TakesIn}
use Rattle.bt_jobs.specs.Parts.{IsSeen, PartState}
use Rattle.bt_jobs.specs.PartsSteps.{TurnAll}
use Rattle.bt_jobs.specs.Told.{IsToldBy}
use Rattle.bt_jobs.specs.declared.told.Told.{Told}

-- after reads that took nothing
pub kept_then : (a b c : Option (List ℕ)) (bytes : List ℕ) → Keeps a b → Consumes b c bytes → Consumes a c bytes
kept_then None b c bytes p q = tt
kept_then (Some x) None c bytes p q = absurd p
kept_then (Some x) (Some y) None bytes p q = absurd q
kept_then (Some x) (Some y) (Some z) bytes p q = sym p ∙ q

-- some bytes of a reader were taken in
pub record Hears (old new : Option (List ℕ)) (before after : Told) : Type 0 where
  pub bytes : List ℕ
  pub taken : Consumes old new bytes
  pub told : TakesIn bytes before after

pub heard_none : (known : Option (List ℕ)) (told : Told) → Hears known known told told
heard_none known told = record {
  bytes = [];
  taken = Consumes-nil known;
  told = λ text is. subst (λ t. IsToldBy t told) (sym (append-nil text)) is;
}

module _ (a b c : Option (List ℕ)) (before mid : Told) (count : ℕ) (buffer : List ℕ) (h : Hears a b before mid) (given : IsGiven b c count buffer) where
  -- those of one read more
  pub heard_more : (after : Told) (piece : List ℕ) → TakesIn piece mid after → piece ≡ take count buffer → Hears a c before after
  heard_more after piece more is = record {
    bytes = h.bytes ++ take count buffer;
    taken = Consumes-trans a b c h.bytes (take count buffer) h.taken given.taken;
    told = λ text was.
        subst (λ t. IsToldBy t after) (append_assoc text h.bytes (take count buffer))
        (subst (λ p. IsToldBy ((text ++ h.bytes) ++ p) after) is (more (text ++ h.bytes) (h.told text was)));
  }

  -- there were no more
  pub heard_all : count ≡ 0 → HearsAll a c before mid
  heard_all none =
      let nothing : take count buffer ≡ [] = ap (λ n. take n buffer) none in
      record {
        bytes = h.bytes;
        taken = subst (Consumes a c) (ap (λ l. h.bytes ++ l) nothing ∙ append-nil h.bytes)
            (Consumes-trans a b c h.bytes (take count buffer) h.taken given.taken);
        ended = given.ended none;
        told = h.told;
      }

-- ---- and parts are looked at each time

module _ {P : Type 0} (stands : P → PartState → Type 0) (most : ℕ) where
  pub watched_none : (known : Option (List ℕ)) (parts : List P) → AreWatched stands most known known parts parts
  watched_none known parts = record {
    bytes = [];
    taken = Consumes-nil known;
    looks = 0;
    often = omega arith;
    seen = λ text begun are. are;
  }

  module _ (a b c : Option (List ℕ)) (before mid : List P) (count : ℕ) (buffer : List ℕ) (h : AreWatched stands most a b before mid) (given : IsGiven b c count buffer) where
    pub watched_more : (after : List P) → length buffer ≤ most
        → ((text : List ℕ) (looks : ℕ) → TurnAll stands (IsSeen text looks) (IsSeen text (looks + 1)) mid after) → AreWatched stands most a c before after
    watched_more after fits look = record {
      bytes = h.bytes ++ take count buffer;
      taken = Consumes-trans a b c h.bytes (take count buffer) h.taken given.taken;
      looks = h.looks + 1;
      often = omega (arith, h.often, fits, given.within, length-append h.bytes (take count buffer), length-take-le count buffer given.within);
      seen = λ text begun are. look text h.looks begun (h.seen text begun are);
    }

    pub watched_all : count ≡ 0 → AreWatched stands most a c before mid
    watched_all none =
        let nothing : take count buffer ≡ [] = ap (λ n. take n buffer) none in
        record {
          bytes = h.bytes;
          taken = subst (Consumes a c) (ap (λ l. h.bytes ++ l) nothing ∙ append-nil h.bytes)
              (Consumes-trans a b c h.bytes (take count buffer) h.taken given.taken);
          looks = h.looks;
          often = h.often;
          seen = h.seen;
        }

pub if_ok_any : {T E : Type 0} (r : Result T E) (P : Type 0) → P → IfOk r (λ _. P)
if_ok_any (Ok x) P holds = holds
if_ok_any (Err e) P holds = tt

-- a result that is known to be Ok
pub ok_is : {T E : Type 0} (r : Result T E) (x : T) (P : T → Type 0) → r ≡ Ok x → IfOk r P → P x
ok_is {T} {E} r x P is holds = subst (λ (s : Result T E). IfOk s P) is holds
