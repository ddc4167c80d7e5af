-- Lemmas on the files of an engine that are taken in, one after the other.
use Rattle.std.proofs.Common.{[], ◌≡◌, ◌⊎◌, inl, inr, Ok, Err, ℕ, ◌+◌, ◌<◌, ◌≤◌, Bool, true, false, List, ◌∷◌, ◌++◌, Some, length, map, filter, take, get_or, sym, ap, subst, ◌∙◌, zero-add, append-nil, arith}
use Rattle.std.specs.List.{enumerate_from}
use Rattle.std.specs.Prelude.{slice_get}
use Rattle.std.proofs.lemmas.List.{length-take-le, map-append, take_all, take_more}
use Rattle.std.proofs.lemmas.List.Elements.{All-nil, All-push, filter-append}
use Rattle.std.proofs.lemmas.Option.{get_or_from_slice_get, slice_get-get_or}
use Rattle.bt_disk.specs.Conduct.{Conduct}
use Rattle.bt_machine.specs.declared.event.Event.{Event}
use Rattle.bt_machine.specs.declared.event.Event.TheVariants.{Adopt}
use Rattle.bt_machine.specs.declared.event.Answer.{Answer}
use Rattle.bt_machine.specs.declared.event.Answer.TheVariants.{Adopted}
use Rattle.bt_machine.specs.declared.error.AdoptError.TheVariants.{OutOfMemory}
use Rattle.bt_check.specs.Fault.{device, out_of_memory}
use Rattle.bt_check.specs.declared.fault.Fault.{Fault}
use Rattle.bt_machine.specs.State.{EngineView}
use Rattle.bt_machine.specs.Shape.{IsShaped}
use Rattle.bt_machine.specs.View.{RunsTo, StepsTo}
use Rattle.bt_machine.specs.Adopting.{AdoptsGroups, StepAdopt, no_file, busy, empty, adopts, no_memory}
use Rattle.bt_machine.proofs.Shape.{step_shape}
use Rattle.bt_machine.proofs.View.{none_run, one_more_runs}
use Rattle.bt_files.specs.Adoption.{IsAdoptionFault, IsTakenIn, TakesIn, adoptions}
use Rattle.bt_files.proofs.Devices.{enumerate_from-append}

-- ---- the files of which this is said, one more

abbrev is_chosen : ℕ × Bool → Bool
is_chosen p = p.1

abbrev adopt_at : ℕ × Bool → Event
adopt_at p = Adopt p.0

adoptions_more : (filled : List Bool) (more : Bool)
    → adoptions (filled ++ more ∷ []) ≡ adoptions filled ++ map adopt_at (filter is_chosen ((length filled, more) ∷ []))
adoptions_more filled more =
    ap (λ es. map adopt_at (filter is_chosen es)) (enumerate_from-append 0 filled (more ∷ []))
    ∙ ap (map adopt_at) (filter-append is_chosen (enumerate_from 0 filled) ((0 + length filled, more) ∷ []))
    ∙ map-append adopt_at (filter is_chosen (enumerate_from 0 filled)) (filter is_chosen ((0 + length filled, more) ∷ []))
    ∙ ap (λ n. adoptions filled ++ map adopt_at (filter is_chosen ((n, more) ∷ []))) (zero-add (length filled))

adoptions_chosen : (filled : List Bool) → adoptions (filled ++ true ∷ []) ≡ adoptions filled ++ Adopt (length filled) ∷ []
adoptions_chosen filled = adoptions_more filled true

adoptions_passed : (filled : List Bool) → adoptions (filled ++ false ∷ []) ≡ adoptions filled
adoptions_passed filled = adoptions_more filled false ∙ append-nil (adoptions filled)

-- the first ones of them, up to this file, and one more
one_more : (filled : List Bool) (file : ℕ) (this : Bool) → file < length filled → slice_get filled file ≡ Some this
    → take (file + 1) filled ≡ take file filled ++ this ∷ []
one_more filled file this inside is =
    take_more filled file this inside ∙ ap (λ b. take file filled ++ b ∷ []) (get_or_from_slice_get filled file this this is)

-- that which is not said is denied
not_chosen : (filled : List Bool) (file : ℕ) → file < length filled → ¬ (slice_get filled file ≡ Some true) → slice_get filled file ≡ Some false
not_chosen filled file inside other = by (get_or filled file false) (slice_get-get_or filled file false inside)
  where
    by : (found : Bool) → slice_get filled file ≡ Some found → slice_get filled file ≡ Some false
    by true is = absurd (other is)
    by false is = is

events_chosen : (filled : List Bool) (file : ℕ) → file < length filled → slice_get filled file ≡ Some true
    → adoptions (take (file + 1) filled) ≡ adoptions (take file filled) ++ Adopt file ∷ []
events_chosen filled file inside is =
    let so_many : length (take file filled) ≡ file = length-take-le file filled (omega (arith, inside)) in
    ap adoptions (one_more filled file true inside is) ∙ adoptions_chosen (take file filled)
    ∙ ap (λ n. adoptions (take file filled) ++ Adopt n ∷ []) so_many

events_passed : (filled : List Bool) (file : ℕ) → file < length filled → ¬ (slice_get filled file ≡ Some true)
    → adoptions (take (file + 1) filled) ≡ adoptions (take file filled)
events_passed filled file inside other =
    ap adoptions (one_more filled file false inside (not_chosen filled file inside other)) ∙ adoptions_passed (take file filled)

-- a file that is not taken in without a fault fails by a device or memory
pub adoption_fault : (answer : Answer) (fault : Fault) → IsAdoptionFault answer fault → (fault ≡ device) ⊎ (fault ≡ out_of_memory)
adoption_fault (Adopted (Ok adopted)) fault is = inl is.1
adoption_fault (Adopted (Err OutOfMemory)) fault is = inr is
adoption_fault _ fault is = absurd is

module _ (dig : List ℕ → List ℕ) where
  groups_peers : (s new file from groups total : _) → AdoptsGroups dig s file from groups total new → new.peers ≡ s.peers
  groups_peers s new file from [] total g = ap (λ z. z.peers) g.1
  groups_peers s new file from (calls ∷ groups) total g =
      groups_peers g.1 new file g.0.next groups g.2 g.4 ∙ ap (λ z. z.peers) g.3.after

  -- what is taken in changes no peer
  pub adoption_keeps_peers : {s new file calls answer : _} → StepAdopt dig s file calls answer new → new.peers ≡ s.peers
  adoption_keeps_peers (no_file x y z e) = ap (λ z. z.peers) e
  adoption_keeps_peers (busy x y z w e) = ap (λ z. z.peers) e
  adoption_keeps_peers (empty f x y z w v e) = ap (λ z. z.peers) e
  adoption_keeps_peers {s} {file} (adopts total none a y) =
      ap (λ z. z.peers) a.after ∙ ap (λ z. z.peers) a.settles.others ∙ groups_peers s a.taken_in file 0 _ total a.adopts
  adoption_keeps_peers {s} {new} {file} (no_memory none a y) = groups_peers s new file 0 _ _ a.adopts

module _ {D : Type 0} (conduct : Conduct D) (dig : List ℕ → List ℕ) where
  -- the first `count` files were seen to, and no peer is connected
  pub record IsTaking (first : EngineView D) (filled : List Bool) (count : ℕ) (now : EngineView D) : Type 0 where
    pub taken : TakesIn conduct dig first (take count filled) now
    pub shaped : IsShaped first.state.torrent now.state
    pub no_peer : now.state.peers ≡ []

  -- none of no files
  pub takes_none : (first : EngineView D) → TakesIn conduct dig first [] first
  takes_none first = record { answers = []; runs = none_run conduct dig first; faultless = All-nil IsTakenIn }

  pub taking_none : (first : EngineView D) (filled : List Bool) → IsShaped first.state.torrent first.state → first.state.peers ≡ []
      → IsTaking first filled 0 first
  taking_none first filled shaped none = record {
    taken = takes_none first;
    shaped = shaped;
    no_peer = none;
  }

  pub taking_more : (first mid new : EngineView D) (filled : List Bool) (count : ℕ) (answer : Answer) → IsTaking first filled count mid
      → count < length filled → slice_get filled count ≡ Some true
      → StepsTo conduct dig mid (Adopt count) answer new → IsTakenIn answer → new.state.peers ≡ []
      → IsTaking first filled (count + 1) new
  taking_more first mid new filled count answer taking inside chosen step good none = record {
    taken = record {
      answers = taking.taken.answers ++ answer ∷ [];
      runs = subst (λ events. RunsTo conduct dig first events (taking.taken.answers ++ answer ∷ []) new)
          (sym (events_chosen filled count inside chosen))
          (one_more_runs conduct dig first mid new _ _ (Adopt count) answer taking.taken.runs step);
      faultless = All-push IsTakenIn taking.taken.answers answer taking.taken.faultless good;
    };
    shaped = step_shape dig (Adopt count) step.calls answer taking.shaped step.step;
    no_peer = none;
  }

  pub taking_passed : (first now : EngineView D) (filled : List Bool) (count : ℕ) → IsTaking first filled count now
      → count < length filled → ¬ (slice_get filled count ≡ Some true) → IsTaking first filled (count + 1) now
  taking_passed first now filled count taking inside other = record {
    taken = record {
      answers = taking.taken.answers;
      runs = subst (λ events. RunsTo conduct dig first events taking.taken.answers now)
          (sym (events_passed filled count inside other)) taking.taken.runs;
      faultless = taking.taken.faultless;
    };
    shaped = taking.shaped;
    no_peer = taking.no_peer;
  }

  -- all of them
  pub taken_all : (first now : EngineView D) (filled : List Bool) (count : ℕ) → length filled ≤ count → IsTaking first filled count now
      → TakesIn conduct dig first filled now
  taken_all first now filled count all taking =
      subst (λ seen. TakesIn conduct dig first seen now) (take_all count filled all) taking.taken

  -- the torrent stays, also with the next file
  pub keeps_torrent : (first mid new : EngineView D) (filled : List Bool) (count : ℕ) (answer : Answer) → IsTaking first filled count mid
      → StepsTo conduct dig mid (Adopt count) answer new → new.state.torrent ≡ first.state.torrent
  keeps_torrent first mid new filled count answer taking step =
      (step_shape dig (Adopt count) step.calls answer taking.shaped step.step).same
