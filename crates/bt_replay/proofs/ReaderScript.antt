-- A script that is read by several reads.
use Rattle.std.proofs.Common.{◌≡◌, ◌≢◌, ℕ, ◌≤◌, List, ◌++◌, Option, Result, Ok, Err, IfErr, IsErrAnd, inr, length, length-append, take, arith}
use Rattle.std.proofs.lemmas.List.{length-take}
use Rattle.std.specs.Io.KnownBytes.{Consumes}
use Rattle.std.proofs.KnownBytes.{Consumes-trans}
use Rattle.bt_replay.specs.Fault.{out_of_memory}
use Rattle.bt_replay.specs.Reader.{IsUnread}
use Rattle.bt_replay.specs.ReaderSteps.{GivesSome}
use Rattle.bt_replay.specs.declared.fault.ReplayFault.{ReplayFault}

-- the bytes so far are those that the reader gave
pub record IsFront (old new : Option (List ℕ)) (limit : ℕ) (script : List ℕ) : Type 0 where
  pub taken : Consumes old new script
  pub within : length script ≤ limit

-- no memory for the bytes of one more read
pub no_room : {T : Type 0} (r : Result T ReplayFault) (old mid new : Option (List ℕ)) (limit count : ℕ)
    (script run : List ℕ) → IsFront old mid limit script → GivesSome mid new count run → count ≢ 0
    → IsErrAnd r (λ fault. fault ≡ out_of_memory) → IfErr r (IsUnread old new)
no_room (Ok x) old mid new limit count script run front gives some same = absurd same
no_room (Err fault) old mid new limit count script run front gives some same = record {
  lost = script ++ take count run;
  taken = Consumes-trans old mid new script (take count run) front.taken gives.taken;
  cause =
      let more = length-take count run in
      let all = length-append script (take count run) in
      inr (same, omega (arith, more, all, gives.within, some));
}
