-- How a part of a check stands: what was done with it since it was started.
use Rattle.std.specs.Prelude.{
  ◌≡◌,
  ◌⊎◌,
  ◌≤◌,
  ◌+◌,
  ℕ,
  pos,
  Bool,
  true,
  false,
  List,
  [],
  ◌∷◌,
  ◌++◌,
  Option,
  None,
  Some,
  IfSome,
  Result,
  Ok,
  Err,
}
use Rattle.std.specs.List.{AllZip}
use Rattle.std.specs.Process.{exit_code}
use Rattle.std.specs.declared.process.status.ExitStatus.{ExitStatus}
use Rattle.bt_jobs.specs.Starts.{Start}

-- How it was started; the text that it was passed whole, if any; how often it was looked at; whether it was told to
-- end, and whether it was waited for since; how it ended, where that was told.
pub record PartState : Type 0 where
  pub start : Start
  pub text : Option (List ℕ)
  pub looks : ℕ
  pub is_told : Bool
  pub is_gone : Bool
  pub status : Option ExitStatus

-- ---- what is done with it

-- it was just started
abbrev pub newly : Start → PartState
newly start = record {
  start = start;
  text = None;
  looks = 0;
  is_told = false;
  is_gone = false;
  status = None;
}

-- it was passed a text, with this outcome
abbrev pub passed : {T E : Type 0} → List ℕ → Result T E → PartState → PartState
passed text (Ok _) state = record state { text = Some text }
passed text (Err _) state = state

-- it was looked at, which told this
abbrev pub looked : {E : Type 0} → Result (Option ExitStatus) E → PartState → PartState
looked (Ok status) state = record state { looks = state.looks + 1; status = status }
looked (Err _) state = record state { looks = state.looks + 1 }

-- it was told to end
abbrev pub told_to_end : PartState → PartState
told_to_end state = record state { is_told = true }

-- it was waited for, which told this
abbrev pub waited_for : {E : Type 0} → Result ExitStatus E → PartState → PartState
waited_for (Ok status) state = record state { is_gone = state.is_told; status = Some status }
waited_for (Err _) state = record state { is_gone = state.is_told }

-- ---- how it stands then

-- it was passed this text whole
abbrev pub WasPassed : List ℕ → PartState → Type 0
WasPassed text state = state.text ≡ Some text

-- where it was told that it has ended, it did so with status 0
abbrev pub HasNotFailed : PartState → Type 0
HasNotFailed state = IfSome state.status (λ status. exit_code status ≡ Some (pos 0))

-- it was passed this text whole, was looked at so often at least, and has not failed
pub record IsSeen (text : List ℕ) (looks : ℕ) (state : PartState) : Type 0 where
  pub has : WasPassed text state
  pub often : looks ≤ state.looks
  pub well : HasNotFailed state

-- it has ended, with status 0
pub record HasEndedWell (state : PartState) : Type 0 where
  pub status : ExitStatus
  pub ended : state.status ≡ Some status
  pub well : exit_code status ≡ Some (pos 0)

-- it was passed this text whole, and has ended with status 0
abbrev pub IsDone : List ℕ → PartState → Type 0
IsDone text state = WasPassed text state × HasEndedWell state

-- nothing of it is left: it has ended with status 0, or was told to end and waited for since
abbrev pub IsOver : PartState → Type 0
IsOver state = HasEndedWell state ⊎ (state.is_gone ≡ true)

-- ---- parts, of which `stands` says how they stand

-- a call made this of whatever it was
abbrev pub Becomes : {P : Type 0} → (P → PartState → Type 0) → P → (PartState → PartState) → P → Type 0
Becomes stands old change new = (state : PartState) → stands old state → stands new (change state)

-- a part that was started so, of which this holds
pub record IsPart {P : Type 0} (stands : P → PartState → Type 0) (fact : PartState → Type 0) (part : P)
    (start : Start) : Type 0 where
  pub state : PartState
  pub stand : stands part state
  pub same : state.start ≡ start
  pub holds : fact state

-- These were started one after the other: `starts` says so of one of them, with who started it, before and after.
pub data AreBegun {S : Type 0} (starts : S → Start → S → Type 0) (old : S) : List Start → S → Type 0 where
  none : AreBegun starts old [] old
  more : (done : List Start) (next : Start) (mid new : S) → AreBegun starts old done mid
      → starts mid next new → AreBegun starts old (done ++ next ∷ []) new

-- Parts were started so, one after the other, and this holds of each of them now.
pub record AreStarted {S P : Type 0} (starts : S → Start → S → Type 0) (stands : P → PartState → Type 0)
    (fact : PartState → Type 0) (old : S) (begun : List Start) (new : S) (parts : List P) : Type 0 where
  pub started : AreBegun starts old begun new
  pub stand : AllZip (IsPart stands fact) parts begun

-- Whatever was started, each part of it is over.
pub record NoneIsLeft {S P : Type 0} (starts : S → Start → S → Type 0) (stands : P → PartState → Type 0)
    (old new : S) : Type 0 where
  pub begun : List Start
  pub parts : List P
  pub over : AreStarted starts stands IsOver old begun new parts
