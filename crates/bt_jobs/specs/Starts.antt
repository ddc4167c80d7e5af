-- How the parts of a check are started.
use Rattle.std.specs.Prelude.{◌≡◌, ◌≢◌, ◌⊎◌, ℕ, ℤ, pos, Bool, List, map, Option, Some}
use Rattle.std.specs.List.{range_with_len}
use Rattle.std.specs.Process.{command_args, command_program}
use Rattle.std.specs.declared.io.ErrorKind.{ErrorKind}
use Rattle.std.specs.declared.io.ErrorKind.TheVariants.{OutOfMemory as no_growth}
use Rattle.std.specs.declared.process.command.Command.{Command}
use Rattle.bt_check.specs.Fault.{device, out_of_memory}
use Rattle.bt_check.specs.declared.fault.Fault.{Fault}
use Rattle.bt_jobs.specs.Children.{part_words, program_text}
use Rattle.bt_jobs.specs.declared.start_fault.StartFault.{StartFault}
use Rattle.bt_jobs.specs.declared.start_fault.StartFault.TheVariants.{NotStarted, Failed, OutOfMemory}

-- ---- faults

-- the fault of the program that it comes to where no part runs that has the torrent
abbrev pub start_fault : StartFault → Fault
start_fault NotStarted = device
start_fault Failed = device
start_fault OutOfMemory = out_of_memory

-- why a part could not be started, by the kind of the error of the call that was to start it
abbrev pub unstarted : ErrorKind → StartFault
unstarted no_growth = OutOfMemory
unstarted _ = NotStarted

-- Why a part did not take the whole torrent, by its end, of which the code is none where a signal ended it: memory
-- was short where the code says so, and else it failed.
abbrev pub IsEarlyEnd : Option ℤ → StartFault → Type 0
IsEarlyEnd code fault =
    ((code ≡ Some (pos 4)) × (fault ≡ OutOfMemory)) ⊎ ((code ≢ Some (pos 4)) × (fault ≡ Failed))

-- ---- starts

-- a program, and the words after its name
pub record Start : Type 0 where
  pub program : List ℕ
  pub words : List (List ℕ)

-- what a command starts
abbrev pub start_of : {A : Type 0} → Command A → Start
start_of command = record { program = command_program command; words = command_args command }

-- the program that this process runs, with these words
abbrev pub start_with : List (List ℕ) → Start
start_with words = record { program = program_text; words = words }

-- how `count` parts are started, from the first one on
abbrev pub part_starts : (is_info : Bool) (dir : List ℕ) (count : ℕ) → List Start
part_starts is_info dir count =
    map (λ index. start_with (part_words is_info dir index count)) (range_with_len 0 count)
