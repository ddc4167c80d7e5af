-- Why words that are well formed ask for no task: for private steps of the command line.
use Rattle.std.specs.Prelude.{◌≡◌, ◌⊎◌, ⊤, List, []}
use Rattle.clap.specs.Words.{Text, fault_of, subcommand_of, subcommand_rows_of}
use Rattle.clap.specs.declared.parser.matches.ArgMatches.{ArgMatches}
use Rattle.clap.specs.declared.error.kind.ErrorKind.{ErrorKind}
use Rattle.clap.specs.declared.error.kind.ErrorKind.TheVariants as kind
use Rattle.bt_words.specs.Subcommands.{program_app}
use Rattle.bt_words.specs.declared.command_line.Refusal.{Refusal}
use Rattle.bt_words.specs.declared.command_line.Refusal.TheVariants.{OutOfMemory, Value}

-- memory is short, or the reason holds
abbrev pub IsRefusalFor : Type 0 → Refusal → Type 0
IsRefusalFor Reason OutOfMemory = ⊤
IsRefusalFor Reason (Value wanted) = Reason

-- the kind of the error that tells of a refusal
abbrev pub TellsOf : Refusal → ErrorKind → Type 0
TellsOf OutOfMemory told = told ≡ kind.OutOfMemory
TellsOf (Value wanted) told = (told ≡ kind.OutOfMemory) ⊎ (told ≡ kind.ValueValidation)

-- words without a fault, and what was read of them
pub record AreWordsOf (words : List Text) (matches : ArgMatches) : Type 0 where
  pub faultless : fault_of program_app words ≡ []
  pub met : subcommand_rows_of matches ≡ subcommand_of program_app words
