-- What the words of the command line ask for. How words are read is the kit's: `subcommand_of` gives the
-- subcommand with its matches, a row for each word or option; `fault_of` lists the kinds of error, and is
-- empty where there is none.
use Rattle.std.specs.Prelude.{◌≡◌, ℕ, ◌⊎◌, true, false, Bool, List, [], Option, None, Some, codes}
use Rattle.std.specs.Bool.{Decides}
use Rattle.std.specs.Borrow.{Bor}
use Rattle.std.specs.List.{AllZip}
use Rattle.std.specs.Option.{option_map}
use Rattle.clap.specs.Words.{IsAmong, Row, Text, all_of, fault_of, first_of, one_of, subcommand_of}
use Rattle.clap.specs.declared.error.kind.ErrorKind.{ErrorKind}
use Rattle.clap.specs.declared.error.kind.ErrorKind.TheVariants.{OutOfMemory, ValueValidation}
use Rattle.bt_check.specs.declared.torrent_file.Source.{Source}
use Rattle.bt_parts.specs.declared.cut.Part.{Part as PartOf}
use Rattle.bt_words.specs.declared.peer.Service.{Service}
use Rattle.bt_words.specs.declared.peer.Serving.{Serving}
use Rattle.bt_words.specs.declared.peer.Serving.TheVariants.{Count, Together, Forever}
use Rattle.bt_words.specs.Subcommands.{program_app}
use Rattle.bt_words.specs.Values.{IsAddress, IsJobs, IsNumber, IsPartWord, IsPeerWord}
use Rattle.bt_words.specs.declared.command_line.CheckTask.{CheckTask}
use Rattle.bt_words.specs.declared.command_line.Work.{Work}
use Rattle.bt_words.specs.declared.command_line.Work.TheVariants.{Jobs, Part}
use Rattle.bt_words.specs.declared.command_line.FetchTask.{FetchTask}
use Rattle.bt_words.specs.declared.command_line.MakeTask.{MakeTask}
use Rattle.bt_words.specs.declared.command_line.SeedTask.{SeedTask}
use Rattle.bt_words.specs.declared.command_line.ShowTask.{ShowTask}
use Rattle.bt_words.specs.declared.command_line.Task.{Task}
use Rattle.bt_words.specs.declared.command_line.Task.TheVariants.{Make, Show, Check, Seed, Fetch, Replay}

-- ---- words

-- the value of an option is a number of `bits` bits
pub record HasNumber (bits : ℕ) (rows : List Row) (id : Text) (n : ℕ) : Type 0 where
  pub text : List ℕ
  pub given : first_of id rows ≡ Some text
  pub number : IsNumber bits text n

-- the value of `--jobs` is a number of processes
pub record HasJobs (rows : List Row) (n : ℕ) : Type 0 where
  pub text : List ℕ
  pub given : first_of (codes "jobs") rows ≡ Some text
  pub number : IsJobs text n

-- that of `--part` names a part
pub record HasPart (rows : List Row) (part : PartOf) : Type 0 where
  pub text : List ℕ
  pub given : first_of (codes "part") rows ≡ Some text
  pub named : IsPartWord text part

-- a flag is given or not
pub record IsFlagIn (id : Text) (given : Bool) (rows : List Row) : Type 0 where
  pub set : one_of id rows ≡ Some (codes "true") → given ≡ true
  pub unset : one_of id rows ≡ Some (codes "false") → given ≡ false

-- a flag is given: it has the value of a flag that is
abbrev pub IsGiven : Text → List Row → Type 0
IsGiven id rows = first_of id rows ≡ Some (codes "true")

-- the file of a log, if there is to be one
abbrev pub IsLogIn : List Row → Option (Bor (List ℕ)) → Type 0
IsLogIn rows log = option_map (λ path. path.now) log ≡ first_of (codes "log") rows

-- the same where it may be: not where files are only read, since a log is written
pub record IsLogBeside (is_read_only : Bool) (rows : List Row) (log : Option (Bor (List ℕ))) : Type 0 where
  pub given : IsLogIn rows log
  pub unwritten : is_read_only ≡ true → log ≡ None

-- ---- tasks

pub record IsMakeTaskIn (rows : List Row) (request : MakeTask) : Type 0 where
  pub dir : first_of (codes "DIR") rows ≡ Some request.dir.now
  pub out : first_of (codes "OUT") rows ≡ Some request.out.now
  pub name : first_of (codes "name") rows ≡ Some request.name.now
  pub piece_length : HasNumber 32 rows (codes "piece-length") request.piece_length
  pub verbose : IsFlagIn (codes "verbose") request.verbose rows

pub record IsSourceIn (rows : List Row) (source : Source) : Type 0 where
  pub path : first_of (codes "TORRENT") rows ≡ Some source.path.now
  pub info : IsFlagIn (codes "info") source.is_info rows

pub record IsShowTaskIn (rows : List Row) (task : ShowTask) : Type 0 where
  pub torrent : IsSourceIn rows task.torrent
  pub verbose : IsFlagIn (codes "verbose") task.verbose rows

-- all of a check, by `n` processes; or a part, by one
abbrev pub IsWorkIn : List Row → Work → Type 0
IsWorkIn rows (Jobs n) = HasJobs rows n × (first_of (codes "part") rows ≡ None)
IsWorkIn rows (Part part) = HasJobs rows 1 × HasPart rows part

pub record IsCheckTaskIn (rows : List Row) (task : CheckTask) : Type 0 where
  pub torrent : IsSourceIn rows task.torrent
  pub dir : first_of (codes "DIR") rows ≡ Some task.dir.now
  pub work : IsWorkIn rows task.work
  pub verbose : IsFlagIn (codes "verbose") task.verbose rows

-- `n` connections, one after the other or some at once; or all that come, then always some at once. A number or the
-- flag is said, and not both
abbrev pub IsServingIn : List Row → Serving → Type 0
IsServingIn rows (Count n) = HasNumber 32 rows (codes "serve") n × ¬ IsGiven (codes "forever") rows
    × ¬ IsGiven (codes "together") rows
IsServingIn rows (Together n) = HasNumber 32 rows (codes "serve") n × ¬ IsGiven (codes "forever") rows
    × IsGiven (codes "together") rows
IsServingIn rows Forever = (first_of (codes "serve") rows ≡ None) × IsGiven (codes "forever") rows

pub record IsServiceIn (rows : List Row) (service : Service) : Type 0 where
  pub serving : IsServingIn rows service.serving
  pub listen : first_of (codes "listen") rows ≡ Some service.address.now
  pub address : IsAddress service.address.now
  pub port : HasNumber 16 rows (codes "port") service.port
  pub read_only : Decides service.is_read_only (IsGiven (codes "read-only") rows)

pub record IsSeedTaskIn (rows : List Row) (task : SeedTask) : Type 0 where
  pub torrent : IsSourceIn rows task.torrent
  pub dir : first_of (codes "DIR") rows ≡ Some task.dir.now
  pub service : IsServiceIn rows task.service
  pub log : IsLogBeside task.service.is_read_only rows task.log
  pub verbose : IsFlagIn (codes "verbose") task.verbose rows

-- each word in a peer's place names one, in turn
pub record IsFetchTaskIn (rows : List Row) (task : FetchTask) : Type 0 where
  pub torrent : IsSourceIn rows task.torrent
  pub dir : first_of (codes "DIR") rows ≡ Some task.dir.now
  pub words : List Text
  pub given : all_of (codes "PEER") rows ≡ Some words
  pub peers : AllZip IsPeerWord words task.peers.items
  pub together : Decides task.is_together (IsGiven (codes "together") rows)
  pub log : IsLogIn rows task.log
  pub verbose : IsFlagIn (codes "verbose") task.verbose rows

-- a subcommand of this name with these rows asks for the task
abbrev pub AsksFor : Text → List Row → Task → Type 0
AsksFor name rows (Make request) = (name ≡ codes "make") × IsMakeTaskIn rows request
AsksFor name rows (Show task) = (name ≡ codes "show") × IsShowTaskIn rows task
AsksFor name rows (Check task) = (name ≡ codes "check") × IsCheckTaskIn rows task
AsksFor name rows (Seed task) = (name ≡ codes "seed") × IsSeedTaskIn rows task
AsksFor name rows (Fetch task) = (name ≡ codes "fetch") × IsFetchTaskIn rows task
AsksFor name rows Replay = name ≡ codes "replay"

-- the subcommand that was met asks for the task
abbrev pub IsTaskIn : Option (Text × List Row) → Task → Type 0
IsTaskIn None task = ⊥
IsTaskIn (Some met) task = AsksFor met.0 met.1 task

-- the words have no fault, and ask for the task
pub record IsTaskOf (words : List Text) (task : Task) : Type 0 where
  pub faultless : fault_of program_app words ≡ []
  pub asked : IsTaskIn (subcommand_of program_app words) task

-- out of memory; a fault of the words, help among these; or words without a fault that ask for no task,
-- because what stands in the place of a number, an address or a peer is none, of the two ways to say how many
-- connections are served not one is there, or a log is to be written where files are only read
abbrev pub IsNoTaskOf : List Text → ErrorKind → Type 0
IsNoTaskOf words kind =
    (kind ≡ OutOfMemory)
    ⊎ IsAmong kind (fault_of program_app words)
    ⊎ ((kind ≡ ValueValidation) × ((task : Task) → ¬ IsTaskOf words task))
