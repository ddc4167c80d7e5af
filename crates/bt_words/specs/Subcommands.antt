-- The commands of the program, and the words of each, as the kit's `clap` reads them.
use Rattle.std.specs.Prelude.{true, List, [], ◌∷◌, ◌++◌, Some, codes}
use Rattle.clap.specs.Words.{App, Rule, Text, new_app, new_rule, with_subcommand}
use Rattle.clap.specs.Simple.{on_top}
use Rattle.clap.specs.declared.builder.action.ArgAction.TheVariants.{Append, SetTrue}

-- ---- words

-- a word that must be there
abbrev pub required_rule : Text → Rule
required_rule id = record (new_rule id) { required = true }

-- an option with a value, of which help says what it is
abbrev pub option_rule : Text → Rule
option_rule id = record (new_rule id) { long = Some id; value_names = 1 }

-- an option without a value
abbrev pub flag_rule : Text → Rule
flag_rule id = record (new_rule id) { long = Some id; action = Some SetTrue }

abbrev pub info_rule : Rule
info_rule = flag_rule (codes "info")

abbrev pub verbose_rule : Rule
verbose_rule = flag_rule (codes "verbose")

abbrev pub name_rule : Rule
name_rule = record (required_rule (codes "name")) { long = Some (codes "name") }

abbrev pub piece_length_rule : Rule
piece_length_rule = record (new_rule (codes "piece-length")) {
  long = Some (codes "piece-length");
  defaults = codes "262144" ∷ [];
}

abbrev pub jobs_rule : Rule
jobs_rule = record (option_rule (codes "jobs")) { defaults = codes "1" ∷ [] }

abbrev pub part_rule : Rule
part_rule = option_rule (codes "part")

abbrev pub serve_rule : Rule
serve_rule = option_rule (codes "serve")

abbrev pub forever_rule : Rule
forever_rule = flag_rule (codes "forever")

abbrev pub together_rule : Rule
together_rule = flag_rule (codes "together")

abbrev pub listen_rule : Rule
listen_rule = record (option_rule (codes "listen")) { defaults = codes "127.0.0.1" ∷ [] }

abbrev pub port_rule : Rule
port_rule = record (option_rule (codes "port")) { defaults = codes "0" ∷ [] }

abbrev pub read_only_rule : Rule
read_only_rule = flag_rule (codes "read-only")

abbrev pub log_rule : Rule
log_rule = option_rule (codes "log")

-- one peer at least
abbrev pub peers_rule : Rule
peers_rule = record (required_rule (codes "PEER")) { action = Some Append }

-- ---- commands

-- a command with these words, in turn, after those that it has
abbrev pub with_rules : App → List Rule → App
with_rules app rules = on_top (λ shape. record shape { rules = shape.rules ++ rules }) app

-- a command of this name with these words
abbrev pub command_app : Text → List Rule → App
command_app name rules = with_rules (new_app name) rules

unfoldable pub make_app : App
make_app = command_app (codes "make")
    (required_rule (codes "DIR") ∷ required_rule (codes "OUT") ∷ name_rule ∷ piece_length_rule
    ∷ verbose_rule ∷ [])

unfoldable pub show_app : App
show_app = command_app (codes "show") (required_rule (codes "TORRENT") ∷ info_rule ∷ verbose_rule ∷ [])

unfoldable pub check_app : App
check_app = command_app (codes "check")
    (required_rule (codes "TORRENT") ∷ required_rule (codes "DIR") ∷ jobs_rule ∷ part_rule ∷ info_rule
    ∷ verbose_rule ∷ [])

unfoldable pub seed_app : App
seed_app = command_app (codes "seed")
    (required_rule (codes "TORRENT") ∷ required_rule (codes "DIR") ∷ serve_rule ∷ forever_rule ∷ together_rule
    ∷ listen_rule ∷ port_rule ∷ read_only_rule ∷ log_rule ∷ info_rule ∷ verbose_rule ∷ [])

unfoldable pub fetch_app : App
fetch_app = command_app (codes "fetch")
    (required_rule (codes "TORRENT") ∷ required_rule (codes "DIR") ∷ peers_rule ∷ together_rule ∷ log_rule
    ∷ info_rule ∷ verbose_rule ∷ [])

unfoldable pub replay_app : App
replay_app = command_app (codes "replay") (verbose_rule ∷ [])

-- ---- the program

abbrev pub with_version : App → App
with_version = on_top (λ shape. record shape { has_version = true })

-- the program's name is none of the words, a subcommand must be there, and with no word at all there is help
abbrev pub with_demands : App → App
with_demands = on_top (λ shape. record shape {
  no_binary_name = true;
  subcommand_required = true;
  arg_required_else_help = true;
})

unfoldable pub top_app : App
top_app = with_demands (with_version (new_app (codes "btseed")))

-- the program with the commands that work on torrents and their files
unfoldable pub file_app : App
file_app = with_subcommand (with_subcommand (with_subcommand top_app make_app.top) show_app.top) check_app.top

-- and on peers
unfoldable pub transfer_app : App
transfer_app = with_subcommand (with_subcommand file_app seed_app.top) fetch_app.top

unfoldable pub program_app : App
program_app = with_subcommand transfer_app replay_app.top
