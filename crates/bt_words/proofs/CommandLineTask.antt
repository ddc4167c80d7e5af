-- Lemmas on what the words of the command line ask for.
use Rattle.std.proofs.Common.{◌≡◌, ℕ, true, List, map, Option, None, Some, Result, Ok, Err, IfOk, IfErr, IsErrAnd, false, refl, sym, ap, subst, ◌∙◌, codes, inl, inr, Bool}
use Rattle.std.specs.Prelude.{option_map}
use Rattle.std.specs.Bool.{Decides}
use Rattle.std.specs.Borrow.{Bor}
use Rattle.std.specs.Cmp.Lexicographic.{bytes_decides}
use Rattle.std.specs.List.{AllZip}
use Rattle.std.specs.Str.{bytes_eq}
use Rattle.std.specs.Str.Parse.{digits_value}
use Rattle.clap.specs.Words.{App, FailsBy, HasKind, HasMatchesOf, IsAmong, Row, Text, all_of, fault_of, kind_of, first_of, first_value, is_simple, is_simple_and_free, matched_of, raw_values, rows_of, subcommand_of, subcommand_rows_of}
use Rattle.clap.specs.declared.parser.matches.ArgMatches.{ArgMatches}
use Rattle.clap.specs.declared.parser.matches.Found.{Found}
use Rattle.clap.specs.declared.error.Error.{Error}
use Rattle.clap.specs.declared.error.kind.ErrorKind.{ErrorKind}
use Rattle.clap.proofs.OnLiterals.{clap_on_literals}
use Rattle.clap.proofs.WalkLemmas.{first_value-rows, raw_values-rows}
use Rattle.bt_parts.specs.declared.cut.Part.{Part as PartOf}
use Rattle.bt_words.specs.declared.peer.Service.{Service}
use Rattle.bt_words.specs.declared.peer.Serving.{Serving}
use Rattle.bt_words.specs.declared.peer.Serving.TheVariants.{Count, Together, Forever}
use Rattle.bt_words.specs.CommandLine.{AsksFor, HasJobs, HasNumber, IsCheckTaskIn, IsFetchTaskIn, IsGiven, IsLogBeside, IsMakeTaskIn, IsSeedTaskIn, IsServiceIn, IsServingIn, IsShowTaskIn, IsTaskIn, IsTaskOf, IsNoTaskOf, IsWorkIn}
use Rattle.bt_words.specs.CommandLineSteps.{AreWordsOf, IsRefusalFor, TellsOf}
use Rattle.bt_words.specs.Subcommands.{check_app, fetch_app, file_app, make_app, program_app, replay_app, seed_app, show_app, top_app, transfer_app}
use Rattle.bt_words.specs.Values.{IsJobs, IsNumber, IsPartWord, IsPeerWord}
use Rattle.bt_words.specs.declared.peer.Peer.{Peer}
use Rattle.bt_words.specs.declared.command_line.Refusal.{Refusal}
use Rattle.bt_words.specs.declared.command_line.Refusal.TheVariants as refusal
use Rattle.bt_words.specs.declared.command_line.CheckTask.{CheckTask}
use Rattle.bt_words.specs.declared.command_line.Work.{Work}
use Rattle.bt_words.specs.declared.command_line.Work.TheVariants.{Jobs, Part}
use Rattle.bt_words.specs.declared.command_line.FetchTask.{FetchTask}
use Rattle.bt_words.specs.declared.command_line.MakeTask.{MakeTask}
use Rattle.bt_words.specs.declared.command_line.SeedTask.{SeedTask}
use Rattle.bt_words.specs.declared.command_line.ShowTask.{ShowTask}
use Rattle.bt_words.specs.declared.command_line.Task.{Task}
use Rattle.bt_words.specs.declared.command_line.Task.TheVariants.{Make, Show, Check, Seed, Fetch, Replay}

-- ---- refusals

pub refused_as : (P Q : Type 0) (e : Refusal) → (P → Q) → IsRefusalFor P e → IsRefusalFor Q e
refused_as P Q refusal.OutOfMemory f h = tt
refused_as P Q (refusal.Value wanted) f h = f h

-- what a call refused is refused here too
pub passed_on : {T : Type 0} (r : Result T Refusal) (e : Refusal) (P Q : Type 0) → IsRefusalFor P e → (P → Q) → IsErrAnd r (λ found. found ≡ e)
    → IfErr r (IsRefusalFor Q)
passed_on (Ok x) e P Q h f same = tt
passed_on (Err found) e P Q h f same = subst (IsRefusalFor Q) (sym same) (refused_as P Q e f h)

-- ---- rows

-- what `get_str` answers is the first value of the row
pub word_some : (f : Found) (id : List ℕ) (r : Option (Bor (List ℕ))) (s : Bor (List ℕ)) → option_map (λ s. s.now) r ≡ first_value f id → r ≡ Some s
    → first_of id (rows_of f) ≡ Some s.now
word_some f id r s got was = sym (first_value-rows f id) ∙ sym got ∙ ap (option_map (λ s. s.now)) was

pub word_none : (f : Found) (id : List ℕ) (r : Option (Bor (List ℕ))) → option_map (λ s. s.now) r ≡ first_value f id → r ≡ None
    → first_of id (rows_of f) ≡ None
word_none f id r got was = sym (first_value-rows f id) ∙ sym got ∙ ap (option_map (λ s. s.now)) was

-- and what `get_strs` answers is all of them
pub words_are : (f : Found) (id : List ℕ) (r : Option (Bor (List (Bor (List ℕ))))) (o : Option (Bor (List (Bor (List ℕ)))))
    → option_map (λ s. map (λ v. v.now) s.now) r ≡ option_map raw_values (matched_of f id) → r ≡ o
    → all_of id (rows_of f) ≡ option_map (λ s. map (λ v. v.now) s.now) o
words_are f id r o got was = sym (raw_values-rows f id) ∙ sym got ∙ ap (option_map (λ s. map (λ v. v.now) s.now)) was

pub number_none : (bits : ℕ) (rows : List Row) (id text : List ℕ) → first_of id rows ≡ Some text → ((n : ℕ) → ¬ IsNumber bits text n)
    → (n : ℕ) → ¬ HasNumber bits rows id n
number_none bits rows id text given none n has =
    let both : Some has.text ≡ Some text = sym has.given ∙ given in
    let same : has.text ≡ text = cc in
    none n (subst (λ t. IsNumber bits t n) same has.number)

-- a flag is given just where its text says so
pub given_is : (rows : List Row) (id text : List ℕ) (b : Bool) → first_of id rows ≡ Some text → b ≡ bytes_eq text (codes "true") → Decides b (IsGiven id rows)
given_is rows id text b given says =
    let decides = bytes_decides text (codes "true") in (
      λ yes. given ∙ ap Some (decides.0 (sym says ∙ yes)),
      λ is. says ∙ decides.1 (let both : Some text ≡ Some (codes "true") = sym given ∙ is in cc),
    )

pub not_given : (rows : List Row) (id : List ℕ) → first_of id rows ≡ None → Decides false (IsGiven id rows)
not_given rows id none = (λ bad. absurd (let no : false ≡ true = bad in cc), λ is. absurd (let no : None ≡ Some (codes "true") = sym none ∙ is in cc))

-- ---- how many connections are served

-- a count and the flag
pub no_serving_both : (rows : List Row) (text : List ℕ) → first_of (codes "serve") rows ≡ Some text → IsGiven (codes "forever") rows → (serving : Serving)
    → ¬ IsServingIn rows serving
no_serving_both rows text given forever (Count n) is = is.1 forever
no_serving_both rows text given forever (Together n) is = is.1 forever
no_serving_both rows text given forever Forever is = let bad : None ≡ Some text = sym is.0 ∙ given in cc

-- neither
pub no_serving_none : (rows : List Row) → first_of (codes "serve") rows ≡ None → ¬ IsGiven (codes "forever") rows → (serving : Serving)
    → ¬ IsServingIn rows serving
no_serving_none rows none forever (Count n) is = let bad : None ≡ Some is.0.text = sym none ∙ is.0.given in cc
no_serving_none rows none forever (Together n) is = let bad : None ≡ Some is.0.text = sym none ∙ is.0.given in cc
no_serving_none rows none forever Forever is = forever is.1

-- a count that is no number
pub no_serving_number : (rows : List Row) (text : List ℕ) → first_of (codes "serve") rows ≡ Some text → ((n : ℕ) → ¬ IsNumber 32 text n) → (serving : Serving)
    → ¬ IsServingIn rows serving
no_serving_number rows text given none (Count n) is = number_none 32 rows (codes "serve") text given none n is.0
no_serving_number rows text given none (Together n) is = number_none 32 rows (codes "serve") text given none n is.0
no_serving_number rows text given none Forever is = let bad : None ≡ Some text = sym is.0 ∙ given in cc

-- ---- how much of a check is done

-- one text is one number
one_count : (rows : List Row) (n m : ℕ) → HasJobs rows n → HasJobs rows m → n ≡ m
one_count rows n m first second =
    let both : Some first.text ≡ Some second.text = sym first.given ∙ second.given in
    let same : first.text ≡ second.text = cc in
    first.number.number.value ∙ ap (digits_value 10) same ∙ sym second.number.number.value

no_jobs : (rows : List Row) (text : List ℕ) → first_of (codes "jobs") rows ≡ Some text → ((n : ℕ) → ¬ IsJobs text n) → (n : ℕ) → ¬ HasJobs rows n
no_jobs rows text given none n has =
    let both : Some has.text ≡ Some text = sym has.given ∙ given in
    let same : has.text ≡ text = cc in
    none n (subst (λ t. IsJobs t n) same has.number)

-- no number of processes
pub no_work_jobs : (rows : List Row) (text : List ℕ) → first_of (codes "jobs") rows ≡ Some text → ((n : ℕ) → ¬ IsJobs text n) → (work : Work)
    → ¬ IsWorkIn rows work
no_work_jobs rows text given none (Jobs n) is = no_jobs rows text given none n is.0
no_work_jobs rows text given none (Part part) is = no_jobs rows text given none 1 is.0

-- no word for it
pub no_work_missing : (rows : List Row) → ((text : List ℕ) → ¬ (first_of (codes "jobs") rows ≡ Some text)) → (work : Work) → ¬ IsWorkIn rows work
no_work_missing rows none (Jobs n) is = none is.0.text is.0.given
no_work_missing rows none (Part part) is = none is.0.text is.0.given

-- a word that names no part
pub no_work_part : (rows : List Row) (text : List ℕ) → first_of (codes "part") rows ≡ Some text → ((part : PartOf) → ¬ IsPartWord text part) → (work : Work)
    → ¬ IsWorkIn rows work
no_work_part rows text given none (Jobs n) is = let bad : None ≡ Some text = sym is.1 ∙ given in cc
no_work_part rows text given none (Part part) is =
    let both : Some is.1.text ≡ Some text = sym is.1.given ∙ given in
    let same : is.1.text ≡ text = cc in
    none part (subst (λ t. IsPartWord t part) same is.1.named)

-- a part, and several processes
pub no_work_both : (rows : List Row) (text : List ℕ) (count : ℕ) → first_of (codes "part") rows ≡ Some text → HasJobs rows count → ¬ (count ≡ 1) → (work : Work)
    → ¬ IsWorkIn rows work
no_work_both rows text count given has other (Jobs n) is = let bad : None ≡ Some text = sym is.1 ∙ given in cc
no_work_both rows text count given has other (Part part) is = other (one_count rows count 1 has is.0)

-- what a test says is so is not where the test says no
pub not_so : (b : Bool) (P : Type 0) → Decides b P → b ≡ false → ¬ P
not_so b P decides says p = let bad : true ≡ false = sym (decides.1 p) ∙ says in cc

-- two bools that tell the same are one
alike : (a b : Bool) (P : Type 0) → Decides a P → Decides b P → a ≡ b
alike true true P first second = refl
alike true false P first second = let bad : false ≡ true = second.1 (first.0 refl) in cc
alike false true P first second = let bad : false ≡ true = first.1 (second.0 refl) in cc
alike false false P first second = refl

-- ---- the file of a log

-- one is given, and files are only read
pub no_log_beside : (rows : List Row) (read_only : Bool) (text : List ℕ) → read_only ≡ true → first_of (codes "log") rows ≡ Some text
    → (log : Option (Bor (List ℕ))) → ¬ IsLogBeside read_only rows log
no_log_beside rows read_only text is given log beside =
    let none : option_map (λ (p : Bor (List ℕ)). p.now) log ≡ None = ap (option_map (λ p. p.now)) (beside.unwritten is) in
    let bad : None ≡ Some text = sym none ∙ beside.given ∙ given in cc

-- one is given, and files are written
pub log_beside : (rows : List Row) (read_only : Bool) (path : Bor (List ℕ)) → read_only ≡ false → first_of (codes "log") rows ≡ Some path.now
    → IsLogBeside read_only rows (Some path)
log_beside rows read_only path is given = record {
  given = sym given;
  unwritten = λ other. absurd (let bad : false ≡ true = sym is ∙ other in cc);
}

-- ---- tasks

-- texts of which a comparison says so differ
pub differ : (a b : Text) → bytes_eq a b ≡ false → ¬ (a ≡ b)
differ a b unequal same = let equal : bytes_eq a b ≡ true = (bytes_decides a b).1 same in cc

pub no_make : (rows : List Row) → ((request : MakeTask) → ¬ IsMakeTaskIn rows request) → (task : Task) → ¬ AsksFor (codes "make") rows task
no_make rows none (Make request) a = none request a.1
no_make rows none (Show task) a = differ (codes "make") (codes "show") refl a.0
no_make rows none (Check task) a = differ (codes "make") (codes "check") refl a.0
no_make rows none (Seed task) a = differ (codes "make") (codes "seed") refl a.0
no_make rows none (Fetch task) a = differ (codes "make") (codes "fetch") refl a.0
no_make rows none Replay a = differ (codes "make") (codes "replay") refl a

pub no_show : (rows : List Row) → ((task : ShowTask) → ¬ IsShowTaskIn rows task) → (task : Task) → ¬ AsksFor (codes "show") rows task
no_show rows none (Make request) a = differ (codes "show") (codes "make") refl a.0
no_show rows none (Show task) a = none task a.1
no_show rows none (Check task) a = differ (codes "show") (codes "check") refl a.0
no_show rows none (Seed task) a = differ (codes "show") (codes "seed") refl a.0
no_show rows none (Fetch task) a = differ (codes "show") (codes "fetch") refl a.0
no_show rows none Replay a = differ (codes "show") (codes "replay") refl a

pub no_check : (rows : List Row) → ((task : CheckTask) → ¬ IsCheckTaskIn rows task) → (task : Task) → ¬ AsksFor (codes "check") rows task
no_check rows none (Make request) a = differ (codes "check") (codes "make") refl a.0
no_check rows none (Show task) a = differ (codes "check") (codes "show") refl a.0
no_check rows none (Check task) a = none task a.1
no_check rows none (Seed task) a = differ (codes "check") (codes "seed") refl a.0
no_check rows none (Fetch task) a = differ (codes "check") (codes "fetch") refl a.0
no_check rows none Replay a = differ (codes "check") (codes "replay") refl a

pub no_seed : (rows : List Row) → ((task : SeedTask) → ¬ IsSeedTaskIn rows task) → (task : Task) → ¬ AsksFor (codes "seed") rows task
no_seed rows none (Make request) a = differ (codes "seed") (codes "make") refl a.0
no_seed rows none (Show task) a = differ (codes "seed") (codes "show") refl a.0
no_seed rows none (Check task) a = differ (codes "seed") (codes "check") refl a.0
no_seed rows none (Seed task) a = none task a.1
no_seed rows none (Fetch task) a = differ (codes "seed") (codes "fetch") refl a.0
no_seed rows none Replay a = differ (codes "seed") (codes "replay") refl a

-- and where a log is given, and files are only read
pub no_seed_log : (rows : List Row) (service : Service) → IsServiceIn rows service
    → ((log : Option (Bor (List ℕ))) → ¬ IsLogBeside service.is_read_only rows log) → (task : Task) → ¬ AsksFor (codes "seed") rows task
no_seed_log rows service is none = no_seed rows (λ task asked.
    let same = alike task.service.is_read_only service.is_read_only (IsGiven (codes "read-only") rows) asked.service.read_only is.read_only in
    none task.log (subst (λ b. IsLogBeside b rows task.log) same asked.log))

pub no_fetch : (rows : List Row) → ((task : FetchTask) → ¬ IsFetchTaskIn rows task) → (task : Task) → ¬ AsksFor (codes "fetch") rows task
no_fetch rows none (Make request) a = differ (codes "fetch") (codes "make") refl a.0
no_fetch rows none (Show task) a = differ (codes "fetch") (codes "show") refl a.0
no_fetch rows none (Check task) a = differ (codes "fetch") (codes "check") refl a.0
no_fetch rows none (Seed task) a = differ (codes "fetch") (codes "seed") refl a.0
no_fetch rows none (Fetch task) a = none task a.1
no_fetch rows none Replay a = differ (codes "fetch") (codes "replay") refl a

-- and where the words in the peers' place name none
pub no_fetch_peers : (rows : List Row) (words : List Text) → all_of (codes "PEER") rows ≡ Some words → ((peers : List Peer) → ¬ AllZip IsPeerWord words peers)
    → (task : Task) → ¬ AsksFor (codes "fetch") rows task
no_fetch_peers rows words given none = no_fetch rows (λ task is.
    let both : Some is.words ≡ Some words = sym is.given ∙ given in
    let same : is.words ≡ words = cc in
    none task.peers.items (subst (λ ws. AllZip IsPeerWord ws task.peers.items) same is.peers))

-- ---- the words

pub words_simple : is_simple program_app ≡ true
unfolding clap_on_literals program_app transfer_app file_app top_app make_app show_app check_app seed_app fetch_app replay_app
words_simple = refl

pub words_free : is_simple_and_free program_app ≡ true
unfolding clap_on_literals program_app transfer_app file_app top_app make_app show_app check_app seed_app fetch_app replay_app
words_free = refl

pub asked : (words : List Text) (m : ArgMatches) (task : Task) → AreWordsOf words m → IsTaskIn (subcommand_rows_of m) task → IsTaskOf words task
asked words m task are t = record { faultless = are.faultless; asked = subst (λ o. IsTaskIn o task) are.met t }

pub not_asked : (words : List Text) (m : ArgMatches) → AreWordsOf words m → ((task : Task) → ¬ IsTaskIn (subcommand_rows_of m) task)
    → (task : Task) → ¬ IsTaskOf words task
not_asked words m are none task a = none task (subst (λ o. IsTaskIn o task) (sym are.met) a.asked)

-- what clap says of words that it has read by the program's commands
pub words_met : (r : Result ArgMatches Error) (app : App) (words : List Text) → app ≡ program_app
    → (is_simple_and_free app ≡ true → FailsBy (fault_of app words) r) → IfOk r (HasMatchesOf app words) → IfOk r (AreWordsOf words)
words_met (Ok m) app words is kinds has = record {
  faultless = ap (λ a. fault_of a words) (sym is) ∙ kinds (ap is_simple_and_free is ∙ words_free);
  met = (has (ap is_simple is ∙ words_simple)).1 ∙ ap (λ a. subcommand_of a words) is;
}
words_met (Err e) app words is kinds has = tt

-- the kinds that the words' fault can have
kind_of_fault : (app : App) (words : List Text) (e : Error) → app ≡ program_app → HasKind (fault_of app words) e → IsNoTaskOf words (kind_of e)
kind_of_fault app words e is (inl memory) = inl memory
kind_of_fault app words e is (inr among) = inr (inl (subst (λ a. IsAmong (kind_of e) (fault_of a words)) is among))

pub words_faulty : (r : Result ArgMatches Error) (app : App) (words : List Text) → app ≡ program_app
    → (is_simple_and_free app ≡ true → FailsBy (fault_of app words) r) → IfErr r (λ error. IsNoTaskOf words (kind_of error))
words_faulty (Ok m) app words is kinds = tt
words_faulty (Err e) app words is kinds = kind_of_fault app words e is (kinds (ap is_simple_and_free is ∙ words_free))

pub faulty : {T : Type 0} (r : Result T Error) (words : List Text) (e : Error) → IsNoTaskOf words (kind_of e) → IsErrAnd r (λ found. found ≡ e)
    → IfErr r (λ found. IsNoTaskOf words (kind_of found))
faulty (Ok x) words e is same = absurd same
faulty (Err found) words e is same = rw same is

-- the kind of the error that tells of a refusal
pub told : (words : List Text) (e : Refusal) (k : ErrorKind) → TellsOf e k → IsRefusalFor ((task : Task) → ¬ IsTaskOf words task) e → IsNoTaskOf words k
told words refusal.OutOfMemory k tells none = inl tells
told words (refusal.Value wanted) k (inl memory) none = inl memory
told words (refusal.Value wanted) k (inr value) none = inr (inr (value, none))
