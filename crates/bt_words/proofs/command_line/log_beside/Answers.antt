use Rattle.std.proofs.Common.{List, ℕ, ap, refl, sym, ◌∙◌}
use Rattle.std.specs.Borrow.{Bor}
use Rattle.std.specs.Prelude.{option_map}
use Rattle.clap.specs.Words.{found_of, rows_of}
use Rattle.bt_words.proofs.CommandLineTask.{log_beside, no_log_beside}
use Rattle.bt_words.proofs.command_line.log_beside.Goals as goal

pub returns-then-is_read_only-clause-refused : goal.returns-then-is_read_only-clause-refused
returns-then-is_read_only-clause-refused c =
    no_log_beside (rows_of (found_of c.args.matches.now)) c.args.is_read_only c.in-Some.path.now c.if-is_read_only.true
    (sym c.log_in.ensures ∙ ap (option_map (λ (p : Bor (List ℕ)). p.now)) c.in-Some.is)

pub returns-else-is_read_only-clause-log : goal.returns-else-is_read_only-clause-log
returns-else-is_read_only-clause-log c =
    log_beside (rows_of (found_of c.args.matches.now)) c.args.is_read_only c.in-Some.path c.if-is_read_only.false
    (sym c.log_in.ensures ∙ ap (option_map (λ (p : Bor (List ℕ)). p.now)) c.in-Some.is)

pub returns-in-None-clause-log : goal.returns-in-None-clause-log
returns-in-None-clause-log c = record {
  given = ap (option_map (λ (p : Bor (List ℕ)). p.now)) (sym c.in-None.is) ∙ c.log_in.ensures;
  unwritten = λ other. refl;
}
