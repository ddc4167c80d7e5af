use Rattle.std.proofs.Common.{rules, sym, subst}
use Rattle.bt_replay.specs.Field.{fields_in}
use Rattle.bt_replay.specs.Line.{Makes}
use Rattle.bt_replay.specs.declared.line.Line.{Line}
use Rattle.bt_replay.proofs.Fields.{none_always}
use Rattle.bt_replay.proofs.line.short_line.Goals as goal

pub returns-in_err-peer_in-in-Hello-clause-none : goal.returns-in_err-peer_in-in-Hello-clause-none
returns-in_err-peer_in-in-Hello-clause-none c =
    none_always c.from_residual.result (subst (λ w. (line : Line) → ¬ Makes w (fields_in c.args.rest) line) (sym c.in-Hello.is)
    (λ line m. c.in_err-peer_in-in-Hello.ensures.none m.0 m.1))

pub returns-in_err-peer_in-in-Next-clause-none : goal.returns-in_err-peer_in-in-Next-clause-none
returns-in_err-peer_in-in-Next-clause-none c =
    none_always c.from_residual-in_err-peer_in-in-Next.result
    (subst (λ w. (line : Line) → ¬ Makes w (fields_in c.args.rest) line) (sym c.in-Next.is)
    (λ line m. c.in_err-peer_in-in-Next.ensures.none m.0 m.1))

pub returns-in_err-peer_in-in-Lost-clause-none : goal.returns-in_err-peer_in-in-Lost-clause-none
returns-in_err-peer_in-in-Lost-clause-none c =
    none_always c.from_residual-in_err-peer_in-in-Lost.result
    (subst (λ w. (line : Line) → ¬ Makes w (fields_in c.args.rest) line) (sym c.in-Lost.is)
    (λ line m. c.in_err-peer_in-in-Lost.ensures.none m.0 m.1))

pub returns-in_err-file_in-in-Adopt-clause-none : goal.returns-in_err-file_in-in-Adopt-clause-none
returns-in_err-file_in-in-Adopt-clause-none c =
    none_always c.from_residual-in_err-file_in-in-Adopt.result
    (subst (λ w. (line : Line) → ¬ Makes w (fields_in c.args.rest) line) (sym c.in-Adopt.is)
    (λ line m. c.in_err-file_in-in-Adopt.ensures.none m.0 m.1))

pub returns-in_err-file-in-Fault-clause-none : goal.returns-in_err-file-in-Fault-clause-none
returns-in_err-file-in-Fault-clause-none c =
    none_always c.from_residual-in_err-file-in-Fault.result
    (subst (λ w. (line : Line) → ¬ Makes w (fields_in c.args.rest) line) (sym c.in-Fault.is)
    (λ line m. c.in_err-file-in-Fault.ensures.none m.0 m.1 m.2))

pub returns-in_err-file-in-Flip-clause-none : goal.returns-in_err-file-in-Flip-clause-none
returns-in_err-file-in-Flip-clause-none c =
    none_always c.from_residual-in_err-file-in-Flip.result
    (subst (λ w. (line : Line) → ¬ Makes w (fields_in c.args.rest) line) (sym c.in-Flip.is)
    (λ line m. c.in_err-file-in-Flip.ensures.none m.0 m.1 m.2 m.3))

pub returns-in_ok-peer_in-in-Lost-clause-some : goal.returns-in_ok-peer_in-in-Lost-clause-some
returns-in_ok-peer_in-in-Lost-clause-some c = search rules
