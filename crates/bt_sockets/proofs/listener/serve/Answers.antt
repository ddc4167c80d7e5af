use Rattle.std.proofs.Common.{◌≡◌, Option, Result, Ok, Err, IfOk, IfSome, refl, sym, subst}
use Rattle.std.specs.Result.{result_ok}
use Rattle.bt_sockets.specs.Stream.{AreNewWays, AreNew}
use Rattle.bt_engine.specs.Leads.{none}
use Rattle.bt_sockets.proofs.listener.serve.Goals as goal

-- what holds of the value, at something, holds of the one that is there
there : {A S E : Type 0} (Q : S → A → Type 0) (P : A → Type 0) (s : S) (r : Result A E) (o : Option A)
    → ((a : A) → Q s a → P a) → o ≡ result_ok r → IfOk r (Q s) → IfSome o P
there Q P s (Ok a) o weaker same holds = subst (λ x. IfSome x P) (sym same) (weaker a holds)
there Q P s (Err e) o weaker same holds = subst (λ x. IfSome x P) (sym same) tt

pub returns-in-Ok-clause-served : goal.returns-in-Ok-clause-served
returns-in-Ok-clause-served g c =
    let short = c.args.passage.short_blocks.now in
    record {
      reached = c.ok-reached.result;
      given = there (λ s ways. AreNewWays short s ways.0 ways.1) (λ ways. AreNew short ways.0 ways.1) c.in-Ok.stream
          c.both_ways.result c.ok-reached.result (λ ways new. (c.in-Ok.stream, new)) c.ok-reached.ensures.value c.both_ways.ensures;
      ended = rw (c.meet_peer-end.ensures.unflushed refl) at c.meet_peer-end.ensures.ended;
    }

pub returns-in-Err-clause-run : goal.returns-in-Err-clause-run
returns-in-Err-clause-run g c = none c.args.engine.now
