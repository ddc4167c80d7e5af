use Rattle.std.proofs.Common.{rules}
use Rattle.bt_engine_start.proofs.Joins.{runs_of, runs_then, in_order}
use Rattle.bt_engine_start.proofs.runs.recorded_runs.Goals as goal

pub returns : goal.returns
returns c =
    runs_then c.in_ok-runs.ensures
    (runs_of _ (λ f next run b f' next' run' told. search rules) _ (λ run next e. in_order run next e) c.sort_unstable.ensures.permutation
    c.sort_unstable.ensures.sorted c.dedup_by.ensures.filtered)
