use Rattle.std.proofs.Common.{List, sym, subst}
use Rattle.std.proofs.lemmas.List.Elements.{All-nil, All-same}
use Rattle.bt_engine_after.specs.declared.waiting.FileRuns.{FileRuns}
use Rattle.bt_engine_after.specs.MarksSteps.{AreRuns}
use Rattle.bt_engine_after.specs.WaitingSteps.{AreListed}
use Rattle.bt_engine_after.proofs.waiting.list_waiting.Goals as goal

pub returns-then-is_none-clause-runs : goal.returns-then-is_none-clause-runs
returns-then-is_none-clause-runs g c =
    subst (λ (listed : List FileRuns). AreListed listed) (sym c.new.ensures.items) (All-nil (λ (one : FileRuns). AreRuns one.runs.items))

pub most_hints_of_all-requires-clause-runs : goal.most_hints_of_all-requires-clause-runs
most_hints_of_all-requires-clause-runs g c =
    All-same (λ (one : FileRuns). AreRuns one.runs.items) c.deref-2.result.now c.in_ok-listed.listed.items c.deref-2.ensures.value c.in_ok-listed.ensures.runs
