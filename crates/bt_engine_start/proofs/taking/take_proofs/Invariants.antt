use Rattle.std.proofs.Common.{◌≡◌, map}
use Rattle.bt_resume.specs.LogText.{hints_in}
use Rattle.bt_engine_start.proofs.Takings.{HaveTaken}
use Rattle.bt_engine_start.proofs.taking.take_proofs.Given as goal

abbrev pub invariant-loop-hint : goal.invariant-loop-hint
invariant-loop-hint g l = record {
  can : (goal.iterator-loop-hint g).can_next l.hint-iterator;
  finite : (goal.iterator-loop-hint g).is_finite l.hint-iterator;
  roots : map (λ k. k.root) l.trees ≡ map (λ k. k.root) l.fn.trees;
  lengths : map (λ k. k.file_length) l.trees ≡ map (λ k. k.file_length) l.fn.trees;
  taken : HaveTaken g.H.NodeHash.digest (hints_in l.hints) l.hint-iterator l.fn.trees l.trees;
}
