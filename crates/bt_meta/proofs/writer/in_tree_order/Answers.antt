use Rattle.bt_meta.proofs.Base.{rules, ◌≡◌, Bool, Bor, Made, is_lt, nat_list_cmp_total, always_returns_same, given_at}
use Rattle.std.specs.Cmp.Lexicographic.{lists_total}
use Rattle.std.proofs.lemmas.List.MinMax.{ranks_by}
use Rattle.std.proofs.lemmas.List.Sorted.{IsPermutation-map}
use Rattle.bt_meta.specs.GivenFiles.{is_before}
use Rattle.bt_meta.proofs.MakeFiles.{sorted_map}
use Rattle.bt_meta.proofs.writer.in_tree_order.Goals as goal

-- a test of two references, by the paths behind them
abbrev lent_before : Bor Made → Bor Made → Bool
lent_before m n = is_before (given_at m) (given_at n)

pub returns : goal.returns
returns c = record {
  same = rw (← c.in_ok-ordered.ensures) (IsPermutation-map given_at _ _ c.in_ok-sort_by.ensures.permutation);
  ascending = sorted_map given_at is_before _ (c.in_ok-sort_by.ensures.sorted lent_before
      (ranks_by (lists_total nat_list_cmp_total) (λ (m : Bor Made). (given_at m).path))
      (always_returns_same _ (λ a r. is_lt r ≡ lent_before a.0.now a.1.0.now) _ (λ a r q k. search rules)));
}
