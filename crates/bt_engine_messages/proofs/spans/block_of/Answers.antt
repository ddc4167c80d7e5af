use Rattle.std.proofs.Common.{ℕ, subst}
use Rattle.std.specs.Prelude.{IfNone}
use Rattle.bt_book.specs.declared.names.BlockId.{BlockId}
use Rattle.bt_machine.specs.Spans.{IsRangeOf}
use Rattle.bt_engine_messages.proofs.spans.block_of.Goals as goal

pub returns-clause-none : goal.returns-clause-none
returns-clause-none c =
    subst (λ (n : ℕ). IfNone c.block_in.result ((b : BlockId) → ¬ IsRangeOf c.args.torrent.now c.args.piece c.args.begin n b)) c.in-Ok.ensures.1 c.block_in.ensures.none
