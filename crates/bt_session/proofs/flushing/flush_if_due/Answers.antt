use Rattle.std.proofs.Common.{sym, ◌∙◌}
use Rattle.bt_session.proofs.Pauses.{flushed, not_flushed}
use Rattle.bt_session.proofs.flushing.flush_if_due.Goals as goal

pub returns-then-is_flush_due-clause-pause : goal.returns-then-is_flush_due-clause-pause
returns-then-is_flush_due-clause-pause g c =
    flushed g.D.Disk.conduct g.H.NodeHash.digest _ _ c.args.partner.flushing c.args.taken _ _ _
    (sym c.is_flush_due.ensures ∙ c.if-is_flush_due.true) c.flush.ensures.step

pub returns-else-is_flush_due-clause-pause : goal.returns-else-is_flush_due-clause-pause
returns-else-is_flush_due-clause-pause g c =
    not_flushed g.D.Disk.conduct g.H.NodeHash.digest _ _ c.args.partner.flushing c.args.taken _
    (sym c.is_flush_due.ensures ∙ c.if-is_flush_due.false)
