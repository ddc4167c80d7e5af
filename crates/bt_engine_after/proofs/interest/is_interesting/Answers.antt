use Rattle.std.proofs.Common.{sym, subst}
use Rattle.bt_engine_after.specs.HeldSteps.{IsNextHeld}
use Rattle.bt_engine_after.proofs.Interests.{interest_is}
use Rattle.bt_engine_after.proofs.interest.is_interesting.Goals as goal

pub returns : goal.returns
returns g c = λ p same.
    interest_is c.args.parts.now p c.requires.tied c.requires.shaped (λ b r inside h. subst (λ has. IsNextHeld c.args.parts.now.torrent has b r) (sym same) h.1) c.wants.result c.wants.ensures.yes c.wants.ensures.no
