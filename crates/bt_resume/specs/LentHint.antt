-- What is lent of a log.
use Rattle.bt_resume.specs.declared.hint.Hint.{Hint}
use Rattle.bt_resume.specs.declared.hint.Hint.TheVariants.{Proof, Marks}
use Rattle.bt_resume.specs.declared.hint.LentHint.{LentHint}
use Rattle.bt_resume.specs.declared.hint.LentHint.TheVariants.{Proof as LentProof, Marks as LentMarks}

-- the hint that is lent
abbrev pub hint_of : LentHint → Hint
hint_of (LentProof key digests) = Proof key digests.now
hint_of (LentMarks file first count) = Marks file first count
