use Rattle.bt_resume.specs.OneSpelling.{same_hint}
use Rattle.bt_resume.proofs.Sequences.{are_read_back, has_one_reading, are_read_first, hints_come_first}
use Rattle.bt_resume.proofs.law.hints_are_read_back.Goals as goal

pub returns : goal.returns
returns c = record {
  one = same_hint;
  back = are_read_back;
  reading = has_one_reading;
  first = are_read_first;
  come_first = hints_come_first;
}
