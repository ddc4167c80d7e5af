use Rattle.bt_meta.proofs.Base.{◌≡◌, ℕ, List, All, drop, file_refusal, first_of, given_of, HasRoot, Made, map, take, with_earlier}
use Rattle.bt_meta.specs.WriterRefusals.{Check}
use Rattle.bt_meta.specs.WriterSteps.{IsTallyOf, IsWithinLimits}
use Rattle.bt_meta.proofs.writer.check_files.Given as goal

-- what the checks of the files after the first i answer
abbrev pub refusal_from : ℕ → List Made → ℕ → Check
refusal_from piece_length files i = first_of (with_earlier (file_refusal piece_length) (map given_of (take i files)) (map given_of (drop i files)))

abbrev pub invariant-loop-file : goal.invariant-loop-file
invariant-loop-file l = record {
  within : IsWithinLimits l.tally;
  taken : IsTallyOf l.piece_length (map given_of (take l.file-index l.files)) l.tally;
  faultless : refusal_from l.piece_length l.files 0 ≡ refusal_from l.piece_length l.files l.file-index;
  rooted : All HasRoot (map given_of (take l.file-index l.files));
}
