use Rattle.std.proofs.Common.{◌<◌, ◌≤◌}
use Rattle.bt_parts.specs.declared.cut.Part.{Part}
use Rattle.bt_parts.specs.declared.cut.TheConstants.{MAX_PARTS}
use Rattle.bt_words.specs.Values.{IsPartWord}
use Rattle.bt_words.proofs.PeerWords.{none_always}
use Rattle.bt_words.proofs.PartWords.{cut_at, none_then, uncut, no_count, no_index, no_part, no_slash}
use Rattle.bt_words.proofs.values.part_in.Goals as goal

pub returns-in_err-first-clause-none : goal.returns-in_err-first-clause-none
returns-in_err-first-clause-none c =
    none_always _ ((part : Part) → ¬ IsPartWord c.args.word.now part) (no_slash c.args.word.now (uncut c.args.word.now c.in_err-first.ensures.cases))

pub returns-in_err-index-clause-none : goal.returns-in_err-index-clause-none
returns-in_err-index-clause-none c =
    let split = c.in_ok-first.ensures.cases in
    let cut = cut_at c.args.word.now c.in_ok-first.first.now c.in_ok-first.second.now split.0 split.1 split.2.0 split.2.1 split.3 split.4 in
    none_always _ ((part : Part) → ¬ IsPartWord c.args.word.now part)
    (no_index c.args.word.now c.in_ok-first.first.now c.in_ok-first.second.now cut.0 cut.1 c.in_err-index.ensures.none)

pub returns-in_err-count-clause-none : goal.returns-in_err-count-clause-none
returns-in_err-count-clause-none c =
    let split = c.in_ok-first.ensures.cases in
    let cut = cut_at c.args.word.now c.in_ok-first.first.now c.in_ok-first.second.now split.0 split.1 split.2.0 split.2.1 split.3 split.4 in
    none_always _ ((part : Part) → ¬ IsPartWord c.args.word.now part)
    (no_count c.args.word.now c.in_ok-first.first.now c.in_ok-first.second.now cut.0 cut.1 c.in_err-count.ensures.none)

pub returns-clause-none : goal.returns-clause-none
returns-clause-none c =
    let word = c.args.word.now in
    let first = c.in_ok-first.first.now in
    let second = c.in_ok-first.second.now in
    let index = c.in_ok-index.index in
    let count = c.in_ok-count.count in
    let split = c.in_ok-first.ensures.cases in
    let cut = cut_at word first second split.0 split.1 split.2.0 split.2.1 split.3 split.4 in
    none_then c.new.result (index < count → ¬ (count ≤ MAX_PARTS)) ((part : Part) → ¬ IsPartWord word part)
    (no_part word first second cut.0 cut.1 index count c.in_ok-index.ensures.some c.in_ok-count.ensures.some) c.new.ensures.none
