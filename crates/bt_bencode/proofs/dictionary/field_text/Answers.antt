use Rattle.bt_bencode.proofs.Base.{◌≡◌, ◌∙◌, ap, Some, true, false}
use Rattle.std.proofs.Common.{nat_eq}
use Rattle.std.specs.Cmp.Lexicographic.{pointwise}
use Rattle.bt_bencode.proofs.SpellingEnds.{entry_at, value_text, rest_text, value_here, value_later}
use Rattle.bt_bencode.proofs.dictionary.field_text.Goals as goal

pub returns-then-eq : goal.returns-then-eq
returns-then-eq c =
    let es = c.deref-name-items.result.now in
    let e = c.loop-name-item.result in
    let at = entry_at es c.loop-name.name-index e c.args.text.now c.loop-name.at c.loop-name-test.true c.loop-name-item.is c.loop-name.invariant.left in
    let same : pointwise nat_eq e.0.items c.args.key.now ≡ true = cc in
    let here = value_here es c.loop-name.name-index e c.args.key.now c.loop-name-test.true c.loop-name-item.is same in
    rw (c.value_end-end.ensures, c.string_end-start.ensures, c.deref.ensures.value, c.loop-name.invariant.found, here) (ap Some (value_text at))

pub loop-name-preserved : goal.loop-name-preserved
loop-name-preserved c =
    let es = c.deref-name-items.result.now in
    let e = c.loop-name-item.result in
    let at = entry_at es c.loop-name.name-index e c.args.text.now c.loop-name.at c.loop-name-test.true c.loop-name-item.is c.loop-name.invariant.left in
    let other : pointwise nat_eq e.0.items c.args.key.now ≡ false = cc in
    record {
      left = rw (c.value_end-end.ensures, c.string_end-start.ensures, c.deref.ensures.value) (rest_text at);
      found = c.loop-name.invariant.found ∙ value_later es c.loop-name.name-index e c.args.key.now c.loop-name-test.true c.loop-name-item.is other;
    }
