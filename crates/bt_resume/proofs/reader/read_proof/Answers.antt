use Rattle.std.proofs.Common.{◌≡◌, ◌*◌, ◌∙◌, ap, refl, take, drop, arith}
use Rattle.bt_resume.specs.Hint.{joined}
use Rattle.bt_resume.proofs.Spellings.{no_proof, found_proof}
use Rattle.bt_resume.proofs.Keepings.{if_none}
use Rattle.bt_resume.proofs.reader.read_proof.Goals as goal

pub returns-in_err-count-clause-none : goal.returns-in_err-count-clause-none
returns-in_err-count-clause-none c =
    if_none c.from_residual.result
    (no_proof c.args.format c.args.bytes.now c.whole_key-key.result c.requires c.whole_key-key.ensures.numbers c.whole_key-key.ensures.spelled
    (λ shape. let e = c.in_err-count.ensures.some.1 shape in cc))

pub returns-then-bytes-len-clause-none : goal.returns-then-bytes-len-clause-none
returns-then-bytes-len-clause-none c =
    no_proof c.args.format c.args.bytes.now c.whole_key-key.result c.requires c.whole_key-key.ensures.numbers c.whole_key-key.ensures.spelled
    (λ shape. omega (arith, c.if-bytes-len.true, c.in_ok-count.ensures.count))

pub returns-clause-found : goal.returns-clause-found
returns-clause-found c =
    let n = c.in_ok-count.count in
    let part : joined c.whole_digests-digests.result.now ≡ take (32 * n) (drop 49 c.args.bytes.now) =
    c.whole_digests-digests.ensures.joined ∙ ap (λ m. take m (drop 49 c.args.bytes.now)) (omega arith) in
    found_proof c.args.format c.args.bytes.now c.whole_key-key.result c.whole_digests-digests.result.now n c.requires c.whole_key-key.ensures.numbers
    (c.in_ok-count.ensures.some.0 refl) c.whole_key-key.ensures.spelled c.in_ok-count.ensures.count part c.whole_digests-digests.ensures.whole (omega (arith, c.if-bytes-len.false))
