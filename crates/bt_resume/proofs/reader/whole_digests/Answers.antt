use Rattle.std.proofs.Common.{◌≡◌, ◌*◌, ◌/◌, ℕ, List, length, ap, sym, subst, ◌∙◌, All, arith}
use Rattle.bt_resume.specs.Hint.{joined}
use Rattle.bt_resume.proofs.Spellings.{joined_chunks, whole_chunks}
use Rattle.bt_resume.proofs.reader.whole_digests.Goals as goal

pub returns-clause-joined : goal.returns-clause-joined
returns-clause-joined c =
    let bytes : List ℕ = c.args.bytes.now in
    let count : ℕ = length bytes / 32 in
    let size : length bytes ≡ 32 * count = omega (arith, c.requires) in
    ap joined c.as_chunks.ensures.front ∙ joined_chunks count bytes size

pub returns-clause-whole : goal.returns-clause-whole
returns-clause-whole c =
    let bytes : List ℕ = c.args.bytes.now in
    let count : ℕ = length bytes / 32 in
    let size : length bytes ≡ 32 * count = omega (arith, c.requires) in
    subst (All (λ (digest : List ℕ). length digest ≡ 32)) (sym c.as_chunks.ensures.front) (whole_chunks count bytes size)
