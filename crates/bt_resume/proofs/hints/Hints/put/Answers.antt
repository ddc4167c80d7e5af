use Rattle.std.proofs.Common.{sym, subst, arith}
use Rattle.bt_resume.specs.LogText.{format_of, joined_text}
use Rattle.bt_resume.specs.OneSpelling.{AreSpelled}
use Rattle.bt_resume.proofs.Keepings.{few_hints, spelled_more, told_kept, put_gives, put_told}
use Rattle.bt_resume.proofs.hints.Hints.put.Goals as goal

pub invariant_of-self : goal.invariant_of-self
invariant_of-self c =
    told_kept c.self.inside.begun c.self.inside.format _ _ c.self.inside.spelled c.in_err-add_bytes.self-1-own.given.0 c.self.inside.count c.in_err-add_bytes.ensures.same c.self.invariant

pub overflow_add-self : goal.overflow_add-self
overflow_add-self c =
    let v = c.self.inside.bytes in
    let kept = few_hints c.self.inside.begun v.items c.self.inside.spelled.0 c.self.inside.spelled.1 in
    let more = few_hints _ c.args.bytes.now c.requires.0 c.requires.1.spelled in
    omega (arith, kept, more, c.self.invariant.0, c.requires.1.count_is, v.ok.0, v.ok.1, v.small)

pub invariant_of-self-inside-2 : goal.invariant_of-self-inside-2
invariant_of-self-inside-2 c =
    let old = c.self.inside in
    let more = subst (λ t. AreSpelled (format_of t) c.args.bytes.now c.requires.0) (sym c.self.view_is) c.requires.1.spelled in
    ((joined_text old.spelled.0 c.requires.0, spelled_more old.begun _ _ _ old.spelled.0 c.requires.0 old.spelled.1 more c.in_ok-add_bytes.ensures.added), tt)

pub invariant_of-self-2 : goal.invariant_of-self-2
invariant_of-self-2 c =
    put_told c.self.inside.begun c.args.format _ _ _ c.self.inside.spelled c.self-2-1.given.0 c.args.self.now c.requires.0 c.self.inside.count c.args.count
    c.self.view_is c.self.invariant.0 c.requires.1 c.in_ok-add_bytes.ensures.added

pub returns : goal.returns
returns c = (
  c.requires.0,
  c.requires.1.spelled,
  put_gives c.self.inside.begun _ _ _ c.self.inside.spelled c.self-2-1.given.0 c.args.self.now c.requires.0 c.self.view_is c.requires.1.spelled c.in_ok-add_bytes.ensures.added,
)
