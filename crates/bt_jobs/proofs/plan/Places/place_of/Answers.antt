use Rattle.std.proofs.Common.{◌+◌, ap, sym, ◌∙◌, arith}
use Rattle.std.specs.BTreeMap.{get}
use Rattle.bt_meta.specs.Files.{file_of}
use Rattle.bt_check.specs.TreeSteps.{key_cmp}
use Rattle.bt_jobs.specs.declared.plan.Places.{Places}
use Rattle.bt_jobs.proofs.Plans.{place_here, place_known, place_made}
use Rattle.bt_jobs.proofs.plan.Places.place_of.Goals as goal

pub returns-in-Some-clause-known : goal.returns-in-Some-clause-known
returns-in-Some-clause-known c = ap (λ q. get key_cmp c.args.self.now.known q) (sym c.key_of.ensures) ∙ sym c.in-Some.ensures.value

pub returns-in-Some-clause-placed : goal.returns-in-Some-clause-placed
returns-in-Some-clause-placed c = place_known c.args.self.now (file_of c.args.file.now) c.in-Some.place.now (returns-in-Some-clause-known c)

pub returns-clause-known : goal.returns-clause-known
returns-clause-known c =
    let new : Places = record { known = c.insert.new.self; total = c.args.self.now.total + c.max.result } in
    place_here c.args.self.now new (file_of c.args.file.now) c.key_of-2.result c.key_of-2.ensures
    (ap (λ q. get key_cmp c.args.self.now.known q) (c.key_of-2.ensures ∙ sym c.key_of.ensures) ∙ sym c.in_default.ensures.value)
    c.in_ok-insert.ensures.updates.0 (omega arith)

pub returns-clause-placed : goal.returns-clause-placed
returns-clause-placed c =
    let new : Places = record { known = c.insert.new.self; total = c.args.self.now.total + c.max.result } in
    place_made c.args.self.now new (file_of c.args.file.now) c.key_of-2.result c.key_of-2.ensures
    (ap (λ q. get key_cmp c.args.self.now.known q) (c.key_of-2.ensures ∙ sym c.key_of.ensures) ∙ sym c.in_default.ensures.value)
    c.in_ok-insert.ensures.updates.0 (omega arith)
