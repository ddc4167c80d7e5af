use Rattle.std.proofs.Common.{arith, refl}
use Rattle.std.proofs.lemmas.Grind.{common_steps}
use Rattle.bt_wire.proofs.Takings.{takes_front, awaits_memory, front_of}
use Rattle.bt_wire.proofs.cutter.Cutter.next.Goals as goal

pub returns-in-Ok-Some-clause-answer : goal.returns-in-Ok-Some-clause-answer
returns-in-Ok-Some-clause-answer c =
    let a = c.self.inside in
    let first = rw c.in-Ok-Some.field-0-is at c.in-Ok-Some.ensures in
    let begins = rw c.deref.ensures.value at first.event in
    rw (← c.self.view_is)
    (takes_front a.bytes.items _ a.start c.in-Ok-Some.len a.greeted a.failed c.in-Ok-Some.event c.if-self.false
    c.start_of_rest-self-inside.ensures.same begins)

pub returns-in-Err-OutOfMemory-clause-refused : goal.returns-in-Err-OutOfMemory-clause-refused
returns-in-Err-OutOfMemory-clause-refused c =
    let a = c.self.inside in
    let front = front_of a.greeted _ _ c.in-Err-OutOfMemory.field-0-is c.in-Err-OutOfMemory.ensures.refused in
    rw (← c.self.view_is) (awaits_memory a.bytes.items a.start a.greeted a.failed c.if-self.false (rw c.deref.ensures.value at front), refl)

pub returns-in-Ok-None-clause-answer : goal.returns-in-Ok-None-clause-answer
returns-in-Ok-None-clause-answer c = grind (arith, common_steps)

pub returns-in-Err : goal.returns-in-Err
returns-in-Err c = grind (arith, common_steps)
