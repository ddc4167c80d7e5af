use Rattle.std.proofs.Common.{◌≡◌, ◌≤◌, ◌-◌, List, ℕ, drop, take, take_all, length, length-drop, ap, ◌∙◌, subst, arith}
use Rattle.std.specs.Io.KnownBytes.{Appends}
use Rattle.bt_connection.proofs.Waits.{drained_by}
use Rattle.bt_connection.proofs.queue.Queue.drain.Goals as goal

pub returns-in-Ok-clause-drained : goal.returns-in-Ok-clause-drained
returns-in-Ok-clause-drained g c =
    let all = c.deref.result.now in
    let start = c.self.inside.start in
    let short : length (drop start all) ≤ length all - start = omega (arith, length-drop start all) in
    let whole : take (length all - start) (drop start all) ≡ drop start c.self.inside.bytes.items = take_all (length all - start) (drop start all) short ∙ ap (drop start) c.deref.ensures.value in
    drained_by g.W.Write.contents c.args.self.now c.self.inside.inner c.write.new.self c.self.inside.bytes.items start c.in-Ok.count c.self.view_is
    (subst (λ (l : List ℕ). Appends (g.W.Write.contents c.self.inside.inner) (g.W.Write.contents c.write.new.self) (take c.in-Ok.count l)) whole c.in-Ok.ensures.bytes)
