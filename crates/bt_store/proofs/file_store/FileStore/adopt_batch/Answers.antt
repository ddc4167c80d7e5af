use Rattle.std.proofs.Common.{arith, sym, ap, subst}
use Rattle.bt_tree.specs.Blocks.{block_count}
use Rattle.std.proofs.lemmas.Result.{IfOk-weaker, IfErr-weaker}
use Rattle.bt_store.specs.SmallGroupsSteps.{ReadSomehow}
use Rattle.bt_store.proofs.SmallGroups.{batch_adopted, batch_stopped}
use Rattle.bt_store.proofs.file_store.FileStore.adopt_batch.Goals as goal

pub adopt_found-requires-clause-read : goal.adopt_found-requires-clause-read
adopt_found-requires-clause-read g c =
    let read = c.find_batch-blocks_found.ensures.read in
    subst (λ n. ReadSomehow g.H.NodeHash.digest n c.args.from c.find_batch-blocks_found.result c.args.batch.count) (sym (ap (λ s. s.file_length) c.find_batch-blocks_found.ensures.others))
    (read.counts, read.buffer, read.are)

pub returns-clause-ok : goal.returns-clause-ok
returns-clause-ok g c =
    let d = g.D.Disk in
    IfOk-weaker c.adopt_found.result _ _ (λ adopted adopts. (
      _,
      batch_adopted d.conduct g.H.NodeHash.digest c.args.tree.now c.adopt_found.new.tree c.args.from c.args.batch.count c.args.self.now
          c.find_batch-blocks_found.new.self c.adopt_found.new.self c.find_batch-blocks_found.result c.find_batch-blocks_found.ensures.read c.find_batch-blocks_found.ensures.others
          c.adopt_found.ensures.others adopted adopts,
    )) c.adopt_found.ensures.ok

pub returns-clause-stop : goal.returns-clause-stop
returns-clause-stop g c =
    let d = g.D.Disk in
    IfErr-weaker c.adopt_found.result _ _ (λ _ stops. (
      _,
      batch_stopped d.conduct g.H.NodeHash.digest c.args.tree.now c.adopt_found.new.tree c.args.from c.args.batch.count c.args.self.now
          c.find_batch-blocks_found.new.self c.adopt_found.new.self c.find_batch-blocks_found.result c.find_batch-blocks_found.ensures.read c.find_batch-blocks_found.ensures.others
          c.adopt_found.ensures.others stops,
    )) c.adopt_found.ensures.stop

pub returns-clause-onward : goal.returns-clause-onward
returns-clause-onward g c = IfOk-weaker c.adopt_found.result _ _ (λ adopted next. omega (arith, next, c.requires.some)) c.adopt_found.ensures.next

pub returns-clause-within : goal.returns-clause-within
returns-clause-within g c = IfOk-weaker c.adopt_found.result _ _ (λ adopted next.
    omega (arith, next, c.requires.batch.inside, ap block_count c.requires.geometry)) c.adopt_found.ensures.next
