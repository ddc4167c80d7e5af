use Rattle.std.proofs.Common.{◌≡◌, ◌+◌, ◌∙◌, ap, rules, arith, length, take, drop, ◌++◌}
use Rattle.std.proofs.lemmas.List.{take_at}
use Rattle.bt_disk.specs.State.{written, resized}
use Rattle.bt_disk.proofs.Written.{written_within, written_past}
use Rattle.bt_disk.proofs.medium.put.Goals.{then-end-len+in_ok-resize, else-end-len}
use Rattle.bt_disk.proofs.medium.put.Goals as goal

pub returns-clause-ok : goal.returns-clause-ok
returns-clause-ok c =
    let bytes = c.if-end-len.bytes.items in
    let start = c.args.at in
    let more = c.args.more.now in
    let back : take c.if-end-len.bytes.len (c.overwrite.new.bytes ++ drop (length c.overwrite.new.bytes) bytes) ≡ c.overwrite.new.bytes =
    take_at _ _ _ (search rules) in
    let over : c.overwrite.new.bytes ≡ take start bytes ++ more ++ drop (start + length more) bytes = search rules in
    let end : c.in-Some.end ≡ start + length more = search rules in
    let put : take start bytes ++ more ++ drop (start + length more) bytes ≡ written c.args.bytes.now.items start more =
    elim c.if-end-len.branch [
      | then-end-len+in_ok-resize w ↦
          let same : bytes ≡ resized c.args.bytes.now.items (start + length more) =
          ap (λ b. b.items) w.bytes-is ∙ w.in_ok-resize.ensures.ok ∙ ap (resized c.args.bytes.now.items) end in
          rw same (written_past c.args.bytes.now.items start more (omega arith))
      | else-end-len w ↦
          rw (ap (λ b. b.items) w.bytes-is) (written_within c.args.bytes.now.items start more (omega arith))
    ] in
    back ∙ over ∙ put
