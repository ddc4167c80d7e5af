use Rattle.std.proofs.Common.{◌≡◌, ◌≤◌, ℕ, ◌+◌, ◌-◌, List, length, take, drop, sym, ap, subst, arith, length-drop, drop-drop}
use Rattle.std.specs.Prelude.{All}
use Rattle.std.proofs.lemmas.List.{take_rest}
use Rattle.bt_wire.specs.Frames.{message_length, HasNoMessage}
use Rattle.bt_connection.specs.Messages.{AreMessages, IsLongAt, Leads}
use Rattle.bt_connection.proofs.Leading.{leads_into, leads_cut}
use Rattle.bt_connection.proofs.Longs.{long_behind}
use Rattle.bt_connection.proofs.messages.cut_messages.Goals as goal

pub returns-then-may_carry_block-clause-leads : goal.returns-then-may_carry_block-clause-leads
returns-then-may_carry_block-clause-leads g c =
    let found = c.whole_messages-messages.ensures in
    let bytes = c.args.bytes.now in
    let begin = c.min-begin.result in
    let count = c.whole_messages-messages.result.len in
    let behind = take_rest bytes begin in
    leads_cut bytes c.args.owed begin count c.min-begin.ensures
    (subst (λ (b : List ℕ). count ≤ length b) behind found.within)
    (subst (λ (b : List ℕ). AreMessages (take count b)) behind found.messages)

pub returns-clause-leads : goal.returns-clause-leads
returns-clause-leads g c =
    let found = c.whole_messages-messages.ensures in
    let bytes = c.args.bytes.now in
    let owed = c.args.owed in
    let begin = c.min-begin.result in
    let count = c.whole_messages-messages.result.len in
    let front = take_rest bytes begin in
    let behind = take_rest bytes (begin + count) in
    let four : 4 ≤ length (drop (begin + count) bytes)
    = subst (λ (b : List ℕ). 4 ≤ length b) behind c.if-may_carry_block.ensures.begun in
    let place : begin ≡ owed = omega (arith, c.min-begin.ensures, four, length-drop (begin + count) bytes) in
    let within : owed ≤ length bytes = omega (arith, c.min-begin.ensures, four, length-drop (begin + count) bytes) in
    let all : AreMessages (take count (drop owed bytes))
    = subst (λ (n : ℕ). AreMessages (take count (drop n bytes))) place
    (subst (λ (b : List ℕ). AreMessages (take count b)) front found.messages) in
    let part : HasNoMessage (drop (begin + count) bytes)
    = subst HasNoMessage (drop-drop count begin bytes)
    (subst (λ (b : List ℕ). HasNoMessage (drop count b)) front found.part) in
    let same : begin + count ≡ owed + count = ap (λ (n : ℕ). n + count) place in
    let there : 4 ≤ length (drop (owed + count) bytes) = subst (λ (n : ℕ). 4 ≤ length (drop n bytes)) same four in
    let none : HasNoMessage (drop (owed + count) bytes) = subst (λ (n : ℕ). HasNoMessage (drop n bytes)) same part in
    let long : length (drop (owed + count) bytes) ≤ message_length (drop (owed + count) bytes) = omega (arith, none there) in
    let all_given = take (length bytes) bytes in
    rw c.message_len.ensures.value
    (subst (λ (b : List ℕ). Leads owed all_given (message_length b - length b)) (sym behind)
    (subst (λ (n : ℕ). Leads owed all_given (message_length (drop n bytes) - length (drop n bytes))) (sym same)
    (leads_into bytes owed count within all there long)))

pub returns-then-may_carry_block-clause-long : goal.returns-then-may_carry_block-clause-long
returns-then-may_carry_block-clause-long g c =
    let found = c.whole_messages-messages.ensures in
    let messages = c.whole_messages-messages.result in
    let bytes = c.args.bytes.now in
    let begin = c.min-begin.result in
    long_behind bytes begin messages.len messages.blocks (omega (arith, c.min-begin.ensures))
    (subst (λ (b : List ℕ). All (IsLongAt b messages.len) messages.blocks) (take_rest bytes begin) found.long) (begin + messages.len) (omega arith)

pub returns-clause-long : goal.returns-clause-long
returns-clause-long g c =
    let found = c.whole_messages-messages.ensures in
    let messages = c.whole_messages-messages.result in
    let bytes = c.args.bytes.now in
    let begin = c.min-begin.result in
    let within = subst (λ (b : List ℕ). messages.len ≤ length b) (take_rest bytes begin) found.within in
    long_behind bytes begin messages.len messages.blocks (omega (arith, c.min-begin.ensures))
    (subst (λ (b : List ℕ). All (IsLongAt b messages.len) messages.blocks) (take_rest bytes begin) found.long) (length bytes)
    (omega (arith, within, c.min-begin.ensures, length-drop begin bytes))
