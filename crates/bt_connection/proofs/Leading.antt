-- Messages one after the other, and what their bytes lead to.
use Rattle.std.proofs.Common.{◌≡◌, ◌≤◌, ◌<◌, ℕ, ◌+◌, ◌-◌, min, List, [], ◌++◌, take, drop, length, ⊎_elim, length-drop, sym, ◌∙◌, ap, subst, arith, zero-add, length-append, take_all}
use Rattle.std.proofs.lemmas.List.{length-take-le, take-append-drop}
use Rattle.std.proofs.lemmas.Bool.{cases_lt}
use lib.Seq.{take-add}
use Rattle.bt_wire.specs.Frames.{BeginsFrame, message_length}
use Rattle.bt_connection.specs.Messages.{AreMessages, one_more, Leads, in_message, to_message, into_message}

-- one more message, after those that were found
pub messages_more : (bytes : List ℕ) (at count : ℕ) → AreMessages (take at bytes) → BeginsFrame (drop at bytes) count
    → AreMessages (take (at + count) bytes)
messages_more bytes at count all begins =
    subst AreMessages (sym (take-add at count bytes))
    (one_more (take at bytes) (take count (drop at bytes)) all begins.frame)

-- the rest of a message is not all there
pub leads_in : (bytes : List ℕ) (owed : ℕ) → length bytes ≤ owed → Leads owed (take (length bytes) bytes) (owed - length bytes)
leads_in bytes owed more =
    let left : ℕ = owed - length bytes in
    let whole : length bytes + left ≡ owed = omega arith in
    subst (λ (b : List ℕ). Leads owed b left) (sym (take_all (length bytes) bytes (omega arith)))
    (subst (λ (n : ℕ). Leads n bytes left) whole (in_message bytes left))

-- it is, and whole messages stand after it
pub leads_to : (bytes : List ℕ) (owed count : ℕ) → owed ≤ length bytes → AreMessages (take count (drop owed bytes))
    → Leads owed (take (owed + count) bytes) 0
leads_to bytes owed count within all =
    let rest = take owed bytes in
    let behind = take count (drop owed bytes) in
    subst (λ (b : List ℕ). Leads owed b 0) (sym (take-add owed count bytes))
    (subst (λ (n : ℕ). Leads n (rest ++ behind) 0) (length-take-le owed bytes within) (to_message rest behind all))

-- they are, and then a message begins that is not whole
pub leads_into : (bytes : List ℕ) (owed count : ℕ) → owed ≤ length bytes → AreMessages (take count (drop owed bytes))
    → 4 ≤ length (drop (owed + count) bytes) → length (drop (owed + count) bytes) ≤ message_length (drop (owed + count) bytes)
    → Leads owed (take (length bytes) bytes) (message_length (drop (owed + count) bytes) - length (drop (owed + count) bytes))
leads_into bytes owed count within all four long =
    let rest = take owed bytes in
    let messages = take count (drop owed bytes) in
    let begin = drop (owed + count) bytes in
    let left : ℕ = message_length begin - length begin in
    let whole : message_length begin ≡ length begin + left = omega arith in
    let parts : (rest ++ messages) ++ begin ≡ take (length bytes) bytes
    = ap (λ (b : List ℕ). b ++ begin) (sym (take-add owed count bytes))
    ∙ take-append-drop (owed + count) bytes
    ∙ sym (take_all (length bytes) bytes (omega arith)) in
    subst (λ (b : List ℕ). Leads owed b left) parts
    (subst (λ (n : ℕ). Leads n ((rest ++ messages) ++ begin) left) (length-take-le owed bytes within)
    (into_message rest messages begin left all four whole))

-- no bytes lead nowhere
pub leads_none : (owed : ℕ) → Leads owed [] owed
leads_none owed = subst (λ (n : ℕ). Leads n [] owed) (zero-add owed) (in_message [] owed)

-- nor do any that have no length
pub stays : {owed left : ℕ} {bytes : List ℕ} → Leads owed bytes left → length bytes ≡ 0 → owed ≡ left
stays (in_message part left) none = omega (arith, none)
stays (to_message rest messages all) none = omega (arith, none, length-append rest messages)
stays (into_message rest messages begin left all four whole) none = absurd (omega (arith, four, none, length-append (rest ++ messages) begin))

-- one more step, after none
pub leads_more : (first owed left : ℕ) (none bytes : List ℕ) → Leads first none owed → length none ≡ 0 → Leads owed bytes left
    → Leads first bytes left
leads_more first owed left none bytes before empty after =
    subst (λ (n : ℕ). Leads n bytes left) (sym (stays before empty)) after

-- what may be given of bytes, where messages begin after the rest of one
pub leads_cut : (bytes : List ℕ) (owed begin count : ℕ) → begin ≡ min owed (length bytes) → count ≤ length (drop begin bytes)
    → AreMessages (take count (drop begin bytes)) → Leads owed (take (begin + count) bytes) (owed - begin)
leads_cut bytes owed begin count at within all = ⊎_elim
    (λ (more : length bytes < owed).
    let place : begin ≡ length bytes = omega (arith, at, more) in
    let none : begin + count ≡ length bytes = omega (arith, within, length-drop begin bytes, place) in
    subst (λ (n : ℕ). Leads owed (take n bytes) (owed - begin)) (sym none)
    (subst (λ (n : ℕ). Leads owed (take (length bytes) bytes) (owed - n)) (sym place) (leads_in bytes owed (omega (arith, more)))))
    (λ (there : owed ≤ length bytes).
    let place : begin ≡ owed = omega (arith, at, there) in
    let none : owed - begin ≡ 0 = omega (arith, place) in
    let messages = subst (λ (n : ℕ). AreMessages (take count (drop n bytes))) place all in
    subst (λ (n : ℕ). Leads owed (take (begin + count) bytes) n) (sym none)
    (subst (λ (n : ℕ). Leads owed (take (n + count) bytes) 0) (sym place) (leads_to bytes owed count there messages)))
    (cases_lt (length bytes) owed)
