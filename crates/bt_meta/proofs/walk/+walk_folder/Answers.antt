use Rattle.bt_meta.proofs.Base.{◌≡◌, take, arith, take_all, err_from_is_err_and}
use Rattle.bt_meta.proofs.Dictionaries.{entries_below}
use Rattle.bt_meta.proofs.TreeWalk.{none_yet, memory_stops, walks_key, walks_folder, stops_among}
use Rattle.bt_meta.proofs.walk.+walk_folder.Goals as goal

pub returns-in_err-inner-clause-stopped : goal.returns-in_err-inner-clause-stopped
returns-in_err-inner-clause-stopped t c =
    let q = err_from_is_err_and c.from_residual.result c.from_residual.ensures.1 in
    rw (q.1, q.2, entries_below _ _ _ _ c.in-Dict.is c.deref-key-items.ensures.value)
    (stops_among _ _ _ (walks_key _ _ _ c.loop-key-test.true c.loop-key-item.is c.loop-key.invariant (rw (← c.deref.ensures.value) c.in_err-inner.ensures)))

pub returns-in_err-new-clause-stopped : goal.returns-in_err-new-clause-stopped
returns-in_err-new-clause-stopped t c =
    let q = err_from_is_err_and c.from_residual-in_err-new.result c.from_residual-in_err-new.ensures.1 in
    rw q.1 (memory_stops q.2)

pub loop-key-init : goal.loop-key-init
loop-key-init t c = none_yet _

pub returns-in_err-walk_folder-clause-stopped : goal.returns-in_err-walk_folder-clause-stopped
returns-in_err-walk_folder-clause-stopped t c =
    let q = err_from_is_err_and c.from_residual-in_err-walk_folder.result c.from_residual-in_err-walk_folder.ensures.1 in
    rw (q.1, q.2, entries_below _ _ _ _ c.in-Dict.is c.deref-key-items.ensures.value)
    (stops_among _ _ _ (walks_key _ _ _ c.loop-key-test.true c.loop-key-item.is c.loop-key.invariant
    (walks_folder _ _ _ c.in-Some.is (rw c.deref.ensures.value at c.in_ok-inner.ensures) (rw c.in_ok-new.ensures.ok at c.in_err-walk_folder.ensures.stopped))))

pub returns-clause-passed : goal.returns-clause-passed
returns-clause-passed t c =
    let es = c.deref-key-items.result.now in
    let whole : take c.loop-key.key-index es ≡ es = take_all _ _ (omega arith) in
    rw (entries_below _ _ _ _ c.in-Dict.is c.deref-key-items.ensures.value) (rw whole at c.loop-key.invariant)

pub loop-key-preserved : goal.loop-key-preserved
loop-key-preserved t c =
    let entered = rw c.deref.ensures.value at c.in_ok-inner.ensures in
    walks_key _ _ _ c.loop-key-test.true c.loop-key-item.is c.loop-key.invariant (elim c.match-branch-2.branch [
      | goal.in-Some+in_ok-new+in_ok-walk_folder+in-Some-1 w ↦
          rw w.walk-is (walks_folder _ _ _ w.in-Some.is entered (rw w.in_ok-new.ensures.ok at w.in_ok-walk_folder.ensures.passed))
      | goal.in-Some+in_ok-new+in_ok-walk_folder+in-None-1 w ↦
          rw w.walk-is (walks_folder _ _ _ w.in-Some.is entered (rw w.in_ok-new.ensures.ok at w.in_ok-walk_folder.ensures.passed))
      | goal.in_default w ↦ rw (w.walk-is) (rw w.in_default.is at entered)
    ])
