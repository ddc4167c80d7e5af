use Rattle.bt_meta.proofs.Base.{arith, nat_tests, refl, ap, ◌+◌, err_from_is_err_and}
use Rattle.bt_meta.proofs.TreeWalk.{many_stop, faulty_stops, memory_stops, conflict_stops, file_passes}
use Rattle.bt_meta.proofs.walk.add_file.Goals as goal

pub returns-in_err-length-clause-stopped : goal.returns-in_err-length-clause-stopped
returns-in_err-length-clause-stopped c =
    let q = err_from_is_err_and c.from_residual.result c.from_residual.ensures.1 in
    rw (q.1, q.2) (λ p at. faulty_stops at c.in_err-length.ensures)

pub returns-in_err-note_length-clause-stopped : goal.returns-in_err-note_length-clause-stopped
returns-in_err-note_length-clause-stopped c =
    let q = err_from_is_err_and c.from_residual-in_err-note_length.result c.from_residual-in_err-note_length.ensures.1 in
    rw (q.1, q.2) (λ p at. conflict_stops at c.in_ok-length.ensures c.in_err-note_length.ensures.refused)

pub returns-then-depth-ge-MAX_PATH_LENGTH-clause-stopped : goal.returns-then-depth-ge-MAX_PATH_LENGTH-clause-stopped
returns-then-depth-ge-MAX_PATH_LENGTH-clause-stopped c =
    λ p at. many_stop at c.in_ok-length.ensures c.in_ok-note_length.ensures.noted (grind (arith, nat_tests, c.then-depth-ge-MAX_PATH_LENGTH.branch))

pub returns-in_err-path-clause-stopped : goal.returns-in_err-path-clause-stopped
returns-in_err-path-clause-stopped c =
    let q = err_from_is_err_and c.from_residual-in_err-path.result c.from_residual-in_err-path.ensures.1 in
    rw q.1 (λ p at. memory_stops q.2)

pub returns-in_err-push-clause-stopped : goal.returns-in_err-push-clause-stopped
returns-in_err-push-clause-stopped c =
    let q = err_from_is_err_and c.from_residual-in_err-push.result c.from_residual-in_err-push.ensures.1 in
    rw q.1 (λ p at. memory_stops q.2)

pub returns-clause-passed : goal.returns-clause-passed
returns-clause-passed c = λ p at.
    file_passes at c.in_ok-length.ensures c.in_ok-note_length.ensures.noted _ (omega arith) (omega arith) (omega arith)
    c.in_ok-push.ensures.items (ap (λ k. c.args.walk.now.pieces + k) c.div_ceil.ensures) refl
    (rw (c.in_ok-path.ensures, c.new.ensures.items) refl)
