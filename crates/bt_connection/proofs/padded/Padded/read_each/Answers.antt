use Rattle.std.proofs.Common.{[], ◌++◌, refl, ap, subst}
use Rattle.std.proofs.KnownBytes.{Keeps-refl}
use Rattle.std.proofs.lemmas.Result.{err_from_is_err_and}
use Rattle.bt_connection.specs.Padded.{IsFilled, PaddedState, DirectionState, padded_state, TakesParts, none_yet}
use Rattle.bt_connection.proofs.Readers.{part_more, given_of}
use Rattle.bt_connection.proofs.padded.Padded.read_each.Goals as goal
use Rattle.bt_connection.proofs.padded.Padded.read_each.Goals.{then-is_ready-via-then-is_ready, then-is_ready-via-else-is_ready+in_ok-collect+then-branch-eq0}

pub loop-init : goal.loop-init
loop-init g c = ([], none_yet)

pub loop-preserved : goal.loop-preserved
loop-preserved g c =
    let so = c.loop.invariant in
    let came = c.in_ok-collect.ensures.came in (
      so.0 ++ came.part,
      part_more g.R.Read.remaining c.in_ok-collect.field-0 c.loop.self-inside.inner c.collect.new.from c.loop.self-inside.direction c.collect.new.self _ so.0
          c.if-is_ready.ensures.none came so.1,
    )

pub returns-then-is_ready-clause-given : goal.returns-then-is_ready-clause-given
returns-then-is_ready-clause-given g c =
    let so = c.loop.invariant in
    let first = padded_state c.self.inside.inner c.self.inside.direction in
    let now = padded_state c.then-is_ready.self-inside.inner c.then-is_ready.self-inside.direction in
    let fills : IsFilled g.R.Read.remaining first now = elim c.then-is_ready.branch [
      | then-is_ready-via-then-is_ready w ↦ rw w.self-inside-is (record {
        came = so.0;
        takes = so.1;
        ended = λ none. absurd (w.if-is_ready.ensures.waits none);
      })
      | then-is_ready-via-else-is_ready+in_ok-collect+then-branch-eq0 w ↦ rw w.self-inside-is (
          let came = w.in_ok-collect.ensures.came in
          record {
            came = so.0 ++ came.part;
            takes = part_more g.R.Read.remaining w.in_ok-collect.field-0 c.loop.self-inside.inner w.collect.new.from c.loop.self-inside.direction w.collect.new.self first so.0
                w.if-is_ready.ensures.none came so.1;
            ended = λ none. came.ended w.if-branch-eq0.true;
          }
          )
    ] in
    given_of g.R.Read.remaining c.args.self.now c.then-is_ready.self-inside.inner c.then-is_ready.self-inside.direction c.give.new.self c.give.result
    c.loop.buffer c.give.new.buffer (subst (λ (p : PaddedState _). IsFilled g.R.Read.remaining p now) c.self.view_is fills)
    c.give.ensures.count c.give.auto.buffer c.give.ensures.given c.give.ensures.others

pub returns-in_err-collect-clause-again : goal.returns-in_err-collect-clause-again
returns-in_err-collect-clause-again g c =
    let so = c.loop.invariant in
    let last = c.loop.self-inside in
    let p = err_from_is_err_and c.from_residual.result c.from_residual.ensures.1 in
    rw p.1 (record {
      came = so.0;
      mid = padded_state last.inner last.direction;
      takes = subst (λ (q : PaddedState _). TakesParts g.R.Read.remaining q so.0 (padded_state last.inner last.direction)) c.self.view_is so.1;
      loses_nothing = record {
        kept = c.in_err-collect.ensures.kept;
        others = ap (λ (d : DirectionState). padded_state c.collect.new.from d) c.in_err-collect.ensures.same;
      };
    })

pub returns-clause-again : goal.returns-clause-again
returns-clause-again g c =
    let so = c.loop.invariant in
    let last = c.loop.self-inside in
    let mid = padded_state last.inner last.direction in
    record {
      came = so.0;
      mid = mid;
      takes = subst (λ (q : PaddedState _). TakesParts g.R.Read.remaining q so.0 mid) c.self.view_is so.1;
      loses_nothing = record { kept = Keeps-refl (g.R.Read.remaining last.inner); others = refl };
    }
