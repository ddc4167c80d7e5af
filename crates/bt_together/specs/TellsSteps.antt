-- Of some that come and go, and then of others, the same is told as of all of them: for the laws of a gate.
use Rattle.std.specs.Prelude.{◌≡◌, ℕ, List, [], ◌∷◌, ◌++◌, Option, Result, refl}
use Rattle.std.specs.Io.KnownBytes.{Appends}
use Rattle.std.proofs.Common.{ap, subst, sym, ◌∙◌}
use Rattle.std.proofs.KnownBytes.{Appends-nil, Appends-trans}
use Rattle.std.proofs.lemmas.Grind.{flat_map-append}
use Rattle.std.proofs.lemmas.List.{append_assoc}
use Rattle.bt_check.specs.declared.fault.Fault.{Fault}
use Rattle.bt_session.specs.declared.end.SessionEnd.{SessionEnd}
use Rattle.bt_swarm.specs.Passing.{Passing}
use Rattle.bt_together.specs.Seating.{gone_by, gone_in, seat, seated}
use Rattle.bt_together.specs.ServedLines.{Tells, gone_line, gone_lines}
use Rattle.bt_together.specs.declared.seating.Seating.{Seating}

pub seated-append : (sit : Seating) (first more : List Passing)
    → seated sit (first ++ more) ≡ seated (seated sit first) more
seated-append sit [] more = refl
seated-append sit (one ∷ first) more = seated-append (seat sit one) first more

pub gone_in-append : (sit : Seating) (first more : List Passing)
    → gone_in sit (first ++ more) ≡ gone_in sit first ++ gone_in (seated sit first) more
gone_in-append sit [] more = refl
gone_in-append sit (one ∷ first) more =
    ap (λ gone. gone_by sit one ++ gone) (gone_in-append (seat sit one) first more)
    ∙ sym (append_assoc (gone_by sit one) (gone_in (seat sit one) first)
    (gone_in (seated (seat sit one) first) more))

pub gone_lines-append : (sit : Seating) (first more : List Passing)
    → gone_lines (gone_in sit (first ++ more))
    ≡ gone_lines (gone_in sit first) ++ gone_lines (gone_in (seated sit first) more)
gone_lines-append sit first more =
    ap gone_lines (gone_in-append sit first more)
    ∙ flat_map-append (λ (p : ℕ × SessionEnd). gone_line p.0 p.1)
    (gone_in sit first) (gone_in (seated sit first) more)

-- nobody came or went, and nothing was told
pub tells_none : (sit : Seating) (was : Result (Unit {0}) Fault) (text : Option (List ℕ))
    → Tells sit was text [] sit was text
tells_none sit was text = record {
  sit = refl;
  none_failed = λ e. e;
  lines = λ e. Appends-nil text;
  call = λ c. c;
}

-- some, and then others
pub tells_on : (a : Seating) (was : Result (Unit {0}) Fault) (before : Option (List ℕ)) (first : List Passing)
    (b : Seating) (mid : Result (Unit {0}) Fault) (between : Option (List ℕ)) (more : List Passing)
    (c : Seating) (is : Result (Unit {0}) Fault) (after : Option (List ℕ))
    → Tells a was before first b mid between → Tells b mid between more c is after
    → Tells a was before (first ++ more) c is after
tells_on a was before first b mid between more c is after one two = record {
  sit = two.sit ∙ ap (λ sit. seated sit more) one.sit ∙ sym (seated-append a first more);
  none_failed = λ e. one.none_failed (two.none_failed e);
  lines = λ e. subst (Appends before after)
      (ap (λ sit. gone_lines (gone_in a first) ++ gone_lines (gone_in sit more)) one.sit
      ∙ sym (gone_lines-append a first more))
      (Appends-trans before between after _ _ (one.lines (two.none_failed e)) (two.lines e));
  call = λ failed. two.call (one.call failed);
}
