use Rattle.std.proofs.Common.{◌∙◌, sym, subst, arith}
use Rattle.bt_book.specs.Blocks.{IsFirst, HasNoFirst}
use Rattle.bt_engine_state.specs.Parts.{state_of}
use Rattle.bt_engine_state.specs.PieceSets.{without}
use Rattle.bt_engine_after.specs.HeldSteps.{is_held}
use Rattle.bt_engine_after.proofs.HashNeeds.{none_yet, none_left, least, passed, nearer, in_files}
use Rattle.bt_engine_after.proofs.hash_requests.least_need.Goals as goal
use Rattle.bt_engine_after.proofs.hash_requests.least_need.Goals.{else-unknown-held-via-then-unknown-held+else-not-is_marked, else-unknown-held-via-else-unknown-held}

pub loop-held-init : goal.loop-held-init
loop-held-init g c = record { fits = omega arith; none = λ p same. none_yet g.H.NodeHash.digest (state_of c.args.parts.now) p }

pub returns-then-not-is_marked-clause-some : goal.returns-then-not-is_marked-clause-some
returns-then-not-is_marked-clause-some g c = λ p same.
    least g.H.NodeHash.digest (state_of c.args.parts.now) c.requires.shaped c.args.parts.now.known c.requires.tied.known p c.loop-held.from (c.loop-held.invariant.none p same) c.in-Some.held
    (subst (λ has. IsFirst (is_held c.args.parts.now.torrent (without has c.args.parts.now.known)) c.loop-held.from c.in-Some.held) (sym same) c.in-Some.ensures.0)
    c.next_unknown-unknown.result c.next_unknown-unknown.ensures.unknown c.if-unknown-held.true (sym c.is_marked.ensures ∙ c.if-not-is_marked.true)

pub loop-held-smaller : goal.loop-held-smaller
loop-held-smaller g c =
    let first = c.in-Some.ensures.0 in
    nearer _ c.loop-held.from c.in-Some.held c.max.result c.loop-held.invariant.fits (omega (arith, c.max.type_inv))
    (in_files (state_of c.args.parts.now) (without c.args.has.now c.args.parts.now.known) c.in-Some.held first.held) first.after (omega (arith, c.max.ensures))

pub loop-held-preserved : goal.loop-held-preserved
loop-held-preserved g c = record {
  fits = omega (arith, c.max.type_inv);
  none = λ p same.
      passed g.H.NodeHash.digest (state_of c.args.parts.now) c.requires.shaped c.args.parts.now.known c.requires.tied.known p c.loop-held.from (c.loop-held.invariant.none p same) c.in-Some.held
      (subst (λ has. IsFirst (is_held c.args.parts.now.torrent (without has c.args.parts.now.known)) c.loop-held.from c.in-Some.held) (sym same) c.in-Some.ensures.0)
      c.next_unknown-unknown.result c.max.result c.next_unknown-unknown.ensures.unknown c.max.ensures
      (λ at. elim c.else-unknown-held.branch [
        | else-unknown-held-via-then-unknown-held+else-not-is_marked w ↦ sym w.is_marked.ensures ∙ w.if-not-is_marked.false
        | else-unknown-held-via-else-unknown-held w ↦ absurd (w.if-unknown-held.false at)
      ]);
}

pub returns-clause-none : goal.returns-clause-none
returns-clause-none g c = λ p same.
    none_left g.H.NodeHash.digest (state_of c.args.parts.now) c.requires.shaped c.args.parts.now.known c.requires.tied.known p c.loop-held.from (c.loop-held.invariant.none p same)
    (subst (λ has. HasNoFirst (is_held c.args.parts.now.torrent (without has c.args.parts.now.known)) c.loop-held.from) (sym same) c.in_default.ensures.1)
