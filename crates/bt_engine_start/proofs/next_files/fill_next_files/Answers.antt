use Rattle.std.proofs.Common.{◌≡◌, ℕ, ◌+◌, ◌-◌, ◌<◌, length, map, sym, ◌∙◌, subst, arith}
use Rattle.std.proofs.lemmas.List.{length-map, length-set}
use Rattle.bt_meta.specs.Files.{file_of}
use Rattle.bt_engine_state.specs.Roots.{IsFirstFrom, IsOfRoot}
use Rattle.bt_engine_start.specs.RootsSteps.{AreFirstsFrom}
use Rattle.bt_engine_start.proofs.NextFiles.{firsts_none, AreNextsFrom, nexts_none, nexts_more, nexts_all}
use Rattle.bt_engine_start.proofs.next_files.fill_next_files.Goals as goal

pub loop-index-init : goal.loop-index-init
loop-index-init c =
    let files = map file_of c.args.files.now in
    let size = sym (length-map c.args.files.now file_of) in
    record {
      firsts = firsts_none files c.new-firsts.result c.new-firsts.ensures.empty size;
      size = c.requires.count;
      each = nexts_none files c.args.nexts.now size;
    }

pub put_first-requires-clause-firsts : goal.put_first-requires-clause-firsts
put_first-requires-clause-firsts c =
    subst (λ n. AreFirstsFrom (map file_of c.args.files.now) n c.loop-index.firsts) (omega (arith, c.loop-index-test.true)) c.loop-index.invariant.firsts

pub loop-index-preserved : goal.loop-index-preserved
loop-index-preserved c =
    let l = c.loop-index in
    let i : ℕ = l.index - 1 in
    let files = map file_of c.args.files.now in
    let next : l.index ≡ i + 1 = omega (arith, c.loop-index-test.true) in
    let below : i < length l.nexts = omega (arith, next, l.auto.index, l.invariant.size) in
    record {
      firsts = c.in_ok-next.ensures.firsts;
      size = length-set l.nexts i c.in_ok-next.next ∙ l.invariant.size;
      each = nexts_more files l.nexts i c.in_ok-next.next below
          (λ file listed some. subst (λ n. IsFirstFrom (IsOfRoot files file.root) n (i + 1) c.in_ok-next.next) (sym (length-map c.args.files.now file_of))
          (c.in_ok-next.ensures.next file listed some))
          (subst (λ n. AreNextsFrom files n l.nexts) next l.invariant.each);
    }

pub returns : goal.returns
returns c =
    let l = c.loop-index in
    nexts_all (map file_of c.args.files.now) l.nexts (l.invariant.size ∙ sym (length-map c.args.files.now file_of))
    (subst (λ n. AreNextsFrom (map file_of c.args.files.now) n l.nexts) (omega (arith, c.loop-index-test.false)) l.invariant.each)
