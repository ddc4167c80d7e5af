use Rattle.std.proofs.Common.{◌++◌, take, append-nil, append_assoc, sym, subst, ap, ◌∙◌, arith, take_all}
use Rattle.std.proofs.lemmas.List.{take_more}
use Rattle.bt_jobs.specs.Told.{IsToldBy}
use Rattle.bt_jobs.proofs.told.Told.take_in.Goals as goal

pub loop-byte-init : goal.loop-byte-init
loop-byte-init c = record {
  told = λ text is. subst (λ t. IsToldBy t c.args.self.now) (sym (append-nil text)) is;
  onward = omega arith;
}

pub loop-byte-preserved : goal.loop-byte-preserved
loop-byte-preserved c =
    let bytes = c.args.bytes.now in
    let i = c.loop-byte.byte-index in
    record {
      told = λ text is.
          subst (λ t. IsToldBy t c.take_byte.new.self)
          (append_assoc text (take i bytes) _ ∙ ap (λ t. text ++ t) (sym (take_more bytes i 0 c.loop-byte-test.true)))
          (c.in_ok-take_byte.ensures.told (text ++ take i bytes) (c.loop-byte.invariant.told text is));
      onward = omega (arith, c.loop-byte.invariant.onward, c.in_ok-take_byte.ensures.onward);
    }

pub returns-clause-told : goal.returns-clause-told
returns-clause-told c = λ text is.
    subst (λ t. IsToldBy (text ++ t) c.loop-byte.self) (take_all c.loop-byte.byte-index c.args.bytes.now (omega (arith, c.loop-byte-test.false)))
    (c.loop-byte.invariant.told text is)
