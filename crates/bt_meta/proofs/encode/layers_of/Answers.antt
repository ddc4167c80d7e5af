use Rattle.bt_meta.proofs.Base.{ap, ◌∙◌, option_map, string, take_all}
use Rattle.std.proofs.lemmas.Result.{IfOk-weaker}
use Rattle.bt_meta.proofs.encode.layers_of.Goals as goal

pub returns : goal.returns
returns c =
    let all = take_all c.loop-file.file-index c.args.files.now c.loop-file-test.false in
    IfOk-weaker c.layer_entries.result _ _ (λ entries made. record {
      ascending = made.ascending;
      first = λ root. made.first root ∙ ap (option_map string) (rw all at (c.loop-file.invariant root));
    }) c.layer_entries.ensures
