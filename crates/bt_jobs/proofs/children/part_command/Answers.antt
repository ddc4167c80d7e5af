use Rattle.std.proofs.Common.{◌≡◌, ◌∷◌, ◌++◌, [], codes, decimal, ap, sym, ◌∙◌, append_assoc}
use Rattle.bt_jobs.specs.Children.{info_words}
use Rattle.bt_jobs.proofs.Words.{words_joined}
use Rattle.bt_jobs.proofs.children.part_command.Goals as goal

pub returns-clause-words : goal.returns-clause-words
returns-clause-words c =
    let info = info_words c.args.job.source.is_info in
    let which : c.as_str.result.now ≡ decimal c.args.index ++ codes "/" ++ decimal c.args.job.count = c.as_str.ensures.value ∙ (c.in_ok-part.ensures.ok ∙ sym (append_assoc (decimal c.args.index) (codes "/") (decimal c.args.job.count))) in
    words_joined (codes "check") (codes "--part") c.as_str.result.now (codes "--") (codes "/dev/stdin") c.args.job.dir.now info _ _ _ _ _ _ _ _
    c.in_ok-command.ensures.args c.in_ok-push_word.ensures.words c.in_ok-push_word-2.ensures.words c.in_ok-push_word-3.ensures.words
    c.in_ok-push_info.ensures.words c.in_ok-push_word-4.ensures.words c.in_ok-push_word-5.ensures.words c.in_ok-push_word-6.ensures.words
    ∙ ap (λ w. codes "check" ∷ codes "--part" ∷ w ∷ (info ++ (codes "--" ∷ codes "/dev/stdin" ∷ c.args.job.dir.now ∷ []))) which
