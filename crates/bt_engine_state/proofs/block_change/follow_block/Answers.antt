use Rattle.bt_machine.proofs.Base.{◌≢◌, inl, inr, true, false, Missing, refl, ap, ◌∙◌}
use Rattle.bt_book.specs.Book.{BookState, asked_of}
use Rattle.bt_engine_state.proofs.BlockChanges.{follows, has_it, bears_some, bears_few, bears_waiting_some, bears_waiting_few, asked_wanted, asked_done, not_asked}
use Rattle.bt_engine_state.proofs.block_change.follow_block.Goals as goal

pub piece_of-piece-requires : goal.piece_of-piece-requires
piece_of-piece-requires c = has_it c.requires

pub count_block-requires-clause-room : goal.count_block-requires-clause-room
count_block-requires-clause-room c =
    bears_few c.requires c.piece_of-piece.result c.piece_of-piece.ensures.lies c.piece_of-piece.ensures.inside c.keeps_laws.ensures.piece c.keeps_laws.ensures.laid_out

pub count_block-requires-clause-some : goal.count_block-requires-clause-some
count_block-requires-clause-some c = bears_some c.requires c.piece_of-piece.result c.piece_of-piece.ensures.lies c.piece_of-piece.ensures.inside

pub count_block-requires-clause-waiting_room : goal.count_block-requires-clause-waiting_room
count_block-requires-clause-waiting_room c = bears_waiting_few c.requires c.keeps_laws.ensures.laid_out c.keeps_laws.ensures.each

pub count_block-requires-clause-waiting_some : goal.count_block-requires-clause-waiting_some
count_block-requires-clause-waiting_some c = bears_waiting_some c.requires

pub returns-in-Missing-clause-followed : goal.returns-in-Missing-clause-followed
returns-in-Missing-clause-followed c = λ s t same f ch.
    follows f ch true ((λ yes. c.in-Missing.is), (λ is. refl)) c.args.torrent.now same c.piece_of-piece.result c.piece_of-piece.ensures.lies
    c.piece_of-piece.ensures.inside _ (ap (λ (k : BookState). k.wanted) c.want.ensures.now) c.count_block.new.counts c.count_block.ensures.unmarked c.count_block.ensures.waiting

pub returns-in-Missing-clause-asked : goal.returns-in-Missing-clause-asked
returns-in-Missing-clause-asked c = λ key.
    c.want.ensures.asked key ∙ asked_wanted c.args.block c.args.was c.args.now (asked_of c.args.book.now key) c.in-Missing.is

pub returns-in-Waiting-clause-followed : goal.returns-in-Waiting-clause-followed
returns-in-Waiting-clause-followed c = λ s t same f ch.
    follows f ch false ((λ no. absurd cc), (λ lost. elim c.in-Waiting.is [ inl e ↦ absurd cc | inr e ↦ absurd cc ])) c.args.torrent.now same
    c.piece_of-piece.result c.piece_of-piece.ensures.lies c.piece_of-piece.ensures.inside _ (ap (λ (k : BookState). k.wanted) c.done.ensures.now)
    c.count_block.new.counts c.count_block.ensures.unmarked c.count_block.ensures.waiting

pub returns-in-Waiting-clause-asked : goal.returns-in-Waiting-clause-asked
returns-in-Waiting-clause-asked c = λ key.
    let known : c.args.now ≢ Missing = λ lost. elim c.in-Waiting.is [ inl e ↦ absurd cc | inr e ↦ absurd cc ] in
    c.done.ensures.asked key
    ∙ asked_done c.args.block c.args.was c.args.now (asked_of c.args.book.now key) known
    (λ had. not_asked c.args.book.now c.requires c.keeps_laws-2.ensures had key)
