use Rattle.std.proofs.Common.{◌+◌, List, length, refl, sym, ap, ◌∙◌, arith}
use Rattle.std.proofs.lemmas.List.{length-map}
use Rattle.bt_meta.specs.Files.{File, file_of as entry_of}
use Rattle.bt_engine_state.proofs.Lists.{get_read}
use Rattle.bt_engine_start.specs.FollowingSteps.{missing_from}
use Rattle.bt_engine_start.proofs.Follows.{next_file, next_begun, all_followed}
use Rattle.bt_engine_start.proofs.following.follow_files.Goals as goal

pub loop-file-init : goal.loop-file-init
loop-file-init g c = record { followed = λ s has begun. begun; peers = refl }

pub bounds-slots-file : goal.bounds-slots-file
bounds-slots-file g c =
    let size = sym (length-map c.files.result.now entry_of) ∙ ap (λ (xs : List File). length xs) c.files.ensures.said ∙ sym c.requires.count in
    omega (arith, size, c.loop-file-test.true)

pub count_in-requires : goal.count_in-requires
count_in-requires g c =
    let file = c.loop-file.file in
    let size = sym (length-map c.files.result.now entry_of) ∙ ap (λ (xs : List File). length xs) c.files.ensures.said ∙ sym c.requires.count in
    let at = get_read c.args.slots.now file c.index-slots-file.result (omega (arith, size, c.loop-file-test.true)) c.index-slots-file.is in
    let has = c.requires.followed.1 in
    (missing_from (file + 1) c.requires.followed.0, next_file has file at, next_begun has file at (c.loop-file.invariant.followed c.requires.followed.0 has c.requires.followed.2))

pub loop-file-preserved : goal.loop-file-preserved
loop-file-preserved g c =
    let file = c.loop-file.file in
    let size = sym (length-map c.files.result.now entry_of) ∙ ap (λ (xs : List File). length xs) c.files.ensures.said ∙ sym c.requires.count in
    let at = get_read c.args.slots.now file c.index-slots-file.result (omega (arith, size, c.loop-file-test.true)) c.index-slots-file.is in
    record {
      followed = λ s has begun.
          c.count_in.ensures.followed (missing_from (file + 1) s) (next_file has file at) (next_begun has file at (c.loop-file.invariant.followed s has begun));
      peers = c.count_in.ensures.peers ∙ c.loop-file.invariant.peers;
    }

pub returns-clause-followed : goal.returns-clause-followed
returns-clause-followed g c = λ s has begun.
    let size = sym (length-map c.files.result.now entry_of) ∙ ap (λ (xs : List File). length xs) c.files.ensures.said ∙ sym c.requires.count in
    all_followed has (omega (arith, size, c.loop-file-test.false, c.loop-file.auto.file-end)) (c.loop-file.invariant.followed s has begun)
