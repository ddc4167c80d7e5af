use Rattle.std.proofs.Common.{sym, ap, ◌∙◌, arith}
use Rattle.bt_machine.proofs.Lists.{get_some}
use Rattle.bt_engine_state.proofs.Chains.{tree_leads}
use Rattle.bt_engine_state.specs.declared.parts.Parts.{Parts}
use Rattle.bt_engine_after.proofs.Logs.{logged_same}
use Rattle.bt_engine_after.proofs.Slots.{here_at}
use Rattle.bt_engine_after.proofs.OtherFiles.{as_many_trees, rest_then}
use Rattle.bt_engine_after.proofs.Adoptions.{in_line_first, tied_last, alone_if, shaped_behind, steps_no_file, steps_busy, steps_empty, steps_stopped, steps_unsettled, steps_adopted, tree_below}
use Rattle.bt_engine_after.proofs.adoption.adopt.Goals as goal

pub returns-then-file-len-clause-step : goal.returns-then-file-len-clause-step
returns-then-file-len-clause-step g c = steps_no_file c.args.parts.now c.args.file (omega (arith, c.if-file-len.true, c.len.ensures))

pub returns-then-has_peer-clause-step : goal.returns-then-has_peer-clause-step
returns-then-has_peer-clause-step g c = steps_busy c.args.parts.now c.args.file (omega (arith, c.if-file-len.false, c.len.ensures)) (c.has_peer.ensures.0 c.if-has_peer.true)

pub returns-then-block_count-eq0-clause-step : goal.returns-then-block_count-eq0-clause-step
returns-then-block_count-eq0-clause-step g c =
    steps_empty c.args.parts.now c.args.file (alone_if c.has_peer.ensures.1 c.if-has_peer.false) (omega (arith, c.if-file-len.false, c.len.ensures)) (sym c.block_count.ensures ∙ c.if-block_count-eq0.true)

pub adopt_file-requires-clause-alone : goal.adopt_file-requires-clause-alone
adopt_file-requires-clause-alone g c = alone_if c.has_peer.ensures.1 c.if-has_peer.false

pub adopt_file-requires-clause-in_line : goal.adopt_file-requires-clause-in_line
adopt_file-requires-clause-in_line g c = in_line_first c.args.parts.now c.requires.tied c.requires.shaped

pub returns-in_default-clause-step : goal.returns-in_default-clause-step
returns-in_default-clause-step g c = steps_stopped c.args.parts.now c.args.file (alone_if c.has_peer.ensures.1 c.if-has_peer.false) c.in_default.ensures.stop

pub returns-in_default-clause-unknown : goal.returns-in_default-clause-unknown
returns-in_default-clause-unknown g c = λ error bare. c.in_default.ensures.unknown bare

pub returns-in_default-clause-peers : goal.returns-in_default-clause-peers
returns-in_default-clause-peers g c = ap (λ (p : Parts g.row.D.Denot g.row.H.Denot). p.peers) c.adopt_file.ensures.rest.others

pub returns-in_default-clause-rest : goal.returns-in_default-clause-rest
returns-in_default-clause-rest g c = record {
  torrent = ap (λ (p : Parts g.row.D.Denot g.row.H.Denot). p.torrent) c.adopt_file.ensures.rest.others;
  log = c.adopt_file.ensures.rest.log;
  tied = tied_last c.args.parts.now c.requires.tied c.adopt_file.new.parts c.adopt_file.ensures.rest c.adopt_file.ensures.in_line;
}

pub settle_recorded-requires-clause-alone : goal.settle_recorded-requires-clause-alone
settle_recorded-requires-clause-alone g c =
    ap (λ (p : Parts g.row.D.Denot g.row.H.Denot). p.peers.items) c.adopt_file.ensures.rest.others ∙ alone_if c.has_peer.ensures.1 c.if-has_peer.false

pub settle_recorded-requires-clause-lead : goal.settle_recorded-requires-clause-lead
settle_recorded-requires-clause-lead g c =
    let old = c.args.parts.now in
    let mid = c.adopt_file.new.parts in
    let here = here_at old (omega (arith, c.if-file-len.false, c.len.ensures)) c.index.ensures in
    let below = tree_below old c.args.file here (omega (arith, c.if-block_count-eq0.false, c.block_count.ensures)) (in_line_first old c.requires.tied c.requires.shaped) in
    let k = get_some mid.trees.items c.index.result.now.tree (omega (arith, below, as_many_trees c.adopt_file.ensures.rest)) in
    tree_leads (tied_last old c.requires.tied mid c.adopt_file.ensures.rest c.adopt_file.ensures.in_line)
    (shaped_behind old c.args.file here (omega (arith, c.if-block_count-eq0.false, c.block_count.ensures)) (alone_if c.has_peer.ensures.1 c.if-has_peer.false) c.in-Ok.ensures.ok c.adopt_file.ensures.rest c.adopt_file.ensures.in_line c.requires.shaped)
    c.index.result.now.tree k.1

pub settle_recorded-requires-clause-here : goal.settle_recorded-requires-clause-here
settle_recorded-requires-clause-here g c =
    let old = c.args.parts.now in
    let here = here_at old (omega (arith, c.if-file-len.false, c.len.ensures)) c.index.ensures in
    let below = tree_below old c.args.file here (omega (arith, c.if-block_count-eq0.false, c.block_count.ensures)) (in_line_first old c.requires.tied c.requires.shaped) in
    omega (arith, below, as_many_trees c.adopt_file.ensures.rest, c.adopt_file.new.parts.trees.ok.0, old.trees.ok.0)

pub returns-in_default-settle_recorded-clause-step : goal.returns-in_default-settle_recorded-clause-step
returns-in_default-settle_recorded-clause-step g c =
    let old = c.args.parts.now in
    let here = here_at old (omega (arith, c.if-file-len.false, c.len.ensures)) c.index.ensures in
    steps_unsettled old c.args.file here (omega (arith, c.if-block_count-eq0.false, c.block_count.ensures)) c.settle_recorded.new.parts (alone_if c.has_peer.ensures.1 c.if-has_peer.false)
    c.in-Ok.ensures.ok c.adopt_file.ensures.rest c.adopt_file.ensures.in_line c.in_default-settle_recorded.ensures.refused c.in_default-settle_recorded.ensures.pending

pub returns-in_default-settle_recorded-clause-unknown : goal.returns-in_default-settle_recorded-clause-unknown
returns-in_default-settle_recorded-clause-unknown g c =
    λ error bare.
    let other = sym c.in_default-settle_recorded.ensures.logged
    ∙ logged_same c.adopt_file.new.parts.log c.args.parts.now.log c.adopt_file.ensures.rest.log ∙ bare in
    absurd cc

pub returns-in_default-settle_recorded-clause-peers : goal.returns-in_default-settle_recorded-clause-peers
returns-in_default-settle_recorded-clause-peers g c =
    ap (λ (p : Parts g.row.D.Denot g.row.H.Denot). p.peers) (rest_then c.adopt_file.ensures.rest c.settle_recorded.ensures.rest).others

pub returns-in_default-settle_recorded-clause-rest : goal.returns-in_default-settle_recorded-clause-rest
returns-in_default-settle_recorded-clause-rest g c =
    let rest = rest_then c.adopt_file.ensures.rest c.settle_recorded.ensures.rest in
    record {
      torrent = ap (λ (p : Parts g.row.D.Denot g.row.H.Denot). p.torrent) rest.others;
      log = rest.log;
      tied = tied_last c.args.parts.now c.requires.tied c.settle_recorded.new.parts rest c.settle_recorded.ensures.in_line;
    }

pub returns-clause-step : goal.returns-clause-step
returns-clause-step g c =
    let old = c.args.parts.now in
    let here = here_at old (omega (arith, c.if-file-len.false, c.len.ensures)) c.index.ensures in
    steps_adopted old c.args.file here (omega (arith, c.if-block_count-eq0.false, c.block_count.ensures)) c.settle_recorded.new.parts (alone_if c.has_peer.ensures.1 c.if-has_peer.false)
    c.requires.tied c.requires.shaped c.in-Ok.ensures.ok c.adopt_file.ensures.rest c.in-Ok-settle_recorded.ensures.settles

pub returns-clause-peers : goal.returns-clause-peers
returns-clause-peers g c =
    ap (λ (p : Parts g.row.D.Denot g.row.H.Denot). p.peers) (rest_then c.adopt_file.ensures.rest c.settle_recorded.ensures.rest).others

pub returns-clause-rest : goal.returns-clause-rest
returns-clause-rest g c =
    let rest = rest_then c.adopt_file.ensures.rest c.settle_recorded.ensures.rest in
    record {
      torrent = ap (λ (p : Parts g.row.D.Denot g.row.H.Denot). p.torrent) rest.others;
      log = rest.log;
      tied = tied_last c.args.parts.now c.requires.tied c.settle_recorded.new.parts rest c.settle_recorded.ensures.in_line;
    }
