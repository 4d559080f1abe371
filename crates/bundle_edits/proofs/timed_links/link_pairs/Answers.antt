use Rattle.std.proofs.Common.{get_or, sym, ◌∙◌}
use Rattle.level_items.specs.declared.annot.AnnotLink.{AnnotLink}
use Rattle.bundle_edits.specs.Changes.{pairs_linked}
use Rattle.bundle_edits.proofs.PairSteps.{pair_fits, pair_goes, pair_stops}
use Rattle.bundle_edits.proofs.timed_links.link_pairs.Goals as goal

abbrev no_pair : AnnotLink
no_pair = record { from = record { 0 = 0 }; to = record { 0 = 0 } }

pub loop-pair-preserved : goal.loop-pair-preserved
loop-pair-preserved c =
    let loop = c.loop-pair in
    record {
      turn = sym (pair_goes c.args.pairs.now loop.pair-index no_pair loop.next c.loop-pair-test.true c.in_ok-next.next c.in_ok-next.ensures) ∙ loop.invariant.turn;
      fits = pair_fits c.args.config.now (get_or c.args.pairs.now loop.pair-index no_pair) loop.next c.in_ok-next.next loop.invariant.fits c.in_ok-next.ensures;
    }

pub returns-in_err-next : goal.returns-in_err-next
returns-in_err-next c =
    let loop = c.loop-pair in
    pair_stops c.args.pairs.now loop.pair-index no_pair loop.next c.loop-pair-test.true c.from_residual.result c.in_err-next.field-0.0
    (pairs_linked c.args.pairs.now c.args.bundle) c.from_residual.ensures.1 loop.invariant.turn c.in_err-next.ensures
