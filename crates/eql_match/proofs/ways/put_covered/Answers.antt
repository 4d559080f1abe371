use Rattle.std.proofs.Common.{◌≡◌, List, true, sym, ap, subst, ◌∙◌}
use Rattle.db_config.specs.Above.{is_above}
use Rattle.bundle_state.specs.Valid.{KeepsBundleRules}
use Rattle.eql_tuples.specs.declared.tuple.Tuple.{Tuple}
use Rattle.eql_tuples.specs.Sets.{put_all, is_over}
use Rattle.eql_match.proofs.Passes.{others_fit, covered_is}
use Rattle.eql_match.proofs.Aside.{covered_kept}
use Rattle.eql_match.proofs.ways.put_covered.Goals as goal

pub put_pairs-requires-clause-others : goal.put_pairs-requires-clause-others
put_pairs-requires-clause-others c =
    others_fit c.args.indexed.now.bundle c.args.levels.0 c.args.levels.1 c.in-Ok.rows c.args.lefts.now c.in-Ok.ensures c.requires.lefts

pub returns-in-Ok-clause-over : goal.returns-in-Ok-clause-over
returns-in-Ok-clause-over c = λ told.
    subst (λ (ps : List Tuple). is_over (put_all c.args.gathered.now ps) ≡ true)
    (covered_is c.args.indexed.now.bundle c.args.levels c.in-Ok.rows c.args.lefts.now c.args.rights.now c.in-Ok.ensures)
    (c.put_pairs.ensures.over told)

pub returns-then-not-is_above-clause-ok : goal.returns-then-not-is_above-clause-ok
returns-then-not-is_above-clause-ok c =
    covered_kept c.args.indexed.now.bundle c.args.levels c.args.lefts.now c.args.rights.now c.args.gathered.now
    (subst KeepsBundleRules c.bundle.ensures c.item_count-items.ensures.rules)
    (ap (λ defs. is_above defs c.args.levels.1 c.args.levels.0) c.requires.fits.definitions
    ∙ (sym c.is_above.ensures ∙ c.if-not-is_above.true))
    c.requires.lefts
