use Rattle.std.proofs.Common.{◌≡◌, ◌∙◌, ap, sym, subst, true}
use Rattle.std.proofs.lemmas.Bool.{and_parts}
use Rattle.hier_closure.specs.Inner.Ranks.{AreMadeTo, is_between}
use Rattle.db_config.specs.Above.{is_above}
use Rattle.hier_closure.proofs.Tables.{is_apart, rank_in, rank_is, made_skip, made_below, lies_between}
use Rattle.hier_closure.proofs.levels.add_level.Goals as goal

pub returns-then-not-is_between-clause-made : goal.returns-then-not-is_between-clause-made
returns-then-not-is_between-clause-made c =
    made_skip c.args.bundle.now c.args.between.0 c.args.between.1 c.args.rank c.args.level c.args.table.now.items c.requires.made
    (λ up down same.
    let both : is_between c.args.bundle.now.definitions c.args.between.0 c.args.between.1 c.args.level ≡ true =
    lies_between c.args.bundle.now.definitions c.args.between.0 c.args.between.1 c.args.level up down in
    is_apart (sym both
    ∙ (ap (λ defs. is_between defs c.args.between.0 c.args.between.1 c.args.level) c.requires.under.fits.definitions
    ∙ (sym c.is_between.ensures ∙ c.if-not-is_between.true))))

pub returns-then-rank_of-rank-clause-made : goal.returns-then-rank_of-rank-clause-made
returns-then-rank_of-rank-clause-made c =
    made_skip c.args.bundle.now c.args.between.0 c.args.between.1 c.args.rank c.args.level c.args.table.now.items c.requires.made
    (λ up down same. c.if-rank_of-rank.true (c.rank_of.ensures ∙ rank_is c.args.config.now c.args.bundle.now c.args.level c.requires.under.fits ∙ same))

pub level_closure-requires-clause-made : goal.level_closure-requires-clause-made
level_closure-requires-clause-made c =
    let own : rank_in c.args.bundle.now c.args.level ≡ c.args.rank =
    sym (c.rank_of.ensures ∙ rank_is c.args.config.now c.args.bundle.now c.args.level c.requires.under.fits) ∙ c.if-rank_of-rank.false in
    let both : is_between c.args.config.now.links c.args.between.0 c.args.between.1 c.args.level ≡ true = sym c.is_between.ensures ∙ c.if-not-is_between.false in
    let up : is_above c.args.bundle.now.definitions c.args.between.0 c.args.level ≡ true =
    ap (λ defs. is_above defs c.args.between.0 c.args.level) c.requires.under.fits.definitions ∙ (and_parts _ _ both).0 in
    made_below c.args.config.now c.args.bundle.now c.args.between.0 c.args.between.1 c.args.rank c.args.level c.as_slice.result.now c.requires.under
    (subst (λ table. AreMadeTo c.args.bundle.now c.args.between.0 c.args.between.1 c.args.rank c.args.level table) (sym c.as_slice.ensures.value) c.requires.made)
    own up
