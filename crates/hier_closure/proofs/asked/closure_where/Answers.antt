use Rattle.hier_closure.specs.Dominance.{closure_of}
use Rattle.hier_closure.proofs.Agree.{agree_as, agree_copy}
use Rattle.hier_closure.proofs.asked.closure_where.Goals as goal

pub returns : goal.returns
returns c =
    agree_as c.args.asked.now (closure_of c.args.bundle.now c.args.lower c.args.level) _ c.of.result c.of.ensures c.in_ok-rows.ensures

pub returns-in-Some : goal.returns-in-Some
returns-in-Some c =
    agree_copy c.args.asked.now (closure_of c.args.bundle.now c.args.lower c.args.level) _ c.copy.result c.copy.ensures
    (c.in-Some.ensures c.args.bundle.now c.requires.under.fits c.requires.kept)
