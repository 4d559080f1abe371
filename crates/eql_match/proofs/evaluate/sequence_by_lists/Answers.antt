use Rattle.eql_resolve.specs.Inner.View.{query_in}
use Rattle.eql_match.proofs.FoundBy.{sequence_of_lists, sequence_over}
use Rattle.eql_match.proofs.Order.{found_rise}
use Rattle.eql_match.proofs.evaluate.sequence_by_lists.Goals as goal

pub sequence-requires : goal.sequence-requires
sequence-requires c =
    found_rise c.args.config.now c.args.indexed.now.bundle (query_in c.args.right.now) c.args.rights.now c.requires.rights.0

pub returns-in-Ok : goal.returns-in-Ok
returns-in-Ok c =
    sequence_of_lists c.args.config.now c.args.indexed.now.bundle (query_in c.args.left.now) (query_in c.args.right.now)
    c.args.lefts.now c.args.rights.now c.in-Ok.made c.requires.lefts c.requires.rights c.in-Ok.ensures

pub returns-in-Err : goal.returns-in-Err
returns-in-Err c =
    sequence_over c.args.config.now c.args.indexed.now.bundle (query_in c.args.left.now) (query_in c.args.right.now)
    c.args.lefts.now c.args.rights.now c.in-Err.fault c.requires.lefts c.requires.rights c.in-Err.ensures
