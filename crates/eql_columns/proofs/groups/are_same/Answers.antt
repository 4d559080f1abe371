use Rattle.std.proofs.Common.{arith}
use Rattle.eql_columns.proofs.Tests.{same_lists}
use Rattle.eql_columns.proofs.groups.are_same.Goals as goal

pub returns : goal.returns
returns c = λ yes. same_lists c.args.one.now c.args.other.now c.loop-at.at (omega arith) (omega arith) c.loop-at.invariant
