use Rattle.eql_laws.proofs.Checkable.{numbers}
use Rattle.eql_laws.proofs.laws.numbers_compare.Goals as goal

pub returns : goal.returns
returns c = numbers
