-- What a query says.
use Rattle.std.specs.Prelude.{List}
use Rattle.eql_syntax.specs.declared.query.Term.{Term}

-- a query without its boxes: conditions, or two queries in a sequence or a dominance
pub data Tree : Type 0 where
  Conjunction : List Term → Tree
  Sequence : Tree → Tree → Tree
  Dominance : Tree → Tree → Tree
