-- Words of contracts and loops beside `specs/Tree.antt`; no promise of the program rests on them.
use Rattle.eql_syntax.specs.declared.query.Query.{Query, Terms, Sequence', Dominance'}
use Rattle.eql_syntax.specs.Tree.{Conjunction, Dominance, Sequence, Tree}

-- the query that the one in the program's memory is
abbrev pub tree_of : Query → Tree
tree_of (Terms terms) = Conjunction terms
tree_of (Sequence' p left q right) = Sequence (tree_of left) (tree_of right)
tree_of (Dominance' p left q right) = Dominance (tree_of left) (tree_of right)
