-- How the logic stores a prepared and an asked query.
use Rattle.std.specs.Prelude.{◌≡◌, ℕ, Bool, true, false, List, [], ◌∷◌, ◌⊎◌, Option, refl}
use Rattle.std.proofs.Common.{inl, inr, ◌∙◌, ap}
use Rattle.std.specs.Coded.{Coded, code_by, coded×, coded⊎, coded_ℕ, coded_bool, coded_list, coded_option}
use Rattle.db_config.specs.declared.parts.AttributePlace.{AttributePlace}
use Rattle.db_config.specs.contracts.parts.AttributePlace as place
use Rattle.eql_syntax.specs.declared.query.Term.{Term}
use Rattle.eql_syntax.specs.contracts.query.Term as term
use Rattle.eql_syntax.specs.Tree.{Tree, Conjunction, Sequence, Dominance}
use Rattle.eql_syntax.specs.declared.query.Op.{Op}
use Rattle.eql_syntax.specs.contracts.query.Op as op
use Rattle.eql_syntax.specs.declared.query.Compare.{Compare}
use Rattle.eql_syntax.specs.contracts.query.Compare as compare
use Rattle.eql_syntax.specs.declared.query.Place.{Place}
use Rattle.eql_syntax.specs.contracts.query.Place as side
use Rattle.eql_resolve.specs.Prepared.{PreparedParts}
use Rattle.eql_resolve.specs.Asked.{AskedTerm, test, position, number, AskedQuery, terms, sequence, dominance, AskedParts}

-- a query from its left, the operator behind its operands
abbrev pub tree_pieces : Tree → List (List Term ⊎ Bool) → List (List Term ⊎ Bool)
tree_pieces (Conjunction all) rest = inl all ∷ rest
tree_pieces (Sequence left right) rest = tree_pieces left (tree_pieces right (inr true ∷ rest))
tree_pieces (Dominance left right) rest = tree_pieces left (tree_pieces right (inr false ∷ rest))

-- the trees behind one piece more, the last one first
abbrev pub tree_step : List Tree → List Term ⊎ Bool → List Tree
tree_step trees (inl all) = Conjunction all ∷ trees
tree_step (right ∷ left ∷ trees) (inr true) = Sequence left right ∷ trees
tree_step (right ∷ left ∷ trees) (inr false) = Dominance left right ∷ trees
tree_step trees (inr which) = []

abbrev pub trees_of : List Tree → List (List Term ⊎ Bool) → List Tree
trees_of trees [] = trees
trees_of trees (piece ∷ rest) = trees_of (tree_step trees piece) rest

pub trees_back : (q : Tree) (trees : List Tree) (rest : List (List Term ⊎ Bool))
    → trees_of trees (tree_pieces q rest) ≡ trees_of (q ∷ trees) rest
trees_back (Conjunction all) trees rest = refl
trees_back (Sequence left right) trees rest = trees_back left trees _ ∙ trees_back right (left ∷ trees) _
trees_back (Dominance left right) trees rest = trees_back left trees _ ∙ trees_back right (left ∷ trees) _

abbrev pub first_tree : List Tree → Tree
first_tree [] = Conjunction []
first_tree (q ∷ trees) = q

abbrev pub tree_code : Coded Tree
tree_code =
    code_by (List (List Term ⊎ Bool)) (coded_list (coded⊎ (coded_list term.the_row.coded) coded_bool))
    (λ q. tree_pieces q []) (λ pieces. first_tree (trees_of [] pieces)) (λ q. ap first_tree (trees_back q [] []))

abbrev pub prepared_code : Coded PreparedParts
prepared_code =
    code_by (Tree × List (List ℕ)) (coded× tree_code (coded_list (coded_list coded_ℕ))) (λ p. (p.query, p.patterns))
    (λ p. record { query = p.0; patterns = p.1 }) (λ _. refl)

-- ---- the same for an asked query

abbrev pub Test : Type 0
Test = Bool × (AttributePlace × (Op × List (List ℕ)))

abbrev pub Position : Type 0
Position = Bool × (Place × (ℕ × (AttributePlace × Bool)))

abbrev pub Number : Type 0
Number = Bool × (AttributePlace × (ℕ × (Compare × ℕ)))

abbrev pub term_parts : AskedTerm → Test ⊎ (Position ⊎ Number)
term_parts (test marked place op labels) = inl (marked, (place, (op, labels)))
term_parts (position marked place upper lower wanted) =
    inr (inl (marked, (place, (upper, (lower, wanted)))))
term_parts (number marked upper lower compare count) =
    inr (inr (marked, (upper, (lower, (compare, count)))))

abbrev pub term_from : Test ⊎ (Position ⊎ Number) → AskedTerm
term_from (inl t) = test t.0 t.1.0 t.1.1.0 t.1.1.1
term_from (inr (inl p)) = position p.0 p.1.0 p.1.1.0 p.1.1.1.0 p.1.1.1.1
term_from (inr (inr n)) = number n.0 n.1.0 n.1.1.0 n.1.1.1.0 n.1.1.1.1

pub term_back : (t : AskedTerm) → term_from (term_parts t) ≡ t
term_back (test marked place op labels) = refl
term_back (position marked place upper lower wanted) = refl
term_back (number marked upper lower compare count) = refl

abbrev pub test_code : Coded Test
test_code =
    coded× coded_bool (coded× place.the_row.coded (coded× op.the_row.coded (coded_list (coded_list coded_ℕ))))

abbrev pub position_code : Coded Position
position_code =
    coded× coded_bool (coded× side.the_row.coded (coded× coded_ℕ (coded× place.the_row.coded coded_bool)))

abbrev pub number_code : Coded Number
number_code =
    coded× coded_bool (coded× place.the_row.coded (coded× coded_ℕ (coded× compare.the_row.coded coded_ℕ)))

abbrev pub term_code : Coded AskedTerm
term_code =
    code_by (Test ⊎ (Position ⊎ Number)) (coded⊎ test_code (coded⊎ position_code number_code))
    term_parts term_from term_back

abbrev pub query_pieces : AskedQuery → List (List AskedTerm ⊎ Bool) → List (List AskedTerm ⊎ Bool)
query_pieces (terms ts) rest = inl ts ∷ rest
query_pieces (sequence left right) rest = query_pieces left (query_pieces right (inr true ∷ rest))
query_pieces (dominance left right) rest = query_pieces left (query_pieces right (inr false ∷ rest))

abbrev pub query_step : List AskedQuery → List AskedTerm ⊎ Bool → List AskedQuery
query_step queries (inl ts) = terms ts ∷ queries
query_step (right ∷ left ∷ queries) (inr true) = sequence left right ∷ queries
query_step (right ∷ left ∷ queries) (inr false) = dominance left right ∷ queries
query_step queries (inr which) = []

abbrev pub queries_of : List AskedQuery → List (List AskedTerm ⊎ Bool) → List AskedQuery
queries_of queries [] = queries
queries_of queries (piece ∷ rest) = queries_of (query_step queries piece) rest

pub queries_back : (q : AskedQuery) (queries : List AskedQuery) (rest : List (List AskedTerm ⊎ Bool))
    → queries_of queries (query_pieces q rest) ≡ queries_of (q ∷ queries) rest
queries_back (terms ts) queries rest = refl
queries_back (sequence left right) queries rest =
    queries_back left queries _ ∙ queries_back right (left ∷ queries) _
queries_back (dominance left right) queries rest =
    queries_back left queries _ ∙ queries_back right (left ∷ queries) _

abbrev pub first_query : List AskedQuery → AskedQuery
first_query [] = terms []
first_query (q ∷ queries) = q

abbrev pub query_code : Coded AskedQuery
query_code =
    code_by (List (List AskedTerm ⊎ Bool)) (coded_list (coded⊎ (coded_list term_code) coded_bool))
    (λ q. query_pieces q []) (λ pieces. first_query (queries_of [] pieces))
    (λ q. ap first_query (queries_back q [] []))

abbrev pub asked_code : Coded AskedParts
asked_code =
    code_by (AskedQuery × Option ℕ) (coded× query_code (coded_option coded_ℕ)) (λ a. (a.query, a.time))
    (λ p. record { query = p.0; time = p.1 }) (λ _. refl)
