use Rattle.std.proofs.Common.{◌≡◌, map, take}
use Rattle.eql_resolve.specs.Inner.View.{term_in}
use Rattle.eql_model.specs.Inner.Meaning.{met_row}
use Rattle.eql_model.proofs.conjunction.met_rows.Given as goal

-- the rows of the conditions so far
abbrev pub invariant-loop-term : goal.invariant-loop-term
invariant-loop-term l = l.rows ≡ map (λ t. met_row l.config l.bundle l.level (term_in t)) (take l.term-index l.terms)
