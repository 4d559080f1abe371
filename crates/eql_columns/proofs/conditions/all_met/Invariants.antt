use Rattle.std.proofs.Common.{◌≡◌, length, map, take}
use Rattle.eql_resolve.specs.Inner.View.{term_in}
use Rattle.level_items.specs.Levels.{items_at}
use Rattle.eql_model.specs.Inner.Meaning.{met_row}
use Rattle.eql_columns.specs.Inner.Rows.{all_bits}
use Rattle.eql_columns.proofs.conditions.all_met.Given as goal

-- the items that meet the conditions so far
abbrev pub invariant-loop-at : goal.invariant-loop-at
invariant-loop-at l =
    l.met ≡ all_bits (length (items_at l.indexed.bundle.levels l.level))
    (take l.at (map (λ t. met_row l.config l.indexed.bundle l.level (term_in t)) l.terms))
