use Rattle.std.proofs.Common.{false, ap, ◌∙◌}
use Rattle.std.specs.Prelude.{replicate}
use Rattle.eql_resolve.specs.Inner.View.{term_in}
use Rattle.eql_columns.proofs.Tests.{met_at}
use Rattle.eql_columns.proofs.conditions.met_row.Goals as goal

pub set_term_bits-requires-clause-unset : goal.set_term_bits-requires-clause-unset
set_term_bits-requires-clause-unset c = c.in_ok-row.ensures ∙ ap (λ n. replicate n false) c.item_count.ensures

pub returns : goal.returns
returns c =
    met_at c.args.config.now c.args.indexed.now.bundle c.args.level (term_in c.args.term.now) c.set_term_bits.new.row c.requires.term.1
    c.in_ok-set_term_bits.ensures
