use Rattle.std.proofs.Common.{ap, ◌∙◌, ◌&&◌, length, sym}
use Rattle.std.proofs.lemmas.List.{length-map}
use Rattle.std.specs.Simd.Lanes.{zip2}
use Rattle.eql_resolve.specs.Inner.View.{term_in}
use Rattle.eql_model.specs.Meaning.{meets}
use Rattle.level_items.specs.Levels.{items_at}
use Rattle.eql_columns.proofs.Tests.{met_at, unset_at}
use Rattle.eql_columns.proofs.conditions.clear_others.Goals as goal

pub set_term_bits-requires-clause-unset : goal.set_term_bits-requires-clause-unset
set_term_bits-requires-clause-unset c =
    unset_at c.args.indexed.now.bundle c.args.level (term_in c.args.term.now) c.len.result c.in_ok-row.row c.requires.term.1 c.in_ok-row.ensures
    (c.len.ensures ∙ c.requires.long)

pub and_into-requires : goal.and_into-requires
and_into-requires c =
    c.requires.long
    ∙ sym (ap length (met_at c.args.config.now c.args.indexed.now.bundle c.args.level (term_in c.args.term.now) c.set_term_bits.new.row
    c.requires.term.1 c.in_ok-set_term_bits.ensures)
    ∙ length-map (items_at c.args.indexed.now.bundle.levels c.args.level) (meets c.args.config.now c.args.indexed.now.bundle (term_in c.args.term.now)))

pub returns : goal.returns
returns c =
    c.and_into.ensures
    ∙ ap (zip2 (λ a b. a && b) c.args.met.now)
    (met_at c.args.config.now c.args.indexed.now.bundle c.args.level (term_in c.args.term.now) c.set_term_bits.new.row c.requires.term.1
    c.in_ok-set_term_bits.ensures)
