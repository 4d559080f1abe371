use Rattle.std.proofs.Common.{true, ◌∙◌, arith}
use Rattle.std.proofs.lemmas.Option.{slice_get_within}
use Rattle.eql_rows.specs.Inner.Flags.{flag_at}
use Rattle.eql_model.specs.Meaning.{single}
use Rattle.eql_model.proofs.Conditions.{singles_step}
use Rattle.eql_match.proofs.Ends.{none_before, none_set, all_set_before}
use Rattle.eql_match.proofs.conjunction.singles_where.Goals as goal

pub returns-in_default : goal.returns-in_default
returns-in_default c = c.new.ensures ∙ none_set (single c.args.marked) c.args.row.now c.in_default.ensures

pub returns-in_default-last : goal.returns-in_default-last
returns-in_default-last c =
    c.new-in_default-last.ensures ∙ none_set (single c.args.marked) c.args.row.now c.in_default-last.ensures

pub overflow_add-at-end : goal.overflow_add-at-end
overflow_add-at-end c =
    let within = slice_get_within c.args.row.now c.in-Some-last.last true c.in-Some-last.ensures.0 in
    let few = c.requires in
    omega arith

pub loop-at-init : goal.loop-at-init
loop-at-init c =
    let within = slice_get_within c.args.row.now c.in-Some.first true c.in-Some.ensures.0 in
    c.from_vec-made.ensures ∙ c.in_ok-with_capacity.ensures.items
    ∙ none_before (single c.args.marked) c.args.row.now c.in-Some.first (omega arith) c.in-Some.ensures.1

pub put_single-requires-clause-row : goal.put_single-requires-clause-row
put_single-requires-clause-row c =
    let within = slice_get_within c.args.row.now c.in-Some-last.last true c.in-Some-last.ensures.0 in
    let before = c.loop-at-test.true in
    omega arith

pub put_single-requires-clause-few : goal.put_single-requires-clause-few
put_single-requires-clause-few c =
    let within = slice_get_within c.args.row.now c.in-Some-last.last true c.in-Some-last.ensures.0 in
    let before = c.loop-at-test.true in
    let few = c.requires in
    omega arith

pub loop-at-preserved : goal.loop-at-preserved
loop-at-preserved c =
    singles_step (single c.args.marked) (λ k. flag_at k c.args.row.now) c.loop-at.at c.loop-at.made _ c.loop-at.invariant
    c.in_ok-put_single.ensures

pub returns : goal.returns
returns c =
    let behind = c.loop-at-test.false in
    c.loop-at.invariant
    ∙ all_set_before (single c.args.marked) c.args.row.now c.in-Some-last.last c.loop-at.at c.in-Some-last.ensures (omega arith)
