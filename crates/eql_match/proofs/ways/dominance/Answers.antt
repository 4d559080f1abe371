use Rattle.std.proofs.Common.{Err, length, ap, sym, ◌∙◌}
use Rattle.std.proofs.lemmas.Bool.{eqb-true}
use Rattle.hier_closure.specs.Dominance.{ids_at}
use Rattle.eql_tuples.specs.Tuples.{left_with}
use Rattle.eql_model.specs.Covers.{one_covers}
use Rattle.eql_match.proofs.Aside.{nothing_left, nothing_right}
use Rattle.eql_match.proofs.Passes.{first_err, second_err, both_put}
use Rattle.eql_match.proofs.ways.dominance.Goals.{then-is_empty-via-then-is_empty, then-is_empty-via-else-is_empty+then-is_empty-2}
use Rattle.eql_match.proofs.ways.dominance.Goals as goal

pub returns-then-is_empty : goal.returns-then-is_empty
returns-then-is_empty c =
    let lefts = ids_at c.args.indexed.now.bundle.levels c.args.levels.0 in
    let rights = ids_at c.args.indexed.now.bundle.levels c.args.levels.1 in
    elim c.then-is_empty.branch [
      | then-is_empty-via-then-is_empty w ↦
          nothing_left (one_covers c.args.indexed.now.bundle.links lefts rights) left_with c.args.lefts.now c.args.rights.now c.new.result c.new.ensures
          (eqb-true (length c.args.lefts.now) 0 (sym c.is_empty.ensures ∙ w.if-is_empty.true))
      | then-is_empty-via-else-is_empty+then-is_empty-2 w ↦
          nothing_right (one_covers c.args.indexed.now.bundle.links lefts rights) left_with c.args.lefts.now c.args.rights.now c.new.result c.new.ensures
          (eqb-true (length c.args.rights.now) 0 (sym w.is_empty-else-is_empty.ensures ∙ w.if-is_empty-2.true))
    ]

pub returns-in-Err : goal.returns-in-Err
returns-in-Err c =
    first_err c.args.indexed.now.bundle c.args.levels c.args.lefts.now c.args.rights.now c.new-gathered.result c.in-Err.fault c.requires.lefts
    c.requires.rights c.new-gathered.ensures (λ e. c.in-Err.ensures.over (ap (λ x. Err x) e))

pub returns-in-Err-put_covered : goal.returns-in-Err-put_covered
returns-in-Err-put_covered c =
    second_err c.args.indexed.now.bundle c.args.levels c.args.lefts.now c.args.rights.now c.new-gathered.result c.put_covering.new.gathered
    c.in-Err-put_covered.fault c.requires.lefts c.requires.rights c.new-gathered.ensures c.in-Ok.ensures.ok
    (λ e. c.in-Err-put_covered.ensures.over (ap (λ x. Err x) e))

pub returns : goal.returns
returns c =
    both_put c.args.indexed.now.bundle c.args.levels c.args.lefts.now c.args.rights.now c.new-gathered.result c.put_covering.new.gathered
    c.put_covered.new.gathered c.listed.result c.requires.lefts c.requires.rights c.new-gathered.ensures c.in-Ok.ensures.ok
    c.in-Ok-put_covered.ensures.ok c.listed.ensures
