use Rattle.std.proofs.Common.{length, ap, sym, ◌∙◌, ◌&&◌, arith}
use Rattle.eql_rows.specs.Inner.Flags.{flag_at}
use Rattle.eql_model.specs.Inner.Joins.{bit_at}
use Rattle.eql_rows.proofs.Walk.{next_flag}
use Rattle.eql_match.proofs.Steps.{below_none, below_step, below_end, made_long, row_long}
use Rattle.eql_match.proofs.found.add_below.Goals as goal

pub loop-at-init : goal.loop-at-init
loop-at-init c = record {
  within = omega arith;
  made = below_none (λ k j. flag_at j c.args.rights.now && bit_at c.args.rows.now j k) (length c.args.lefts.now) c.args.made.now
      c.requires.long;
}

pub loop-at-preserved : goal.loop-at-preserved
loop-at-preserved c =
    let next = next_flag c.args.rights.now c.loop-at.from c.in-Some.at c.in-Some.ensures in
    let here = next.within in
    record {
      within = omega arith;
      made = below_step c.args.rows.now c.args.rights.now c.row.result.now c.args.made.now c.loop-at.made c.join_into.new.into
          (length c.args.lefts.now) c.loop-at.from c.in-Some.at next c.row.ensures
          (row_long c.args.rows.now c.in-Some.at c.row.result.now (length c.args.lefts.now) c.requires.wide c.row.ensures)
          c.loop-at.invariant.made c.join_into.ensures;
    }

pub overflow_add-from : goal.overflow_add-from
overflow_add-from c =
    let next = next_flag c.args.rights.now c.loop-at.from c.in-Some.at c.in-Some.ensures in
    let here = next.within in
    let few = c.requires.few in
    omega arith

pub row-requires : goal.row-requires
row-requires c =
    let next = next_flag c.args.rights.now c.loop-at.from c.in-Some.at c.in-Some.ensures in
    let here = next.within in
    let count = c.requires.rows in
    omega arith

pub loop-at-smaller : goal.loop-at-smaller
loop-at-smaller c =
    let next = next_flag c.args.rights.now c.loop-at.from c.in-Some.at c.in-Some.ensures in
    let here = next.within in
    let order = next.order in
    omega arith

pub join_into-requires : goal.join_into-requires
join_into-requires c =
    ap length c.loop-at.invariant.made
    ∙ made_long c.args.rows.now c.args.rights.now c.args.made.now c.loop-at.from (length c.args.lefts.now)
    ∙ sym (row_long c.args.rows.now c.in-Some.at c.row.result.now (length c.args.lefts.now) c.requires.wide c.row.ensures)

pub and_into-requires : goal.and_into-requires
and_into-requires c =
    ap length c.loop-at.invariant.made ∙ made_long c.args.rows.now c.args.rights.now c.args.made.now c.loop-at.from (length c.args.lefts.now)

pub returns : goal.returns
returns c =
    below_end c.args.rows.now c.args.lefts.now c.args.rights.now c.args.made.now c.loop-at.made c.and_into.new.into c.loop-at.from c.in_default.ensures
    c.loop-at.invariant.within c.loop-at.invariant.made c.and_into.ensures
