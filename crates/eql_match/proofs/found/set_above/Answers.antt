use Rattle.std.proofs.Common.{◌&&◌, length, ap, sym, ◌∙◌, arith}
use Rattle.eql_rows.specs.Inner.Flags.{flag_at}
use Rattle.eql_match.specs.Inner.Found.{is_above_some}
use Rattle.eql_rows.proofs.Walk.{next_flag, no_flag}
use Rattle.eql_match.proofs.Steps.{and_clear, asked_none, asked_more, asked_all, meets_some, row_long}
use Rattle.eql_match.proofs.found.set_above.Goals as goal

pub loop-at-init : goal.loop-at-init
loop-at-init c = record {
  within = omega arith;
  asked = asked_none (λ k. flag_at k c.args.lefts.now && is_above_some c.args.rows.now c.args.rights.now k) (length c.args.lefts.now)
      c.args.made.now c.requires.unset;
}

pub meets-bit-requires : goal.meets-bit-requires
meets-bit-requires c = row_long c.args.rows.now c.in-Some.at c.row.result.now (length c.args.rights.now) c.requires.wide c.row.ensures

pub loop-at-preserved : goal.loop-at-preserved
loop-at-preserved c =
    let next = next_flag c.args.lefts.now c.loop-at.from c.in-Some.at c.in-Some.ensures in
    let here = next.within in
    let long = row_long c.args.rows.now c.in-Some.at c.row.result.now (length c.args.rights.now) c.requires.wide c.row.ensures in
    record {
      within = omega arith;
      asked = asked_more (λ k. flag_at k c.args.lefts.now && is_above_some c.args.rows.now c.args.rights.now k) (length c.args.lefts.now)
          c.loop-at.from c.in-Some.at c.loop-at.made c.set.new.self c.meets-bit.result c.loop-at.invariant.asked next.order here
          (λ i low high. and_clear (flag_at i c.args.lefts.now) (is_above_some c.args.rows.now c.args.rights.now i) (next.clear i low high))
          (c.meets-bit.ensures ∙ meets_some c.args.rows.now c.row.result.now c.args.rights.now c.in-Some.at c.row.ensures long
          ∙ ap (λ b. b && is_above_some c.args.rows.now c.args.rights.now c.in-Some.at) (sym next.set))
          c.set.ensures;
    }

pub overflow_add-from : goal.overflow_add-from
overflow_add-from c =
    let next = next_flag c.args.lefts.now c.loop-at.from c.in-Some.at c.in-Some.ensures in
    let here = next.within in
    let few = c.requires.few in
    omega arith

pub row-requires : goal.row-requires
row-requires c =
    let next = next_flag c.args.lefts.now c.loop-at.from c.in-Some.at c.in-Some.ensures in
    let here = next.within in
    let count = c.requires.rows in
    omega arith

pub loop-at-smaller : goal.loop-at-smaller
loop-at-smaller c =
    let next = next_flag c.args.lefts.now c.loop-at.from c.in-Some.at c.in-Some.ensures in
    let here = next.within in
    let order = next.order in
    omega arith

pub returns : goal.returns
returns c =
    asked_all (λ k. flag_at k c.args.lefts.now && is_above_some c.args.rows.now c.args.rights.now k) (length c.args.lefts.now) c.loop-at.from
    c.loop-at.made c.loop-at.invariant.asked
    (λ i low high. and_clear (flag_at i c.args.lefts.now) (is_above_some c.args.rows.now c.args.rights.now i)
    (no_flag c.args.lefts.now c.loop-at.from c.in_default.ensures i low high))
