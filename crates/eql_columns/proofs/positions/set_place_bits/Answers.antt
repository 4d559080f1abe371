use Rattle.std.proofs.Common.{◌≡◌, ℕ, Bool, length, sym, subst, ap, ◌∙◌}
use Rattle.std.specs.Prelude.{All}
use Rattle.eql_columns.specs.Inner.Places.{PassPlace}
use Rattle.eql_columns.specs.Inner.Rows.{any_bits}
use Rattle.eql_columns.proofs.Bits.{any_long}
use Rattle.eql_columns.proofs.Standing.{others_long, place_false}
use Rattle.eql_columns.proofs.positions.set_place_bits.Goals as goal

pub returns-then-wanted : goal.returns-then-wanted
returns-then-wanted c =
    subst (λ (w : Bool). PassPlace c.args.place w c.args.rows.now (length c.args.passed.now) c.set_placed.new.placed) (sym c.if-wanted.true)
    c.in_ok-set_placed.ensures

pub bits_below-requires-clause-wide : goal.bits_below-requires-clause-wide
bits_below-requires-clause-wide c =
    subst (λ (n : ℕ). All (λ row. length row ≡ n) c.args.rows.now)
    (sym (c.len.ensures ∙ others_long c.args.place c.args.rows.now (length c.args.passed.now) c.set_placed.new.placed c.turn.new.row
    c.in_ok-set_placed.ensures c.turn.ensures))
    c.requires.wide

pub and_into-requires : goal.and_into-requires
and_into-requires c =
    sym (ap length c.in_ok-below.ensures ∙ any_long c.len.result c.args.rows.now ∙ c.len.ensures)

pub returns : goal.returns
returns c =
    let long = others_long c.args.place c.args.rows.now (length c.args.passed.now) c.set_placed.new.placed c.turn.new.row
    c.in_ok-set_placed.ensures c.turn.ensures in
    subst (λ (w : Bool). PassPlace c.args.place w c.args.rows.now (length c.args.passed.now) c.and_into.new.into) (sym c.if-wanted.false)
    (place_false c.args.place c.args.rows.now (length c.args.passed.now) c.set_placed.new.placed c.turn.new.row c.in_ok-below.below
    c.and_into.new.into c.in_ok-set_placed.ensures c.turn.ensures
    (c.in_ok-below.ensures ∙ ap (λ n. any_bits n c.args.rows.now) (c.len.ensures ∙ long)) c.and_into.ensures)
