use Rattle.std.proofs.Common.{◌++◌, ℕ, List, ap, ◌∙◌, arith, codes, decimal}
use Rattle.segment_list.specs.Inner.Pieces.{number_or_null}
use Rattle.segment_list.proofs.print.start_numbers.Goals as goal

pub put-requires-2-clause-room : goal.put-requires-2-clause-room
put-requires-2-clause-room c = omega (arith, c.new-out.ensures.room, c.put.ensures.room, c.put_number.ensures.room)

pub put_number-requires-2 : goal.put_number-requires-2
put_number-requires-2 c =
    omega (arith, c.new-out.ensures.room, c.put.ensures.room, c.put_number.ensures.room, c.put-2.ensures.room)

pub put-requires-3-clause-room : goal.put-requires-3-clause-room
put-requires-3-clause-room c =
    omega (
      arith,
      c.new-out.ensures.room,
      c.put.ensures.room,
      c.put_number.ensures.room,
      c.put-2.ensures.room,
      c.put_number-2.ensures.room,
    )

pub put_or_null-requires : goal.put_or_null-requires
put_or_null-requires c =
    omega (
      arith,
      c.new-out.ensures.room,
      c.put.ensures.room,
      c.put_number.ensures.room,
      c.put-2.ensures.room,
      c.put_number-2.ensures.room,
      c.put-3.ensures.room,
    )

pub returns : goal.returns
returns c =
    let m = c.args.row.now in
    c.put_or_null.ensures.text ∙ ap (λ (t : List ℕ). number_or_null m.start ++ t) (
    c.put-3.ensures.text ∙ ap (λ (t : List ℕ). codes ",\"startItem\":" ++ t) (
    c.put_number-2.ensures.text ∙ ap (λ (t : List ℕ). decimal m.start_item.0 ++ t) (
    c.put-2.ensures.text ∙ ap (λ (t : List ℕ). codes ",\"startPos\":" ++ t) (
    c.put_number.ensures.text ∙ ap (λ (t : List ℕ). decimal m.start_pos ++ t) (
    c.put.ensures.text ∙ ap (λ (t : List ℕ). codes "}" ++ t) c.new-out.ensures.text)))))
