use Rattle.std.proofs.Common.{◌++◌, ℕ, List, ap, ◌∙◌, arith, append-nil, codes, decimal}
use Rattle.segment_list.specs.Inner.Pieces.{number_or_null}
use Rattle.segment_list.proofs.print.sample_numbers.Goals as goal

pub put-requires-clause-room : goal.put-requires-clause-room
put-requires-clause-room c = omega (arith, c.new-out.ensures.room, c.put_or_null.ensures.room)

pub put_number-requires : goal.put_number-requires
put_number-requires c = omega (arith, c.new-out.ensures.room, c.put_or_null.ensures.room, c.put.ensures.room)

pub put-requires-2-clause-room : goal.put-requires-2-clause-room
put-requires-2-clause-room c =
    omega (arith, c.new-out.ensures.room, c.put_or_null.ensures.room, c.put.ensures.room, c.put_number.ensures.room)

pub put_or_null-requires-2 : goal.put_or_null-requires-2
put_or_null-requires-2 c =
    omega (
      arith,
      c.new-out.ensures.room,
      c.put_or_null.ensures.room,
      c.put.ensures.room,
      c.put_number.ensures.room,
      c.put-2.ensures.room,
    )

pub returns : goal.returns
returns c =
    let m = c.args.row.now in
    let first = c.put_or_null.ensures.text ∙ ap (λ (t : List ℕ). number_or_null m.sample_start ++ t) c.new-out.ensures.text
    ∙ append-nil (number_or_null m.sample_start) in
    c.put_or_null-2.ensures.text ∙ ap (λ (t : List ℕ). number_or_null m.sample_end ++ t) (
    c.put-2.ensures.text ∙ ap (λ (t : List ℕ). codes ",\"sampleRate\":" ++ t) (
    c.put_number.ensures.text ∙ ap (λ (t : List ℕ). decimal m.rate ++ t) (
    c.put.ensures.text ∙ ap (λ (t : List ℕ). codes ",\"sampleStart\":" ++ t) first)))
