use Rattle.std.proofs.Common.{◌≡◌, ℕ, List, Option, None, ◌∙◌, ap, arith, map, replicate, subst, sym}
use Rattle.std.specs.Option.{option_map}
use Rattle.live_seats.specs.Inner.Notes.{Note, noted_of}
use Rattle.live_seats.specs.Inner.Tables.{AreInPlace}
use Rattle.live_seats.proofs.Telling.{in_place_none, mapped_none}
use Rattle.live_seats.proofs.table.Table.new.Goals as goal

pub invariant_of-result : goal.invariant_of-result
invariant_of-result g c = subst (λ (l : List (Option Note)). AreInPlace 0 l) (sym c.loop-cell.invariant) (in_place_none 0 c.loop-cell._cell)

pub returns : goal.returns
returns g c =
    let all : c.loop-cell._cell ≡ c.args.cells = omega (arith, c.loop-cell-test.false, c.loop-cell.auto._cell-end) in
    ap (λ (l : List (Option Note)). map (option_map noted_of) l) c.loop-cell.invariant
    ∙ mapped_none c.loop-cell._cell
    ∙ ap (λ (n : ℕ). replicate n None) all
