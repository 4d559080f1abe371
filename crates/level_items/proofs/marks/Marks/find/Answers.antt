use Rattle.std.proofs.Common.{rules, ◌≡◌, false, sym, ◌∙◌}
use Rattle.std.specs.Arc.{arc_value}
use Rattle.level_items.specs.Inner.Marked.{is_id_of, is_marked}
use Rattle.level_items.proofs.Found.{absent}
use Rattle.level_items.proofs.marks.Marks.find.Goals as goal

-- there is a map, and it has no mark of this id
pub returns-in_err-mark-in-Some : goal.returns-in_err-mark-in-Some
returns-in_err-mark-in-Some c =
    let id = c.args.id.0 in
    let none : is_marked (arc_value c.in-Some.map) id ≡ false = search rules in
    let same : is_marked (arc_value c.in-Some.map) id ≡ is_id_of c.args.items.now id = search rules in
    c.from_residual.ensures ∙ absent c.args.items.now id (sym same ∙ none)
