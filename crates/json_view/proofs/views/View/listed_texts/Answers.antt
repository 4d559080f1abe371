use Rattle.std.proofs.Common.{◌<◌, length, rules}
use Rattle.json_view.specs.Parts.{list_in}
use Rattle.json_view.specs.Inner.Seen.{seen_at}
use Rattle.json_view.proofs.Each.{each_stop}
use Rattle.json_view.proofs.Elements.{element_listed}
use Rattle.json_view.proofs.views.View.listed_texts.Goals as goal

-- The first element that is no text is the fault of the list.
pub returns-in-Err : goal.returns-in-Err
returns-in-Err c =
    let within : c.loop-place.place < length (list_in (seen_at c.args.self.now).value) = search rules in
    let here =
    element_listed c.loop-place.place (seen_at c.args.self.now) c.listed.result.now c.index-listed-place.result c.listed.ensures within c.index-listed-place.is
    in
    each_stop _ _ _ _ _ _ _ c.in_ok-count.ensures.list c.loop-place.invariant here c.in-Err.ensures
