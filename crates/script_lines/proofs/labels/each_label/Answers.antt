use Rattle.json_view.proofs.Each.{each_stop}
use Rattle.script_lines.proofs.labels.each_label.Goals as goal

-- The first element that is at fault is the fault of the list.
pub returns-in-Err : goal.returns-in-Err
returns-in-Err c =
    each_stop _ _ _ _ _ _ _ c.in_ok-count.ensures.list c.loop-place.invariant c.in_ok-part.ensures.element c.in-Err.ensures
