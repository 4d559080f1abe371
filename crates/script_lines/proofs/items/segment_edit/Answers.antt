use Rattle.std.proofs.Common.{refl}
use Rattle.script_lines.specs.Edits.{segment_edit}
use Rattle.script_lines.proofs.items.segment_edit.Goals as goal

pub returns : goal.returns
unfolding segment_edit
returns c =
    rw (c.in_ok-id.ensures, c.in_ok-start.ensures.number, c.in_ok-dur.ensures.number) refl
