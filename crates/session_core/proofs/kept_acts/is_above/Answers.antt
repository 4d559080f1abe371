use Rattle.session_core.proofs.Rising.{all_below}
use Rattle.session_core.proofs.kept_acts.is_above.Goals as goal

pub returns-in-Some : goal.returns-in-Some
returns-in-Some c = all_below c.args.list.now c.args.line c.in-Some.last.now c.requires c.in-Some.ensures.item.3.0 c.in-Some.ensures.item.3.1
