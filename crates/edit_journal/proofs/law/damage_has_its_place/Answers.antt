use Rattle.edit_journal.proofs.Written.{bodies_broken}
use Rattle.edit_journal.proofs.law.damage_has_its_place.Goals as goal

pub returns : goal.returns
returns c = bodies_broken
