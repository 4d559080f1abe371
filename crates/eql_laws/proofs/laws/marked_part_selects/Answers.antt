use Rattle.eql_laws.proofs.Parts.{marked_selects}
use Rattle.eql_laws.proofs.laws.marked_part_selects.Goals as goal

pub returns : goal.returns
returns c = marked_selects
