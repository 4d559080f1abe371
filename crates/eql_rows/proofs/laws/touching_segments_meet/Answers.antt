use Rattle.eql_rows.proofs.Touching.{segments_meet}
use Rattle.eql_rows.proofs.laws.touching_segments_meet.Goals as goal

pub returns : goal.returns
returns c = segments_meet
