use Rattle.std.proofs.Common.{◌+◌, ◌*◌}
use Rattle.query_workers.proofs.halves.+cut.Given as goal

-- a part has fewer workers than the whole
abbrev pub decreases-halves : goal.decreases-halves
decreases-halves g l = 2 * l.workers

abbrev pub decreases-left : goal.decreases-left
decreases-left g l = 2 * l.near + 1

abbrev pub decreases-right : goal.decreases-right
decreases-right g l = 2 * l.far + 1
