use Rattle.std.proofs.Common.{◌≡◌, length}
use Rattle.grid_writing.specs.Written.{crowded}
use Rattle.grid_writing.proofs.write.crowded.Given as goal

abbrev pub invariant-loop-rest : goal.invariant-loop-rest
invariant-loop-rest l = crowded l.rest ≡ crowded l.levels

abbrev pub decreases-loop-rest : goal.decreases-loop-rest
decreases-loop-rest l = length l.rest
