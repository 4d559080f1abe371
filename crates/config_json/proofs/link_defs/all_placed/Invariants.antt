use Rattle.config_json.proofs.Placed.{ArePlaced}
use Rattle.config_json.proofs.link_defs.all_placed.Given as goal

-- the definitions so far
abbrev pub invariant-loop-link : goal.invariant-loop-link
invariant-loop-link l = ArePlaced l.levels l.links l.defs l.link-index
