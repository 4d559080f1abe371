use Rattle.std.proofs.Common.{◌≡◌, ◌≤◌, length, take}
use Rattle.session_core.specs.Undos.{latest_of}
use Rattle.session_core.proofs.kept_acts.find_back.Given as goal

abbrev pub invariant-loop-place : goal.invariant-loop-place
invariant-loop-place l = record {
  within : l.place ≤ length l.list;
  rest : latest_of l.session.0 l.line (take l.place l.list) ≡ latest_of l.session.0 l.line l.list;
}

abbrev pub decreases-loop-place : goal.decreases-loop-place
decreases-loop-place l = l.place
