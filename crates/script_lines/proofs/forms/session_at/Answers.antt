use Rattle.std.proofs.Common.{◌≤◌, arith}
use Rattle.script_lines.proofs.Members.{session_there}
use Rattle.script_lines.proofs.forms.session_at.Goals as goal

-- The number of a session is 1 or more.
pub returns : goal.returns
returns c =
    let least : 1 ≤ c.in_ok-number.number = omega (arith, c.if-number-lt1.false) in
    session_there _ _ c.in_ok-number.ensures.number least
