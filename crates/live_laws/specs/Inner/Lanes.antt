-- Words of contracts and loops beside `specs/Lanes.antt`; no promise of the program rests on them.
use Rattle.std.specs.Prelude.{ℕ, Option}
use mathlib.Core.List.{IsPrefix}
use Rattle.session_core.specs.declared.line.Answer.{Answer}
use Rattle.session_core.specs.declared.line.Line.{Line}
use Rattle.session_core.specs.Answers.{reply_to}
use Rattle.live_laws.specs.Lanes.{Step}

-- the step of a reply to a line: so many entries the lane had seen, and this was heard of the line of an `after`
abbrev pub step_of : Line → Option ℕ → Answer → ℕ → Option ℕ → Step
step_of l n answer noted heard =
    record { turn = record { line = l; reply = reply_to l n answer }; noted = noted; heard = heard }
