-- What is known of the lanes when their shares are put together.
use Rattle.std.proofs.Common.{◌≡◌, ℕ, List, sym, subst}
use Rattle.live_seats.specs.session_core.declared.line.Line.{Line}
use Rattle.live_seats.specs.live_laws.Lanes.{Step}
use Rattle.live_run.specs.Inner.Running.{HaveLanes}

-- all lanes have ended
pub settled_lanes : (count seats : ℕ) (lines : List Line) (rests done : List (List Step)) → rests ≡ done → count ≡ seats
    → HaveLanes seats lines done → HaveLanes count lines rests
settled_lanes count seats lines rests done same number lanes =
    subst (λ (n : ℕ). HaveLanes n lines rests) (sym number)
    (subst (λ (ran : List (List Step)). HaveLanes seats lines ran) (sym same) lanes)
