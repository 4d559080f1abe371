use Rattle.std.proofs.Common.{◌∙◌, sym}
use Rattle.script_runs.proofs.at_once.live_read.Goals as goal

pub returns-clause-says : goal.returns-clause-says
returns-clause-says g c = λ store begin disk told refusals refusals_after parsed over x given requests.
    let v = c.lines.view_is in
    c.live_configured.ensures.says store begin disk told refusals refusals_after parsed over x (sym given ∙ c.in-Some.is) (cc)
