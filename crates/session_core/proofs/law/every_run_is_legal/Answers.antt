use Rattle.session_core.proofs.Runs.{run_legal}
use Rattle.session_core.proofs.law.every_run_is_legal.Goals as goal

pub returns : goal.returns
returns c = record { legal = run_legal }
