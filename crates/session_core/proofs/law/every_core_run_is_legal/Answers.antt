use Rattle.session_core.proofs.Runs.{core_run_legal}
use Rattle.session_core.proofs.law.every_core_run_is_legal.Goals as goal

pub returns : goal.returns
returns c = record { legal = core_run_legal }
