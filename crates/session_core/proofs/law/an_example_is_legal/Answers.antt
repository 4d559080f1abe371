use Rattle.session_core.proofs.Worked.{example_fits, example_replies_are, example_history_is, example_legal, example_sizes}
use Rattle.session_core.proofs.law.an_example_is_legal.Goals as goal

pub returns : goal.returns
returns c = record { fits = example_fits; replies = example_replies_are; history = example_history_is; legal = example_legal; sizes = example_sizes }
