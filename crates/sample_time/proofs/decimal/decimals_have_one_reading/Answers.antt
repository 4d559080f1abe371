use Rattle.sample_time.proofs.Unique.{one_spelling}
use Rattle.sample_time.proofs.decimal.decimals_have_one_reading.Goals as goal

pub returns-clause-spelling : goal.returns-clause-spelling
returns-clause-spelling c = one_spelling
