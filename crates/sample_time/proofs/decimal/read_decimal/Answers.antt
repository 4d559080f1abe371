use Rattle.std.proofs.Common.{rules}
use Rattle.sample_time.specs.Reading.{decimal_of, value_at}
use Rattle.sample_time.proofs.Readings.{reading_is, spelling_is, below_is}
use Rattle.sample_time.proofs.decimal.read_decimal.Goals as goal

pub returns-in-Some-clause-answer : goal.returns-in-Some-clause-answer
unfolding decimal_of value_at
returns-in-Some-clause-answer c = search rules

pub returns-in-Some-clause-reading : goal.returns-in-Some-clause-reading
returns-in-Some-clause-reading c =
    reading_is c.args.text.now _ (returns-in-Some-clause-answer c)

pub returns-in-Some-clause-spelled : goal.returns-in-Some-clause-spelled
returns-in-Some-clause-spelled c =
    spelling_is c.args.text.now _ (returns-in-Some-clause-answer c)

pub returns-in-Some-clause-below : goal.returns-in-Some-clause-below
returns-in-Some-clause-below c =
    below_is c.args.text.now _ (returns-in-Some-clause-answer c)

pub returns-in-None-clause-answer : goal.returns-in-None-clause-answer
unfolding decimal_of value_at
returns-in-None-clause-answer c = search rules

pub returns-in-None-clause-reading : goal.returns-in-None-clause-reading
returns-in-None-clause-reading c =
    reading_is c.args.text.now _ (returns-in-None-clause-answer c)
