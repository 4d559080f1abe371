use Rattle.std.proofs.Common.{get_or, map, refl, arith}
use Rattle.std.proofs.lemmas.List.{length-map}
use Rattle.level_items.specs.Levels.{label_of}
use Rattle.eql_columns.proofs.Tests.{answers_more, label_numbered, numbers_of}
use Rattle.eql_columns.proofs.patterns.answer_at.Goals as goal

pub learned_at-is-requires-clause-number : goal.learned_at-is-requires-clause-number
learned_at-is-requires-clause-number c =
    label_numbered c.args.indexed.now.labels c.args.column.now c.args.attribute c.args.items.now c.args.at c.requires.numbers c.requires.at

pub returns-clause-answers : goal.returns-clause-answers
returns-clause-answers c =
    answers_more c.args.matcher.now c.args.column.now (map (label_of c.args.attribute) c.args.items.now) c.args.answers.now c.set.new.self
    c.args.at (get_or c.args.column.now c.args.at 0) c.learned_at-is.result
    (numbers_of c.args.indexed.now.labels c.args.column.now c.args.attribute c.args.items.now c.requires.numbers) c.requires.answers refl
    (omega (arith, c.requires.at, length-map c.args.items.now (label_of c.args.attribute))) c.learned_at-is.ensures.answer c.set.ensures
