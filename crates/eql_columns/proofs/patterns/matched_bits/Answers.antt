use Rattle.std.proofs.Common.{◌≡◌, length, map, refl, arith, rules}
use Rattle.std.specs.Prelude.{replicate}
use Rattle.level_items.specs.Levels.{label_of}
use Rattle.eql_columns.proofs.Bits.{filled_none}
use Rattle.eql_columns.proofs.Tests.{answers_none, answers_within, matched_all, no_answer}
use Rattle.eql_columns.proofs.patterns.matched_bits.Goals as goal

pub loop-at-init : goal.loop-at-init
loop-at-init c =
    let is : c.from_vec-answers.result ≡ replicate c.numbers_within.result no_answer = search rules in
    record {
      same = refl;
      noted = answers_none c.args.matcher.now c.args.column.now (map (label_of c.args.attribute) c.args.items.now) c.numbers_within.result
          c.from_vec-answers.result is;
      within = answers_within c.args.column.now c.numbers_within.result c.from_vec-answers.result is c.numbers_within.ensures;
      bits = filled_none _ _ _ _ c.in_ok-row.ensures refl;
    }

pub returns : goal.returns
returns c =
    matched_all c.args.matcher.now c.args.attribute c.args.items.now c.loop-at.row (length c.args.items.now) c.loop-at.at
    c.loop-at.invariant.bits refl (omega arith)
