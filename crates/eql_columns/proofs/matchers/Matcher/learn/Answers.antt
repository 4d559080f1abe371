use Rattle.std.proofs.Common.{ap, sym, ◌∙◌}
use Rattle.label_match.specs.Pattern.{matches_label}
use Rattle.eql_columns.proofs.Known.{answer_to}
use Rattle.eql_columns.proofs.matchers.Matcher.learn.Goals as goal

pub keep-requires : goal.keep-requires
keep-requires c =
    answer_to (matches_label c.matches-is.new.self) c.args.label.now c.args.key c.matches-is.result c.requires
    (c.matches-is.ensures.found ∙ ap (λ pattern. matches_label pattern c.args.label.now) (sym c.matches-is.ensures.same))
