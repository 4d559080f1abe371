use Rattle.std.proofs.Common.{◌≡◌, ap, ◌∙◌, rules}
use Rattle.eql_columns.specs.Inner.Labels.{is_among}
use Rattle.eql_columns.proofs.Known.{answer_to}
use Rattle.eql_columns.proofs.groups.Group.learn.Goals as goal

pub keep-requires : goal.keep-requires
keep-requires c =
    let own : c.as_slice.result.now ≡ c.args.self.now = search (rules, c.as_slice.ensures, c.self.view_is) in
    answer_to (is_among c.args.self.now) c.args.label.now c.args.key c.is_among-is.result c.requires
    (c.is_among-is.ensures ∙ ap (λ labels. is_among labels c.args.label.now) own)
