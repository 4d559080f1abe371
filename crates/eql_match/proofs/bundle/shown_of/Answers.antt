use Rattle.std.proofs.Common.{◌≡◌, ap, sym, ◌∙◌, rules}
use Rattle.std.specs.List.{list_all}
use Rattle.eql_match.specs.Inner.Shown.{is_bare}
use Rattle.eql_match.proofs.Bare.{shown_set}
use Rattle.eql_match.proofs.bundle.shown_of.Goals as goal

pub returns-then-are_bare : goal.returns-then-are_bare
returns-then-are_bare c =
    let same : c.as_slice.result.now ≡ c.args.found = search (rules, c.as_slice.ensures, c.found.view_is) in
    shown_set c.args.marked c.args.found c.requires.sorted c.requires.room c.if-not-marked.true
    (ap (list_all is_bare) (sym same) ∙ sym c.are_bare.ensures ∙ c.if-are_bare.true)
