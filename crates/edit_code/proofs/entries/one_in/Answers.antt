use Rattle.std.proofs.Common.{sym, ◌∙◌}
use Rattle.edit_code.proofs.ReadSteps.{one_made}
use Rattle.edit_code.proofs.entries.one_in.Goals as goal

pub returns-in_ok-edits-in-Some : goal.returns-in_ok-edits-in-Some
returns-in_ok-edits-in-Some c =
    one_made c.args.raw.now c.in-Some.key c.args.fields c.edit_of.result c.in_ok-edits-in-Some.edits
    (sym c.in-Some.is ∙ c.in_ok-key.ensures) c.edit_of.ensures c.in_ok-edits-in-Some.ensures
