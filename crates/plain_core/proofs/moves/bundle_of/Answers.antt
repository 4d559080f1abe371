use Rattle.std.proofs.Common.{sym, ◌∙◌, ap, option_copied}
use Rattle.edit_undo.specs.edit_rules.declared.acts.Act.{Act}
use Rattle.edit_undo.specs.Inverse.{bundle_for}
use Rattle.plain_core.proofs.Backs.{list_before, list_bundle}
use Rattle.plain_core.proofs.moves.bundle_of.Goals as goal

pub returns-in-Edits-clause-bundle : goal.returns-in-Edits-clause-bundle
returns-in-Edits-clause-bundle c =
    let bundles = c.args.database.now.bundles in
    c.bundle.ensures.bundle
    ∙ list_bundle c.key.result.now c.in-Edits.edits bundles c.len-edits.ensures.together c.key.ensures
    ∙ ap (λ (act : Act). bundle_for act bundles) (sym c.in-Edits.is)

pub returns-in-Edits-clause-before : goal.returns-in-Edits-clause-before
returns-in-Edits-clause-before c =
    list_before c.args.database.now c.requires.0 c.key.result.now c.in-Edits.edits c.args.act.now (option_copied c.bundle.result)
    c.len-count.ensures.rules c.key.ensures c.in-Edits.is (returns-in-Edits-clause-bundle c) c.requires.1
