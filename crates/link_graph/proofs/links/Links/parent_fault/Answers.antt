use Rattle.std.proofs.Common.{◌∙◌, ap, sym, eqb, option_map}
use Rattle.emu_names.specs.declared.rules.Broken.TheVariants.{OneParent}
use Rattle.link_graph.proofs.Keeping.{first_near}
use Rattle.link_graph.proofs.links.Links.parent_fault.Goals as goal

pub returns-in_err-link : goal.returns-in_err-link
returns-in_err-link c =
    let first = first_near (λ l. eqb l.to.0 c.args.to.0) (λ l. eqb l.definition c.args.definition) _ _ _ c.near.ensures c.first_of.ensures in
    c.from_residual.ensures ∙ ap (option_map (λ l. OneParent l.from)) (sym c.in_err-link.was ∙ first)

pub returns : goal.returns
returns c =
    let first = first_near (λ l. eqb l.to.0 c.args.to.0) (λ l. eqb l.definition c.args.definition) _ _ _ c.near.ensures c.first_of.ensures in
    ap (option_map (λ l. OneParent l.from)) (sym c.in_ok-link.was ∙ first)
